-- What an accepted call makes of the cell, about the cell alone, and what every list of calls makes of it.
use Rattle.std.specs.Prelude.{ℕ, Bool, true, cond, List, [], ◌∷◌, ◌++◌, length, set, take}
use Rattle.std.specs.Result.{is_ok}
use Rattle.numbers.specs.Positions.{quantised, dequantised}
use Rattle.numbers.specs.declared.math.Vec3.{Vec3}
use Rattle.cells.specs.Memory.{Memory}
use Rattle.cells.specs.NodeAccess.{new_node}
use Rattle.cells.specs.EntryForms.{bits_in, node_as_entry, junction_as_entry}
use Rattle.cells.specs.NewYnd.{new_cell}
use Rattle.cells.specs.Cell.{Node, Cell, node_at, renumber_cell}
use Rattle.cells.specs.StoredCell.{junction_at, links_put, heightmap_put}
use Rattle.cells.specs.StoredCell.{vft_put, vehicles_put, peds_put, unknowns_put}
use Rattle.cells.specs.EditedCell.{node_from, node_moved, junction_from}
use Rattle.cells.specs.EditedCell.{with_nodes, with_refs, with_junctions, link_to, link_changed, height_changed}
use Rattle.cells.specs.FileCell.{file_cell}
use Rattle.cells.specs.Read.{read_of}
use Rattle.cells.specs.Renumber.{renumber}
use Rattle.cells.specs.WriteRead.{write_read_of}
use Rattle.drawn.specs.Changes.{Edit}
use Rattle.drawn.specs.Changes.{add_node, add_link, add_ref, add_junction}
use Rattle.drawn.specs.Changes.{put_node, set_position, put_link, put_ref, put_junction, put_height}
use Rattle.drawn.specs.Changes.{put_links, put_heightmap, truncate_nodes, truncate_junctions, truncate_refs}
use Rattle.drawn.specs.Changes.{set_vft, set_vehicle_node_count, set_ped_node_count, set_unknowns}
use Rattle.drawn.specs.Changes.{edited}
use Rattle.drawn.specs.Changes.{Change, new, reading, renumbering, write_read, edit, after}
use Rattle.drawn.specs.Settled.{settled}

-- ---- one call

-- a new node of this area and number, its position the stored one
abbrev pub new_at : ℕ → ℕ → Vec3 → Node
new_at area k at = node_from [] (node_as_entry (new_node area k (dequantised (quantised at))))

-- One entry more, last, one entry another, a list cut or a word another; all else is as it was.
abbrev pub edit_cell : Edit → Cell → Cell
-- one node more, without links; its number is its place, its position the stored one
edit_cell (add_node area at) c = with_nodes (c.nodes ++ (new_at area (length c.nodes) at ∷ [])) c
-- the node at p has one link more, last
edit_cell (add_link p x) c = link_to p x c
-- one ref more
edit_cell (add_ref r) c = with_refs (c.refs ++ (r ∷ [])) c
-- one junction more, with these values
edit_cell (add_junction j values) c = with_junctions (c.junctions ++ (junction_from values
    (junction_as_entry j) ∷ [])) c
-- the node at p is this one, with the links that it had
edit_cell (put_node p x) c = with_nodes (set c.nodes p (node_from (node_at c.nodes p).links (node_as_entry x))) c
-- the node at p stands at the stored position
edit_cell (set_position p at) c =
    with_nodes (set c.nodes p (node_moved (bits_in (dequantised (quantised at))) (node_at c.nodes p))) c
-- the link k of the node at p is this one
edit_cell (put_link p k x) c =
    with_nodes (set c.nodes p (link_changed k x (node_at c.nodes p))) c
-- the ref at p is this one
edit_cell (put_ref p r) c = with_refs (set c.refs p r) c
-- the junction at p is this one, with the values that it had
edit_cell (put_junction p j) c =
    with_junctions (set c.junctions p (junction_from (junction_at c.junctions p).values (junction_as_entry j))) c
-- the value k of the junction at p is this one
edit_cell (put_height p k v) c =
    with_junctions (set c.junctions p (height_changed k v (junction_at c.junctions p))) c
-- the links of the node at p are these
edit_cell (put_links p ls) c = links_put p ls c
-- the heightmap of the junction at p is this one
edit_cell (put_heightmap p width height values) c = heightmap_put p width height values c
-- the first k nodes, junctions or refs are left
edit_cell (truncate_nodes k) c = with_nodes (take k c.nodes) c
edit_cell (truncate_junctions k) c = with_junctions (take k c.junctions) c
edit_cell (truncate_refs k) c = with_refs (take k c.refs) c
-- one of the cell's own words is another
edit_cell (set_vft v) c = vft_put v c
edit_cell (set_vehicle_node_count v) c = vehicles_put v c
edit_cell (set_ped_node_count v) c = peds_put v c
edit_cell (set_unknowns words) c = unknowns_put words c

abbrev pub change_cell : Change → Cell → Cell
change_cell new c = new_cell
change_cell (reading system graphics) c = file_cell system graphics
change_cell (renumbering scratch places) c = renumber_cell c
change_cell (write_read section) c = settled c
change_cell (edit e) c = edit_cell e c

-- ---- a list of calls

-- whether a call is accepted, which the lists' lengths decide too
unfoldable pub is_accepted : Memory → Change → Bool
is_accepted m new = true
is_accepted m (reading system graphics) = is_ok (read_of system graphics m).answer
is_accepted m (renumbering scratch places) = is_ok (renumber m (length scratch) places).answer
is_accepted m (write_read section) = is_ok (write_read_of m section).answer
is_accepted m (edit e) = is_ok (edited m e).answer

-- the cell after the calls: a refused one leaves it as it was
unfoldable pub run_cell : Memory → List Change → Cell → Cell
run_cell m [] c = c
run_cell m (k ∷ ks) c = run_cell (after m k) ks (cond (is_accepted m k) (change_cell k c) c)
