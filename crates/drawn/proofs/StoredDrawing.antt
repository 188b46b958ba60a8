-- Coordinates stay stored ones under every call whose own coordinates are: adding nodes and setting positions store
-- them, reading and
-- write-then-read give them, and only put_node, put_junction and add_junction can bring in raw ones (or a flags5 over
-- three bits).
use Rattle.std.specs.List.{All}
use Rattle.std.proofs.lemmas.List.Elements.{All-nil, All-push, All-set, All-take, All-same, All-append, All-get_or}
use Rattle.std.proofs.lemmas.List.Elements.{All-from_get_or}
use Prim.Native.Nat.{ℕ, ◌<◌}
use native.Mathlib.Omega.{arith}
use mathlib.Core.Path.{◌≡◌, refl, ap, ◌∙◌}
use mathlib.Core.Bool.{true}
use mathlib.Core.List.{List, [], ◌∷◌}
use lib.ListN.{length}
use Rattle.numbers.specs.Positions.{quantised, dequantised}
use Rattle.numbers.specs.declared.math.Vec3.{Vec3}
use Rattle.cells.specs.Order.{keep, parted}
use Rattle.cells.specs.NodeAccess.{new_node}
use Rattle.cells.specs.Memory.{Memory}
use Rattle.cells.specs.Cell.{Node, Junction, Cell, no_body, no_node, node_at, is_ped_node, is_vehicle_node, old_nodes}
use Rattle.cells.specs.Cell.{ordered, number_nodes, renumber_cell}
use Rattle.cells.specs.CellOf.{cell_of}
use Rattle.cells.specs.FileCell.{file_cell}
use Rattle.cells.specs.EditedCell.{node_from, node_moved, junction_from, with_nodes, with_junctions}
use Rattle.cells.specs.EntryForms.{bits_in, node_as_entry, junction_as_entry}
use Rattle.cells.specs.declared.node.PathNode.{PathNode}
use Rattle.cells.specs.declared.link.PathLink.{PathLink}
use Rattle.cells.specs.declared.junction.PathJunction.{PathJunction}
use Rattle.cells.specs.Read.{read_of}
use Rattle.cells.proofs.Reading.FileRead.{read_cell}
use Rattle.cells.proofs.WritingBack.Kept.{all_kept, read_kept}
use Rattle.cells.proofs.Reading.NewYnd.{new_empty}
use Rattle.cells.proofs.Renumbering.NewCell.{number_length, number_at}
use Rattle.walks.specs.Calls.{Call}
use Rattle.walks.specs.Claim.{Unnoticed, Demand3}
use Rattle.walks.specs.Sound.{sound}
use Rattle.cells.specs.StoredCell.{junction_at}
use Rattle.cells.specs.EditedCell.{node_linked, junction_mapped}
use Rattle.drawn.specs.Meaning.{edit_cell}
use Rattle.drawn.specs.Changes.{Edit, Change, new, reading, renumbering, write_read, edit, after, run}
use Rattle.drawn.specs.Changes.{add_node, add_link, add_ref, add_junction}
use Rattle.drawn.specs.Changes.{put_node, set_position, put_link, put_ref, put_junction, put_height}
use Rattle.drawn.specs.Changes.{put_links, put_heightmap, truncate_nodes, truncate_junctions, truncate_refs}
use Rattle.drawn.specs.Changes.{set_vft, set_vehicle_node_count, set_ped_node_count, set_unknowns}
use Rattle.cells.specs.StoredCell.{no_junction}
use Rattle.drawn.specs.Meaning.{change_cell, is_accepted}
use Rattle.cells.specs.NewYnd.{new_cell}
use Rattle.drawn.specs.Fits.{ChangeFits}
use Rattle.drawn.specs.Made.{StoredNode, StoredJunction}
use Rattle.drawn.proofs.Fitted.{all_any}
use Rattle.drawn.specs.Fits.{AllFit}
use Rattle.drawn.specs.Made.{Made}
use Rattle.drawn.proofs.Made.{change_made, new_made, read_made, drawn_new}
use Rattle.drawn.proofs.WriteSettles.{step_stored, two, five, settled_stored}
use Rattle.drawn.proofs.SettledWalks.{step_none_2, step_none_5}
use Rattle.drawn.proofs.CallsMean.{change_means}
use Rattle.drawn.proofs.DrawnDemand.{made_demand_3}
use Rattle.drawn.specs.Made.{Stored, StoredEdit, StoredChange, AllStored}
use Rattle.drawn.proofs.FittedCells.{cond_test, kept_stored}

-- ---- edits

none_stored : StoredNode no_node
unfolding no_node no_body
none_stored = record { x = step_none_2; y = step_none_2; z = step_none_5; flags5 = omega arith }

none_junction : StoredJunction no_junction
unfolding no_junction
none_junction = record { x = step_none_2; y = step_none_2; low = step_none_5; high = step_none_5 }

new_stored : (area k : ℕ) (at : Vec3) → StoredNode
    (node_from [] (node_as_entry (new_node area k (dequantised (quantised at)))))
unfolding new_node
new_stored area k at = record {
  x = step_stored 2 at.x two;
  y = step_stored 2 at.y two;
  z = step_stored 5 at.z five;
  flags5 = omega arith;
}

moved_stored : (n : Node) (at : Vec3) → StoredNode n
    → StoredNode (node_moved (bits_in (dequantised (quantised at))) n)
moved_stored n at t = record {
  x = step_stored 2 at.x two;
  y = step_stored 2 at.y two;
  z = step_stored 5 at.z five;
  flags5 = t.flags5;
}

-- of a node and a junction, what else is another
linked_stored : (ls : List PathLink) (n : Node) → StoredNode n → StoredNode (node_linked ls n)
linked_stored ls n t = record { x = t.x; y = t.y; z = t.z; flags5 = t.flags5 }

put_stored : (ls : List PathLink) (x : PathNode) → StoredNode (node_from [] (node_as_entry x))
    → StoredNode (node_from ls (node_as_entry x))
put_stored ls x t = record { x = t.x; y = t.y; z = t.z; flags5 = t.flags5 }

valued_stored : (vs : List ℕ) (j : PathJunction) → StoredJunction (junction_from [] (junction_as_entry j))
    → StoredJunction (junction_from vs (junction_as_entry j))
valued_stored vs j t = record { x = t.x; y = t.y; low = t.low; high = t.high }

mapped_stored : (width height : ℕ) (vs : List ℕ) (j : Junction) → StoredJunction j
    → StoredJunction (junction_mapped width height vs j)
mapped_stored width height vs j t = record { x = t.x; y = t.y; low = t.low; high = t.high }

module _ (c : Cell) (s : Stored c) where
  stored_at : (p : ℕ) → StoredNode (node_at c.nodes p)
  stored_at p = all_any StoredNode c.nodes p no_node s.nodes none_stored

  junction_at_law : (p : ℕ) → StoredJunction (junction_at c.junctions p)
  junction_at_law p = all_any StoredJunction c.junctions p no_junction s.junctions none_junction

  with_stored_nodes : (ns : List Node) → All StoredNode ns → Stored (with_nodes ns c)
  with_stored_nodes ns k = record { nodes = k; junctions = s.junctions }

  with_stored_junctions : (js : List Junction) → All StoredJunction js → Stored (with_junctions js c)
  with_stored_junctions js k = record { nodes = s.nodes; junctions = k }

  as_stored : {d : Cell} → d.nodes ≡ c.nodes → d.junctions ≡ c.junctions → Stored d
  as_stored e k = record {
    nodes = All-same StoredNode _ c.nodes e s.nodes;
    junctions = All-same StoredJunction _ c.junctions k s.junctions;
  }

  pub edit_stored : (e : Edit) → StoredEdit e → Stored (edit_cell e c)
  edit_stored (add_node area at) a =
      with_stored_nodes _ (All-push StoredNode c.nodes _ s.nodes (new_stored area (length c.nodes) at))
  edit_stored (add_link p x) a = with_stored_nodes _ (All-set StoredNode c.nodes p _
      (linked_stored _ (node_at c.nodes p) (stored_at p)) s.nodes)
  edit_stored (add_ref r) a = as_stored refl refl
  edit_stored (add_junction j values) a =
      with_stored_junctions _ (All-push StoredJunction c.junctions _ s.junctions (valued_stored values j a))
  edit_stored (put_node p x) a = with_stored_nodes _ (All-set StoredNode c.nodes p _ (put_stored _ x a) s.nodes)
  edit_stored (set_position p at) a = with_stored_nodes _ (All-set StoredNode c.nodes p _
      (moved_stored (node_at c.nodes p) at (stored_at p)) s.nodes)
  edit_stored (put_link p k x) a = with_stored_nodes _ (All-set StoredNode c.nodes p _
      (linked_stored _ (node_at c.nodes p) (stored_at p)) s.nodes)
  edit_stored (put_ref p r) a = as_stored refl refl
  edit_stored (put_junction p j) a =
      with_stored_junctions _ (All-set StoredJunction c.junctions p _ (valued_stored _ j a) s.junctions)
  edit_stored (put_height p k v) a = with_stored_junctions _ (All-set StoredJunction c.junctions p _
      (mapped_stored _ _ _ (junction_at c.junctions p) (junction_at_law p)) s.junctions)
  edit_stored (put_links p ls) a = with_stored_nodes _ (All-set StoredNode c.nodes p _
      (linked_stored ls (node_at c.nodes p) (stored_at p)) s.nodes)
  edit_stored (put_heightmap p width height values) a = with_stored_junctions _ (All-set StoredJunction c.junctions p _
      (mapped_stored width height values (junction_at c.junctions p) (junction_at_law p)) s.junctions)
  edit_stored (truncate_nodes k) a = with_stored_nodes _ (All-take StoredNode k c.nodes s.nodes)
  edit_stored (truncate_junctions k) a = with_stored_junctions _ (All-take StoredJunction k c.junctions s.junctions)
  edit_stored (truncate_refs k) a = as_stored refl refl
  edit_stored (set_vft v) a = as_stored refl refl
  edit_stored (set_vehicle_node_count v) a = as_stored refl refl
  edit_stored (set_ped_node_count v) a = as_stored refl refl
  edit_stored (set_unknowns words) a = as_stored refl refl

-- ---- the other calls

renumber_stored : (c : Cell) → Stored c → Stored (renumber_cell c)
unfolding renumber_cell parted
renumber_stored c s =
    let old = old_nodes c.nodes in
    let kept : All StoredNode (ordered c.nodes) = All-append StoredNode (keep is_vehicle_node c.nodes)
    (keep is_ped_node c.nodes) (all_kept StoredNode is_vehicle_node c.nodes s.nodes)
    (all_kept StoredNode is_ped_node c.nodes s.nodes) in
    record {
      nodes = All-from_get_or StoredNode (number_nodes old 0 (ordered c.nodes)) no_node (λ i lt.
          let less : i < length (ordered c.nodes) = omega (arith, number_length old 0 (ordered c.nodes)) in
          let t = All-get_or StoredNode (ordered c.nodes) i no_node less kept in
          rw (number_at old 0 (ordered c.nodes) i less)
          (record { x = t.x; y = t.y; z = t.z; flags5 = t.flags5 }));
      junctions = s.junctions;
    }

new_cell_stored : Stored new_cell
new_cell_stored = record { nodes = All-nil StoredNode; junctions = All-nil StoredJunction }

cell_stored : (c : Cell) → Stored c → (k : Change) → StoredChange k → Stored (change_cell k c)
cell_stored c t new a = new_cell_stored
cell_stored c t (reading s g) a = kept_stored (file_cell s g) (read_kept s g)
cell_stored c t (renumbering sc ps) a = renumber_stored c t
cell_stored c t (write_read s) a = settled_stored c
cell_stored c t (edit e) a = edit_stored c t e a

pub change_stored : (m : Memory) → Made m → Stored (cell_of m) → (k : Change) → ChangeFits k → StoredChange k
    → Stored (cell_of (after m k))
change_stored m h t k fits a = rw (change_means m h k fits) (cond_test Stored (is_accepted m k)
    (change_cell k (cell_of m)) (cell_of m) (cell_stored (cell_of m) t k a) t)

pub run_stored : (m : Memory) → Made m → Stored (cell_of m) → (ks : List Change) → AllFit ks → AllStored ks
    → Stored (cell_of (run m ks))
unfolding run AllFit AllStored
run_stored m h t [] fits a = t
run_stored m h t (k ∷ ks) fits a = run_stored (after m k) (change_made m h k fits.0)
    (change_stored m h t k fits.0 a.0) ks fits.1 a.1

-- ---- a yard drawn from a new cell: demand 3 asks only that it is sound

first_made : (lent : Memory) → Made (after lent new)
unfolding after
first_made lent = new_made lent.nodes lent.links lent.junctions lent.heights lent.refs

first_stored : (lent : Memory) → Stored (cell_of (after lent new))
unfolding after
first_stored lent = rw (new_empty lent.nodes lent.links lent.junctions lent.heights lent.refs) new_cell_stored

pub yard_demand_3 : (lent : Memory) (drawing : List Change) → AllFit drawing → AllStored drawing → sound
    (cell_of (run (after lent new) drawing)) ≡ true
    → (ks : List Call) → Unnoticed (cell_of (run (after lent new) drawing)) (run (after lent new) drawing) ks
yard_demand_3 lent drawing fits a s ks =
    made_demand_3 (run (after lent new) drawing) (drawn_new lent drawing fits) s
    (run_stored (after lent new) (first_made lent) (first_stored lent) drawing fits a) ks

-- document 01's own claim is the instance of a cell as read
pub read_demand_3 : Demand3
read_demand_3 system graphics lent e s ks =
    let m = (read_of system graphics lent).memory in
    let same : cell_of m ≡ file_cell system graphics = read_cell system graphics lent e in
    rw same at (made_demand_3 m (read_made system graphics lent e) (ap sound same ∙ s)
    (rw same (kept_stored (file_cell system graphics) (read_kept system graphics))) ks)
