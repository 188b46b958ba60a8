-- Every public call that changes a cell, with what it is lent, and what it leaves of the cell and of the memory lent
-- to it, by the definitions that the functions' contracts cite. The constructors have the calls' own names.
use Rattle.std.specs.Prelude.{ℕ, List, [], ◌∷◌, length}
use Rattle.numbers.specs.declared.math.Vec3.{Vec3}
use Rattle.records.specs.declared.junction_ref.NodeJunctionRef.{NodeJunctionRef}
use Rattle.cells.specs.declared.node.PathNode.{PathNode}
use Rattle.cells.specs.declared.link.PathLink.{PathLink}
use Rattle.cells.specs.declared.junction.PathJunction.{PathJunction}
use Rattle.cells.specs.Memory.{Memory, memory, Left}
use Rattle.cells.specs.NewYnd.{new_ynd}
use Rattle.cells.specs.Read.{read_of}
use Rattle.cells.specs.Renumber.{renumber}
use Rattle.cells.specs.WriteRead.{write_read_of}
use Rattle.cells.specs.Edit.{nodes_left, links_left, junctions_left, heights_left, refs_left}
use Rattle.cells.specs.Edit as stores
use Rattle.cells.specs.Add as adds
use Rattle.cells.specs.AddLink as links
use Rattle.cells.specs.PutLinks as whole-links
use Rattle.cells.specs.PutHeightmap as whole-maps
use Rattle.cells.specs.Truncate.{counted}
use Rattle.cells.specs.Truncate as shorter
use Rattle.cells.specs.OwnWords.{with_vft, with_vehicles, with_peds, with_unknowns}

-- ---- the calls

-- An edit, with its arguments: places first, then what is added or stored.
pub data Edit : Type 0 where
  add_node : ℕ → Vec3 → Edit
  add_link : ℕ → PathLink → Edit
  add_ref : NodeJunctionRef → Edit
  add_junction : PathJunction → List ℕ → Edit
  put_node : ℕ → PathNode → Edit
  set_position : ℕ → Vec3 → Edit
  put_link : ℕ → ℕ → PathLink → Edit
  put_ref : ℕ → NodeJunctionRef → Edit
  put_junction : ℕ → PathJunction → Edit
  put_height : ℕ → ℕ → ℕ → Edit
  -- all links of a node; a junction's heightmap, of this width and height
  put_links : ℕ → List PathLink → Edit
  put_heightmap : ℕ → ℕ → ℕ → List ℕ → Edit
  -- shorter lists
  truncate_nodes : ℕ → Edit
  truncate_junctions : ℕ → Edit
  truncate_refs : ℕ → Edit
  -- the cell's own words
  set_vft : ℕ → Edit
  set_vehicle_node_count : ℕ → Edit
  set_ped_node_count : ℕ → Edit
  set_unknowns : List ℕ → Edit

-- A call, each in the five lists lent: a new cell, a reading of two sections, a renumbering with scratch and a list
-- for the new places, a write-then-read with section memory, an edit. All of any length and content.
pub data Change : Type 0 where
  new : Change
  reading : List ℕ → List ℕ → Change
  renumbering : List ℕ → List ℕ → Change
  write_read : List ℕ → Change
  edit : Edit → Change

-- ---- what they leave

-- a call that changes one list alone, and no count
-- what an edit answers, and the memory after it
unfoldable pub edited : Memory → Edit → Left
edited m (add_node area at) = adds.add_node m area at
edited m (add_link p x) = links.add_link m p x
edited m (add_ref r) = adds.add_ref m r
edited m (add_junction j values) = adds.add_junction m j values
edited m (put_node p x) = nodes_left m (stores.put_node m.ynd m.nodes p x)
edited m (set_position p at) = nodes_left m (stores.set_position m.ynd m.nodes p at)
edited m (put_link p k x) = links_left m (stores.put_link m.ynd m.nodes m.links p k x)
edited m (put_ref p r) = refs_left m (stores.put_ref m.ynd m.refs p r)
edited m (put_junction p j) = junctions_left m (stores.put_junction m.ynd m.junctions p j)
edited m (put_height p k v) = heights_left m (stores.put_height m.ynd m.junctions m.heights p k v)
edited m (put_links p ls) = whole-links.put_links m p ls
edited m (put_heightmap p width height values) = whole-maps.put_heightmap m p width height values
edited m (truncate_nodes k) = shorter.truncate_nodes m k
edited m (truncate_junctions k) = shorter.truncate_junctions m k
edited m (truncate_refs k) = shorter.truncate_refs m k
edited m (set_vft v) = adds.done (counted (with_vft m.ynd v) m)
edited m (set_vehicle_node_count v) = adds.done (counted (with_vehicles m.ynd v) m)
edited m (set_ped_node_count v) = adds.done (counted (with_peds m.ynd v) m)
edited m (set_unknowns words) = adds.done (counted (with_unknowns m.ynd words) m)

-- the memory after a call; a refused one leaves it as it was
unfoldable pub after : Memory → Change → Memory
after m new = memory new_ynd m.nodes m.links m.junctions m.heights m.refs
after m (reading system graphics) = (read_of system graphics m).memory
after m (renumbering scratch places) = (renumber m (length scratch) places).memory
after m (write_read section) = (write_read_of m section).memory
after m (edit e) = (edited m e).memory

-- the memory after a list of calls, each of which gets what the one before it left
unfoldable pub run : Memory → List Change → Memory
run m [] = m
run m (k ∷ ks) = run (after m k) ks
