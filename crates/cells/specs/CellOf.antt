-- The cell that memory holds. Ranges that run out are cut.
-- Assumes nothing.
use Rattle.std.specs.Prelude.{ℕ, List, map, take, drop}
use Rattle.cells.specs.Nodes.{value_count}
use Rattle.cells.specs.Memory.{Memory}
use Rattle.cells.specs.Cell.{Node, Junction, Cell, body_of}
use Rattle.cells.specs.declared.node_entry.NodeEntry.{NodeEntry}
use Rattle.cells.specs.declared.link.PathLink.{PathLink}
use Rattle.cells.specs.declared.junction_entry.JunctionEntry.{JunctionEntry}
use Rattle.records.specs.declared.junction_ref.NodeJunctionRef.{NodeJunctionRef}

-- a node with its own copy of its links: `link_count` of them, from `link_id` on
abbrev pub node_with : List PathLink → NodeEntry → Node
node_with ls n = record {
  area = n.area_id;
  number = n.node_id;
  links = take n.link_count (drop n.link_id ls);
  body = body_of n;
}

-- a junction with its own copy of its values: width × height of them, from `heightmap_ptr` on
abbrev pub junction_with : List ℕ → JunctionEntry → Junction
junction_with hs j = record {
  x = j.x;
  y = j.y;
  low = j.min_z;
  high = j.max_z;
  width = j.width;
  height = j.height;
  values = take (value_count j) (drop j.heightmap_ptr hs);
}

-- of a list, the entries that its count says
unfoldable pub nodes_of : Memory → List Node
nodes_of m = map (node_with (take m.ynd.link_count m.links)) (take m.ynd.node_count m.nodes)

unfoldable pub junctions_of : Memory → List Junction
junctions_of m = map (junction_with (take m.ynd.heightmap_count m.heights)) (take m.ynd.junction_count m.junctions)

unfoldable pub refs_of : Memory → List NodeJunctionRef
refs_of m = take m.ynd.ref_count m.refs

unfoldable pub cell_of : Memory → Cell
cell_of m = record {
  nodes = nodes_of m;
  junctions = junctions_of m;
  refs = refs_of m;
  vehicles = m.ynd.vehicle_node_count;
  peds = m.ynd.ped_node_count;
  vft = m.ynd.vft;
  words = m.ynd.unknowns;
}
