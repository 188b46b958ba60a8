-- Section 4: a node and a junction as entries of lent memory, in whole numbers only, and as the structs that calls take
-- and return, whose coordinates are f32.
use Rattle.std.specs.Prelude.{ℕ}
use Rattle.std.specs.Float.{binary32}
use Rattle.std.specs.Float.Ieee.{to_bits, of_bits}
use Rattle.numbers.specs.declared.math.Vec3.{Vec3}
use Rattle.cells.specs.declared.node.PathNode.{PathNode}
use Rattle.cells.specs.declared.node_entry.NodeEntry.{NodeEntry}
use Rattle.cells.specs.declared.node_entry.PositionBits.{PositionBits}
use Rattle.cells.specs.declared.junction.PathJunction.{PathJunction}
use Rattle.cells.specs.declared.junction_entry.JunctionEntry.{JunctionEntry}

-- section 3: three f32, by their bits
abbrev pub bits_in : Vec3 → PositionBits
bits_in p = record { x = to_bits binary32 p.x; y = to_bits binary32 p.y; z = to_bits binary32 p.z }

abbrev pub metres_in : PositionBits → Vec3
metres_in b = record { x = of_bits binary32 b.x; y = of_bits binary32 b.y; z = of_bits binary32 b.z }

abbrev pub node_as_entry : PathNode → NodeEntry
node_as_entry n = record {
  area_id = n.area_id;
  node_id = n.node_id;
  street_name = n.street_name;
  position = bits_in n.position;
  flags0 = n.flags0;
  flags1 = n.flags1;
  flags2 = n.flags2;
  flags3 = n.flags3;
  flags4 = n.flags4;
  flags5 = n.flags5;
  link_count = n.link_count;
  zero = 0;
  link_id = n.link_id;
  unused0 = n.unused0;
  unused1 = n.unused1;
  unused2 = n.unused2;
  unused3 = n.unused3;
  unused4 = n.unused4;
  zeros = 0;
}

abbrev pub entry_as_node : NodeEntry → PathNode
entry_as_node n = record {
  area_id = n.area_id;
  node_id = n.node_id;
  street_name = n.street_name;
  position = metres_in n.position;
  flags0 = n.flags0;
  flags1 = n.flags1;
  flags2 = n.flags2;
  flags3 = n.flags3;
  flags4 = n.flags4;
  flags5 = n.flags5;
  link_id = n.link_id;
  link_count = n.link_count;
  unused0 = n.unused0;
  unused1 = n.unused1;
  unused2 = n.unused2;
  unused3 = n.unused3;
  unused4 = n.unused4;
}

abbrev pub junction_as_entry : PathJunction → JunctionEntry
junction_as_entry j = record {
  x = to_bits binary32 j.position.x;
  y = to_bits binary32 j.position.y;
  min_z = to_bits binary32 j.min_z;
  max_z = to_bits binary32 j.max_z;
  width = j.width;
  height = j.height;
  zero = 0;
  heightmap_ptr = j.heightmap_ptr;
}

abbrev pub entry_as_junction : JunctionEntry → PathJunction
entry_as_junction j = record {
  position = record { x = of_bits binary32 j.x; y = of_bits binary32 j.y };
  min_z = of_bits binary32 j.min_z;
  max_z = of_bits binary32 j.max_z;
  width = j.width;
  height = j.height;
  heightmap_ptr = j.heightmap_ptr;
}

-- an entry with so many links from there on
abbrev pub with_range : NodeEntry → ℕ → ℕ → NodeEntry
with_range n start count = record n { link_id = start; link_count = count }

-- an entry at another position
abbrev pub moved_to : Vec3 → NodeEntry → NodeEntry
moved_to p n = record n { position = bits_in p }
