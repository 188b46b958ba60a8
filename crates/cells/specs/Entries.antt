-- Section 4, writing: the file's records that the entries in memory become, and each node's links and each junction's
-- heightmap.
use Rattle.std.specs.Prelude.{ℕ, ◌+◌, ◌*◌, ◌%◌, cond, List, eqb, take, drop}
use Rattle.std.specs.Float.{binary32}
use Rattle.std.specs.Float.Ieee.{of_bits}
use Rattle.numbers.specs.Steps.{step_of}
use Rattle.records.specs.declared.node.Node as raw-node
use Rattle.records.specs.declared.link.NodeLink.{NodeLink}
use Rattle.records.specs.declared.junction.NodeJunction.{NodeJunction}
use Rattle.cells.specs.declared.node_entry.NodeEntry.{NodeEntry}
use Rattle.cells.specs.declared.link.PathLink.{PathLink}
use Rattle.cells.specs.declared.junction_entry.JunctionEntry.{JunctionEntry}
use Rattle.cells.specs.Nodes.{value_count}

-- a node's own links; a range that leaves the list is cut
unfoldable pub links_in : List PathLink → NodeEntry → List PathLink
links_in links n = take n.link_count (drop n.link_id links)

-- a junction's heightmap, likewise
unfoldable pub values_in : List ℕ → JunctionEntry → List ℕ
values_in heights j = take (value_count j) (drop j.heightmap_ptr heights)

-- Where the file says that a node's links start, with so many links before its own, and so many of its own. T-05: a
-- node without links stores 0.
abbrev pub stored_start : ℕ → ℕ → ℕ
stored_start before count = cond (eqb count 0) 0 before

-- A node with `count` links, stored from `start` on. T-10: the unused fields are stored as they are kept. Section 4:
-- of flags5 the low three bits are stored. Section 3: coordinates are stored as steps.
unfoldable pub file_node : ℕ → ℕ → NodeEntry → raw-node.Node
file_node start count n = record {
  unused0 = n.unused0;
  unused1 = n.unused1;
  unused2 = n.unused2;
  unused3 = n.unused3;
  area_id = n.area_id;
  node_id = n.node_id;
  street_name = n.street_name;
  unused4 = n.unused4;
  link_id = start;
  position_x = step_of 2 (of_bits binary32 n.position.x);
  position_y = step_of 2 (of_bits binary32 n.position.y);
  flags0 = n.flags0;
  flags1 = n.flags1;
  position_z = step_of 5 (of_bits binary32 n.position.z);
  flags2 = n.flags2;
  link_count_flags = count * 8 + n.flags5 % 8;
  flags3 = n.flags3;
  flags4 = n.flags4;
}

unfoldable pub file_link : PathLink → NodeLink
file_link l = record {
  area_id = l.area_id;
  node_id = l.node_id;
  flags0 = l.flags0;
  flags1 = l.flags1;
  flags2 = l.flags2;
  link_length = l.length;
}

unfoldable pub file_junction : ℕ → JunctionEntry → NodeJunction
file_junction start j = record {
  max_z = step_of 5 (of_bits binary32 j.max_z);
  position_x = step_of 2 (of_bits binary32 j.x);
  position_y = step_of 2 (of_bits binary32 j.y);
  min_z = step_of 5 (of_bits binary32 j.min_z);
  heightmap_ptr = start;
  heightmap_dim_x = j.width;
  heightmap_dim_y = j.height;
}
