-- Sections 3 and 4: the file's records as entries: coordinates are read from their steps; the low three bits of the
-- link count's byte are flags5.
use Rattle.std.specs.Prelude.{ℕ, ◌/◌, ◌%◌}
use Rattle.std.specs.Float.{binary32}
use Rattle.std.specs.Float.Ieee.{to_bits}
use Rattle.numbers.specs.Steps.{unstep}
use Rattle.numbers.specs.Positions.{dequantised}
use Rattle.records.specs.declared.node.Node as raw-node
use Rattle.records.specs.declared.link.NodeLink.{NodeLink}
use Rattle.records.specs.declared.junction.NodeJunction.{NodeJunction}
use Rattle.cells.specs.EntryForms.{bits_in}
use Rattle.cells.specs.declared.node_entry.NodeEntry.{NodeEntry}
use Rattle.cells.specs.declared.link.PathLink.{PathLink}
use Rattle.cells.specs.declared.junction_entry.JunctionEntry.{JunctionEntry}

-- T-10: the unused fields are kept as they are. The node's links stand from `first` on in memory.
unfoldable pub path_node : raw-node.Node → ℕ → NodeEntry
path_node n first = record {
  area_id = n.area_id;
  node_id = n.node_id;
  street_name = n.street_name;
  position = bits_in (dequantised (record { x = n.position_x; y = n.position_y; z = n.position_z }));
  flags0 = n.flags0;
  flags1 = n.flags1;
  flags2 = n.flags2;
  flags3 = n.flags3;
  flags4 = n.flags4;
  flags5 = n.link_count_flags % 8;
  link_count = n.link_count_flags / 8;
  zero = 0;
  link_id = first;
  unused0 = n.unused0;
  unused1 = n.unused1;
  unused2 = n.unused2;
  unused3 = n.unused3;
  unused4 = n.unused4;
  zeros = 0;
}

unfoldable pub path_link : NodeLink → PathLink
path_link l = record {
  area_id = l.area_id;
  node_id = l.node_id;
  flags0 = l.flags0;
  flags1 = l.flags1;
  flags2 = l.flags2;
  length = l.link_length;
}

-- its heightmap stands from `first` on in memory
unfoldable pub path_junction : NodeJunction → ℕ → JunctionEntry
path_junction j first = record {
  x = to_bits binary32 (unstep 2 j.position_x);
  y = to_bits binary32 (unstep 2 j.position_y);
  min_z = to_bits binary32 (unstep 5 j.min_z);
  max_z = to_bits binary32 (unstep 5 j.max_z);
  width = j.heightmap_dim_x;
  height = j.heightmap_dim_y;
  zero = 0;
  heightmap_ptr = first;
}
