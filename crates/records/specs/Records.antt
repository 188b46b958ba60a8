-- Section 2: the four records, read at a place of a list of bytes, and written. Fields as in the four `Pod` impls.
use Rattle.std.specs.Prelude.{ℕ, ◌+◌, List, ◌++◌}
use Rattle.records.specs.Bytes.{byte_at, le16, le32, signed16, bits16, bytes8, bytes16, bytes32}
use Rattle.records.specs.declared.node.Node.{Node}
use Rattle.records.specs.declared.link.NodeLink.{NodeLink}
use Rattle.records.specs.declared.junction.NodeJunction.{NodeJunction}
use Rattle.records.specs.declared.junction_ref.NodeJunctionRef.{NodeJunctionRef}

-- Section 2: the bytes that a record of each kind takes.
abbrev pub node_size : ℕ
node_size = 40

abbrev pub link_size : ℕ
link_size = 8

abbrev pub junction_size : ℕ
junction_size = 12

abbrev pub ref_size : ℕ
ref_size = 8

-- Section 2: a node.
unfoldable pub node_at : List ℕ → ℕ → Node
node_at s at = record {
  unused0 = le32 s at;
  unused1 = le32 s (at + 4);
  unused2 = le32 s (at + 8);
  unused3 = le32 s (at + 12);
  area_id = le16 s (at + 16);
  node_id = le16 s (at + 18);
  street_name = le32 s (at + 20);
  unused4 = le16 s (at + 24);
  link_id = le16 s (at + 26);
  position_x = signed16 (le16 s (at + 28));
  position_y = signed16 (le16 s (at + 30));
  flags0 = byte_at s (at + 32);
  flags1 = byte_at s (at + 33);
  position_z = signed16 (le16 s (at + 34));
  flags2 = byte_at s (at + 36);
  link_count_flags = byte_at s (at + 37);
  flags3 = byte_at s (at + 38);
  flags4 = byte_at s (at + 39);
}

unfoldable pub node_bytes : Node → List ℕ
node_bytes n =
    bytes32 n.unused0 ++ bytes32 n.unused1 ++ bytes32 n.unused2 ++ bytes32 n.unused3
    ++ bytes16 n.area_id ++ bytes16 n.node_id ++ bytes32 n.street_name
    ++ bytes16 n.unused4 ++ bytes16 n.link_id
    ++ bytes16 (bits16 n.position_x) ++ bytes16 (bits16 n.position_y)
    ++ bytes8 n.flags0 ++ bytes8 n.flags1
    ++ bytes16 (bits16 n.position_z)
    ++ bytes8 n.flags2 ++ bytes8 n.link_count_flags ++ bytes8 n.flags3 ++ bytes8 n.flags4

-- Section 2: a link.
unfoldable pub link_at : List ℕ → ℕ → NodeLink
link_at s at = record {
  area_id = le16 s at;
  node_id = le16 s (at + 2);
  flags0 = byte_at s (at + 4);
  flags1 = byte_at s (at + 5);
  flags2 = byte_at s (at + 6);
  link_length = byte_at s (at + 7);
}

unfoldable pub link_bytes : NodeLink → List ℕ
link_bytes l =
    bytes16 l.area_id ++ bytes16 l.node_id
    ++ bytes8 l.flags0 ++ bytes8 l.flags1 ++ bytes8 l.flags2 ++ bytes8 l.link_length

-- Section 2: a junction.
unfoldable pub junction_at : List ℕ → ℕ → NodeJunction
junction_at s at = record {
  max_z = signed16 (le16 s at);
  position_x = signed16 (le16 s (at + 2));
  position_y = signed16 (le16 s (at + 4));
  min_z = signed16 (le16 s (at + 6));
  heightmap_ptr = le16 s (at + 8);
  heightmap_dim_x = byte_at s (at + 10);
  heightmap_dim_y = byte_at s (at + 11);
}

unfoldable pub junction_bytes : NodeJunction → List ℕ
junction_bytes j =
    bytes16 (bits16 j.max_z) ++ bytes16 (bits16 j.position_x) ++ bytes16 (bits16 j.position_y)
    ++ bytes16 (bits16 j.min_z) ++ bytes16 j.heightmap_ptr ++ bytes8 j.heightmap_dim_x ++ bytes8 j.heightmap_dim_y

-- Section 2: a ref.
unfoldable pub ref_at : List ℕ → ℕ → NodeJunctionRef
ref_at s at = record {
  area_id = le16 s at;
  node_id = le16 s (at + 2);
  junction_id = le16 s (at + 4);
  unk0 = le16 s (at + 6);
}

unfoldable pub ref_bytes : NodeJunctionRef → List ℕ
ref_bytes r = bytes16 r.area_id ++ bytes16 r.node_id ++ bytes16 r.junction_id ++ bytes16 r.unk0
