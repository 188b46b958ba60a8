-- Section 2: the root, 112 bytes at the start of the system section.
use Rattle.std.specs.Prelude.{ℕ, ◌*◌, ◌/◌, ◌%◌, List, [], ◌∷◌, ◌++◌, get_or}
use Rattle.records.specs.Bytes.{le16, le32, le64, bytes16, bytes32, bytes64}
use Rattle.records.specs.declared.root.Root.{Root}

-- Section 2: the seven unk words, unk24, unk34, unk48, unk4c, unk5c, unk68 and unk6c.
unfoldable pub unknowns_of : List ℕ → List ℕ
unknowns_of s = le32 s 36 ∷ le32 s 52 ∷ le32 s 72 ∷ le32 s 76 ∷ le32 s 92 ∷ le32 s 104 ∷ le32 s 108 ∷ []

-- Section 2: the root as read. Of the two ref counts the second is read; the word at 4 and the pages address at 8 are
-- not looked at.
unfoldable pub root_of : List ℕ → Root
root_of s = record {
  vft = le32 s 0;
  nodes = le64 s 16;
  node_count = le32 s 24;
  vehicle_node_count = le32 s 28;
  ped_node_count = le32 s 32;
  links = le64 s 40;
  link_count = le32 s 48;
  junctions = le64 s 56;
  heightmap = le64 s 64;
  refs = le64 s 80;
  ref_count = le16 s 90;
  junction_count = le32 s 96;
  heightmap_count = le32 s 100;
  unknowns = unknowns_of s;
}

-- Section 4: the page block follows the root, at system offset 112.
abbrev pub pages_address : ℕ
pages_address = 0x50000070

-- Sections 2 and 4: the root as written, with word 1 at offset 4. Both ref counts are written.
unfoldable pub root_bytes : Root → List ℕ
root_bytes r =
    bytes32 r.vft ++ bytes32 1 ++ bytes64 pages_address
    ++ bytes64 r.nodes ++ bytes32 r.node_count ++ bytes32 r.vehicle_node_count ++ bytes32 r.ped_node_count
    ++ bytes32 (get_or r.unknowns 0 0)
    ++ bytes64 r.links ++ bytes32 r.link_count ++ bytes32 (get_or r.unknowns 1 0)
    ++ bytes64 r.junctions ++ bytes64 r.heightmap ++ bytes32 (get_or r.unknowns 2 0) ++ bytes32 (get_or r.unknowns 3 0)
    ++ bytes64 r.refs ++ bytes16 r.ref_count ++ bytes16 r.ref_count ++ bytes32 (get_or r.unknowns 4 0)
    ++ bytes32 r.junction_count ++ bytes32 r.heightmap_count ++ bytes32 (get_or r.unknowns 5 0)
    ++ bytes32 (get_or r.unknowns 6 0)

-- The same in 28 words of 32 bits: an address takes two, the low one first; both ref counts stand in one.
unfoldable pub root_words : Root → List ℕ
root_words r =
    r.vft
    ∷ 1
    ∷ pages_address
    ∷ 0
    ∷ r.nodes % 4294967296
    ∷ r.nodes / 4294967296
    ∷ r.node_count
    ∷ r.vehicle_node_count
    ∷ r.ped_node_count
    ∷ get_or r.unknowns 0 0
    ∷ r.links % 4294967296
    ∷ r.links / 4294967296
    ∷ r.link_count
    ∷ get_or r.unknowns 1 0
    ∷ r.junctions % 4294967296
    ∷ r.junctions / 4294967296
    ∷ r.heightmap % 4294967296
    ∷ r.heightmap / 4294967296
    ∷ get_or r.unknowns 2 0
    ∷ get_or r.unknowns 3 0
    ∷ r.refs % 4294967296
    ∷ r.refs / 4294967296
    ∷ r.ref_count * 65537
    ∷ get_or r.unknowns 4 0
    ∷ r.junction_count
    ∷ r.heightmap_count
    ∷ get_or r.unknowns 5 0
    ∷ get_or r.unknowns 6 0
    ∷ []
