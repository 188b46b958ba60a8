-- The arguments that a call can have: numbers that fit the types of the function's parameters. In a program every call
-- has such arguments; lists of numbers alone don't say so.
use Rattle.std.specs.Prelude.{ℕ, ◌<◌, ◌≡◌, List, [], ◌∷◌, length, get_or}
use lib.Dec.{T}
use Rattle.std.specs.Float.{binary32}
use Rattle.std.specs.Float.Ieee.{fits}
use Rattle.records.proofs.RecordBack.{RefFits}
use Rattle.cells.specs.declared.node.PathNode.{PathNode}
use Rattle.std.specs.List.{All}
use Rattle.cells.specs.declared.junction.PathJunction.{PathJunction}
use Rattle.cells.proofs.Forms.EntryFits.{LinkFits}
use Rattle.drawn.specs.Changes.{Edit, Change, new, reading, renumbering, write_read, edit}
use Rattle.drawn.specs.Changes.{add_node, add_link, add_ref, add_junction}
use Rattle.drawn.specs.Changes.{put_node, set_position, put_link, put_ref, put_junction, put_height}
use Rattle.drawn.specs.Changes.{put_links, put_heightmap, truncate_nodes, truncate_junctions, truncate_refs}
use Rattle.drawn.specs.Changes.{set_vft, set_vehicle_node_count, set_ped_node_count, set_unknowns}

-- ---- a node, a junction

pub record NodeFits (n : PathNode) : Type 0 where
  pub area_id : n.area_id < 65536
  pub node_id : n.node_id < 65536
  pub street_name : n.street_name < 4294967296
  pub x : T (fits binary32 n.position.x)
  pub y : T (fits binary32 n.position.y)
  pub z : T (fits binary32 n.position.z)
  pub flags0 : n.flags0 < 256
  pub flags1 : n.flags1 < 256
  pub flags2 : n.flags2 < 256
  pub flags3 : n.flags3 < 256
  pub flags4 : n.flags4 < 256
  pub flags5 : n.flags5 < 256
  pub link_id : n.link_id < 4294967296
  pub link_count : n.link_count < 256
  pub unused0 : n.unused0 < 4294967296
  pub unused1 : n.unused1 < 4294967296
  pub unused2 : n.unused2 < 4294967296
  pub unused3 : n.unused3 < 4294967296
  pub unused4 : n.unused4 < 65536

pub record JunctionFits (j : PathJunction) : Type 0 where
  pub x : T (fits binary32 j.position.x)
  pub y : T (fits binary32 j.position.y)
  pub min_z : T (fits binary32 j.min_z)
  pub max_z : T (fits binary32 j.max_z)
  pub width : j.width < 256
  pub height : j.height < 256
  pub heightmap_ptr : j.heightmap_ptr < 4294967296

-- ---- the calls

abbrev pub Bytes : List ℕ → Type 0
Bytes l = (i : ℕ) → i < length l → get_or l i 0 < 256

abbrev pub EditFits : Edit → Type 0
EditFits (add_node area at) = area < 65536
EditFits (add_link p x) = LinkFits x
EditFits (add_ref r) = RefFits r
EditFits (add_junction j values) = JunctionFits j × Bytes values
EditFits (put_node p x) = NodeFits x
EditFits (set_position p at) = Unit {0}
EditFits (put_link p k x) = LinkFits x
EditFits (put_ref p r) = RefFits r
EditFits (put_junction p j) = JunctionFits j
EditFits (put_height p k v) = v < 256
EditFits (put_links p ls) = All LinkFits ls
EditFits (put_heightmap p width height values) = (width < 256) × (height < 256) × Bytes values
EditFits (truncate_nodes k) = Unit {0}
EditFits (truncate_junctions k) = Unit {0}
EditFits (truncate_refs k) = Unit {0}
EditFits (set_vft v) = v < 4294967296
EditFits (set_vehicle_node_count v) = v < 4294967296
EditFits (set_ped_node_count v) = v < 4294967296
EditFits (set_unknowns words) = (length words ≡ 7) × ((i : ℕ) → i < length words → get_or words i 0 < 4294967296)

abbrev pub ChangeFits : Change → Type 0
ChangeFits new = Unit {0}
ChangeFits (reading system graphics) = Unit {0}
ChangeFits (renumbering scratch places) = Unit {0}
ChangeFits (write_read section) = Unit {0}
ChangeFits (edit e) = EditFits e

-- the arguments of all calls fit their types
unfoldable pub AllFit : List Change → Type 0
AllFit [] = Unit {0}
AllFit (k ∷ ks) = ChangeFits k × AllFit ks
