-- What is known of every cell that calls can make: tidy in memory, with numbers that fit their fields.
use Rattle.std.specs.Prelude.{◌<◌, ◌≡◌, List, [], ◌∷◌, length}
use Rattle.std.specs.List.{All}
use Rattle.records.proofs.RecordBack.{RefFits}
use Rattle.cells.specs.Memory.{Memory}
use Rattle.cells.specs.Cell.{Node, Junction, Cell}
use Rattle.cells.specs.CellOf.{cell_of}
use Rattle.cells.specs.EntryForms.{node_as_entry, junction_as_entry}
use Rattle.cells.specs.EditedCell.{node_from, junction_from}
use Rattle.cells.proofs.Forms.EntryFits.{LinkFits}
use Rattle.cells.proofs.WritingBack.KeptCells.{InSteps, BodyFits, IsByte, IsWord}
use Rattle.drawn.specs.Tidy.{Tidy}
use Rattle.drawn.specs.Changes.{Edit, Change, new, reading, renumbering, write_read, edit}
use Rattle.drawn.specs.Changes.{add_node, add_link, add_ref, add_junction}
use Rattle.drawn.specs.Changes.{put_node, set_position, put_link, put_ref, put_junction, put_height}
use Rattle.drawn.specs.Changes.{put_links, put_heightmap, truncate_nodes, truncate_junctions, truncate_refs}
use Rattle.drawn.specs.Changes.{set_vft, set_vehicle_node_count, set_ped_node_count, set_unknowns}

-- ---- every made cell

pub record FittedNode (n : Node) : Type 0 where
  pub area : n.area < 65536
  pub number : n.number < 65536
  pub body : BodyFits n.body
  pub links : All LinkFits n.links

pub record FittedJunction (j : Junction) : Type 0 where
  pub width : j.width < 256
  pub height : j.height < 256
  pub values : All IsByte j.values

-- every number but the coordinates fits its field
pub record Fitted (c : Cell) : Type 0 where
  pub nodes : All FittedNode c.nodes
  pub junctions : All FittedJunction c.junctions
  pub refs : All RefFits c.refs
  pub vehicles : IsWord c.vehicles
  pub peds : IsWord c.peds
  pub vft : IsWord c.vft
  pub seven : length c.words ≡ 7
  pub words : All IsWord c.words

pub record Made (m : Memory) : Type 0 where
  pub tidy : Tidy m
  pub fits : Fitted (cell_of m)

-- ---- cells whose coordinates and flags5 are stored ones

-- coordinates in whole steps, flags5 in three bits
pub record StoredNode (n : Node) : Type 0 where
  pub x : InSteps 2 n.body.position.x
  pub y : InSteps 2 n.body.position.y
  pub z : InSteps 5 n.body.position.z
  pub flags5 : n.body.flags5 < 8

pub record StoredJunction (j : Junction) : Type 0 where
  pub x : InSteps 2 j.x
  pub y : InSteps 2 j.y
  pub low : InSteps 5 j.low
  pub high : InSteps 5 j.high

pub record Stored (c : Cell) : Type 0 where
  pub nodes : All StoredNode c.nodes
  pub junctions : All StoredJunction c.junctions

-- What a drawing may bring so that all coordinates stay stored ones. `set_position` and `add_node` store their
-- position themselves; `put_node` and the junctions' calls take it as it is.
abbrev pub StoredEdit : Edit → Type 0
StoredEdit (add_node area at) = Unit {0}
StoredEdit (add_link p x) = Unit {0}
StoredEdit (add_ref r) = Unit {0}
StoredEdit (add_junction j values) = StoredJunction (junction_from [] (junction_as_entry j))
StoredEdit (put_node p x) = StoredNode (node_from [] (node_as_entry x))
StoredEdit (set_position p at) = Unit {0}
StoredEdit (put_link p k x) = Unit {0}
StoredEdit (put_ref p r) = Unit {0}
StoredEdit (put_junction p j) = StoredJunction (junction_from [] (junction_as_entry j))
StoredEdit (put_height p k v) = Unit {0}
StoredEdit (put_links p ls) = Unit {0}
StoredEdit (put_heightmap p width height values) = Unit {0}
StoredEdit (truncate_nodes k) = Unit {0}
StoredEdit (truncate_junctions k) = Unit {0}
StoredEdit (truncate_refs k) = Unit {0}
StoredEdit (set_vft v) = Unit {0}
StoredEdit (set_vehicle_node_count v) = Unit {0}
StoredEdit (set_ped_node_count v) = Unit {0}
StoredEdit (set_unknowns words) = Unit {0}

abbrev pub StoredChange : Change → Type 0
StoredChange new = Unit {0}
StoredChange (reading system graphics) = Unit {0}
StoredChange (renumbering scratch places) = Unit {0}
StoredChange (write_read section) = Unit {0}
StoredChange (edit e) = StoredEdit e

unfoldable pub AllStored : List Change → Type 0
AllStored [] = Unit {0}
AllStored (k ∷ ks) = StoredChange k × AllStored ks
