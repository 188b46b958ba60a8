-- The cells that storing keeps: coordinates in whole steps, flags5 in three bits, numbers that fit their fields,
-- whole heightmaps.
-- Every cell that was read is one, and renumbering gives one again.
use Prim.Native.Nat.{ℕ, ◌*◌, ◌<◌}
use mathlib.Core.Path.{◌≡◌}
use lib.ListN.{length}
use lib.Ieee.{binary32, of_bits, to_bits}
use Rattle.std.specs.List.{All}
use Rattle.numbers.specs.Steps.{step_of, unstep}
use Rattle.records.proofs.RecordBack.{RefFits}
use Rattle.cells.specs.declared.node_entry.NodeEntry.{NodeEntry}
use Rattle.cells.specs.Cell.{Node, Junction, Cell}
use Rattle.cells.proofs.Forms.EntryFits.{LinkFits}

-- the bits of a coordinate in whole steps
abbrev pub InSteps : ℕ → ℕ → Type 0
InSteps k b = to_bits binary32 (unstep k (step_of k (of_bits binary32 b))) ≡ b

pub record BodyFits (m : NodeEntry) : Type 0 where
  pub street_name : m.street_name < 4294967296
  pub flags0 : m.flags0 < 256
  pub flags1 : m.flags1 < 256
  pub flags2 : m.flags2 < 256
  pub flags3 : m.flags3 < 256
  pub flags4 : m.flags4 < 256
  pub flags5 : m.flags5 < 256
  pub unused0 : m.unused0 < 4294967296
  pub unused1 : m.unused1 < 4294967296
  pub unused2 : m.unused2 < 4294967296
  pub unused3 : m.unused3 < 4294967296
  pub unused4 : m.unused4 < 65536

pub record KeptNode (n : Node) : Type 0 where
  pub area : n.area < 65536
  pub number : n.number < 65536
  pub x : InSteps 2 n.body.position.x
  pub y : InSteps 2 n.body.position.y
  pub z : InSteps 5 n.body.position.z
  pub body : BodyFits n.body
  pub flags5 : n.body.flags5 < 8
  pub links : All LinkFits n.links

abbrev pub IsByte : ℕ → Type 0
IsByte v = v < 256

abbrev pub IsWord : ℕ → Type 0
IsWord v = v < 4294967296

pub record KeptJunction (j : Junction) : Type 0 where
  pub x : InSteps 2 j.x
  pub y : InSteps 2 j.y
  pub low : InSteps 5 j.low
  pub high : InSteps 5 j.high
  pub width : j.width < 256
  pub height : j.height < 256
  pub full : length j.values ≡ j.width * j.height
  pub values : All IsByte j.values

pub record Kept (c : Cell) : Type 0 where
  pub nodes : All KeptNode c.nodes
  pub junctions : All KeptJunction c.junctions
  pub refs : All RefFits c.refs
  pub vehicles : IsWord c.vehicles
  pub peds : IsWord c.peds
  pub vft : IsWord c.vft
  pub seven : length c.words ≡ 7
  pub words : All IsWord c.words
