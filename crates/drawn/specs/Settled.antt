-- What the first write-then-read makes of a cell: coordinates in whole steps (section 3), of flags5 the low three bits
-- (section 4); all else is as it was. And what a walk of it shows.
use Rattle.cells.specs.EditedCell.{with_lists}
use Rattle.std.specs.Prelude.{ℕ, ◌%◌, map}
use Rattle.std.specs.Float.{binary32}
use Rattle.std.specs.Float.Ieee.{of_bits, to_bits}
use Rattle.numbers.specs.Steps.{step_of, unstep}
use Rattle.std.proofs.Math.Option.{Option, none, some}
use Rattle.cells.specs.declared.node_entry.PositionBits.{PositionBits}
use Rattle.cells.specs.declared.node_entry.NodeEntry.{NodeEntry}
use Rattle.cells.specs.Cell.{Node, Junction, Cell}
use Rattle.walks.specs.Walk.{Seen, Visit, Trail}

-- ---- the cell

-- the bits of a coordinate, stored in steps of 1 / 2 ^ k and read
abbrev pub settled_step : ℕ → ℕ → ℕ
settled_step k b = to_bits binary32 (unstep k (step_of k (of_bits binary32 b)))

abbrev pub settled_position : PositionBits → PositionBits
settled_position p = record { x = settled_step 2 p.x; y = settled_step 2 p.y; z = settled_step 5 p.z }

abbrev pub settled_body : NodeEntry → NodeEntry
settled_body b = record b { position = settled_position b.position; flags5 = b.flags5 % 8 }

abbrev pub settled_node : Node → Node
settled_node n = record n { body = settled_body n.body }

abbrev pub settled_junction : Junction → Junction
settled_junction j = record j {
  x = settled_step 2 j.x;
  y = settled_step 2 j.y;
  low = settled_step 5 j.low;
  high = settled_step 5 j.high;
}

unfoldable pub settled : Cell → Cell
settled c = with_lists (map settled_node c.nodes) (map settled_junction c.junctions) c.refs c

-- ---- what a walk then shows: the same places, links and end, each node and junction settled

abbrev pub settled_option : Option Junction → Option Junction
settled_option (some j) = some (settled_junction j)
settled_option none = none

abbrev pub settled_seen : Seen → Seen
settled_seen s = record s { body = settled_body s.body; junction = settled_option s.junction }

abbrev pub settled_visit : Visit ℕ → Visit ℕ
settled_visit v = record v { seen = settled_seen v.seen }

abbrev pub settled_trail : Trail ℕ → Trail ℕ
settled_trail t = record t { visits = map settled_visit t.visits }
