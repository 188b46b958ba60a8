-- T-03: a round file names its start by the node's number, which renumbering changes.
use Rattle.std.specs.Prelude.{ℕ, List}
use Rattle.cells.specs.Memory.{Memory}
use Rattle.cells.specs.Cell.{node_at}
use Rattle.cells.specs.CellOf.{nodes_of}
use Rattle.walks.specs.Calls.{Call, run, moved}

-- the number of the node at a place
abbrev pub number_at : Memory → ℕ → ℕ
number_at m p = (node_at (nodes_of m) p).number

-- the number that the node first at place p has after the calls
abbrev pub present_number : Memory → List Call → ℕ → ℕ
present_number m calls p = number_at (run m calls) (moved m calls p)
