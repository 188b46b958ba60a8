-- Lists of renumberings and write-then-reads (demand 3's), from a cell whose coordinates may be raw: whether one of
-- them has settled it.
use Rattle.std.specs.Prelude.{Bool, false, ◌||◌, cond, List, [], ◌∷◌}
use Rattle.std.specs.Result.{is_ok}
use Rattle.cells.specs.Memory.{Memory}
use Rattle.cells.specs.Cell.{Cell}
use Rattle.cells.specs.CellOf.{cell_of}
use Rattle.cells.specs.WriteRead.{write_read_of}
use Rattle.walks.specs.Calls.{Call, renumbering, write_read, after}
use Rattle.drawn.specs.Settled.{settled}

-- this call is a write-then-read, and it is accepted
unfoldable pub writes : Memory → Call → Bool
writes m (renumbering scratch places) = false
writes m (write_read section) = is_ok (write_read_of m section).answer

-- some write-then-read in the list is accepted
unfoldable pub any_writes : Memory → List Call → Bool
any_writes m [] = false
any_writes m (k ∷ ks) = writes m k || any_writes (after m k) ks

-- the cell that walks after the calls are compared with: the first one, settled if a write-then-read was accepted
abbrev pub first_for : Memory → List Call → Cell
first_for m ks = cond (any_writes m ks) (settled (cell_of m)) (cell_of m)
