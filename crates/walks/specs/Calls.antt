-- Demand 3: lists of renumberings and write-then-read calls on a cell in memory.
use Rattle.std.specs.Prelude.{ℕ, Bool, true, false, ◌||◌, cond, List, [], ◌∷◌, length}
use Rattle.cells.specs.Order.{new_place}
use Rattle.cells.specs.Cell.{ped_flags}
use Rattle.cells.specs.Memory.{Memory}
use Rattle.cells.specs.CellOf.{cell_of}
use Rattle.cells.specs.Renumber.{renumber}
use Rattle.cells.specs.WriteRead.{write_read_of}
use Rattle.std.specs.Prelude.{Ok, Err}
use Rattle.numbers.specs.Refusals.{Answer}

-- One call, with what is lent to it, of any length and content: a renumbering with scratch and a list for the new
-- places, a write-then-read with section memory.
pub data Call : Type 0 where
  renumbering : List ℕ → List ℕ → Call
  write_read : List ℕ → Call

-- The cell and its memory as a call leaves them, by the definitions that the contracts of the two functions cite. A
-- refused call leaves both as they were. Of the scratch only the length counts.
unfoldable pub after : Memory → Call → Memory
after m (renumbering scratch places) = (renumber m (length scratch) places).memory
after m (write_read section) = (write_read_of m section).memory

-- After a list of calls, each of which gets what the one before it left.
unfoldable pub run : Memory → List Call → Memory
run m [] = m
run m (k ∷ ks) = run (after m k) ks

abbrev pub is_done : Answer → Bool
is_done (Ok tt) = true
is_done (Err cause) = false

-- This call is a renumbering, and it is accepted.
unfoldable pub renumbers : Memory → Call → Bool
renumbers m (renumbering scratch places) = is_done (renumber m (length scratch) places).answer
renumbers m (write_read section) = false

-- Where the node that is at place p before the calls stands after them. An accepted renumbering moves it as section
-- 4's order says (`new_place`: non-ped nodes first, then ped nodes, each group in old order); every other call leaves
-- its place.
unfoldable pub moved : Memory → List Call → ℕ → ℕ
moved m [] p = p
moved m (k ∷ ks) p = moved (after m k) ks (cond (renumbers m k) (new_place (ped_flags (cell_of m).nodes) p) p)

-- Some renumbering in the list is accepted.
unfoldable pub any_renumbers : Memory → List Call → Bool
any_renumbers m [] = false
any_renumbers m (k ∷ ks) = renumbers m k || any_renumbers (after m k) ks
