-- T-09: writing a member of a set, and write-then-read of one. "A write refused in one member changes none."
use Rattle.std.specs.Prelude.{ℕ, List}
use Rattle.numbers.specs.Refusals.{decided}
use Rattle.cells.specs.Memory.{Memory}
use Rattle.cells.specs.Write.{WriteLeft, left, write_call}
use Rattle.cells.specs.WriteRead.{Both, write_read_of}
use Rattle.sets.specs.MemberList.{unless}
use Rattle.sets.specs.CellSet.{CellSet}
use Rattle.sets.specs.SetStored.{member_in, ask_causes, with_member}
use Rattle.std.specs.Prelude.{Result, Ok, Err}
use Rattle.numbers.specs.declared.refusal.Refusal.{Refusal}

-- what a write-then-read answers, and the six lists and the section after it
pub record SetWritten : Type 0 where
  pub answer : Result ℕ Refusal
  pub lists : CellSet
  pub section : List ℕ

abbrev pub set_written : Result ℕ Refusal → CellSet → List ℕ → SetWritten
set_written a y section = record { answer = a; lists = y; section = section }

-- an accepted call leaves the memory m in the member's place, a refused one all six lists as they were
abbrev pub lists_after : Result ℕ Refusal → CellSet → ℕ → Memory → CellSet
lists_after (Ok n) y j m = with_member y j m
lists_after (Err cause) y j m = y

abbrev pub wrote_in : CellSet → ℕ → Both → SetWritten
wrote_in y j b = set_written b.answer (lists_after b.answer y j b.memory) b.section

-- 13, 14, 7 of the set; else as the cell's own write-then-read
unfoldable pub write_read_member : CellSet → ℕ → List ℕ → SetWritten
write_read_member y j section =
    unless (decided (ask_causes y j)) (λ cause. set_written (Err cause) y section)
    (wrote_in y j (write_read_of (member_in y j) section))

-- 13, 14, 7 of the set; else as the cell's own write
unfoldable pub write_member : CellSet → ℕ → List ℕ → WriteLeft
write_member y j section =
    unless (decided (ask_causes y j)) (λ cause. left (Err cause) section)
    (write_call (member_in y j) section)
