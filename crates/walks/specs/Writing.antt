-- Once a cell was read, reading back what was written is never what refuses a write-then-read.
use Rattle.std.specs.Prelude.{◌≡◌, ℕ, List}
use Rattle.cells.specs.Memory.{Memory}
use Rattle.cells.specs.Read.{read_of}
use Rattle.cells.specs.Write.{write_call}
use Rattle.cells.specs.WriteRead.{write_read_of}
use Rattle.walks.specs.Calls.{Call, run}
use Rattle.std.specs.Prelude.{Ok}

-- The cell in m, written then read, and only written, with the same section memory.
pub record AsWriting (m : Memory) (section : List ℕ) : Type 0 where
  -- accepted alike with the same length, or refused alike with the same number and place
  pub same_answer : (write_read_of m section).answer ≡ (write_call m section).answer
  -- with the same bytes in the section
  pub same_section : (write_read_of m section).section ≡ (write_call m section).section

-- For any two sections and any memory lent to their reading, if the reading is accepted, after every list of calls,
-- with section memory of any length and content. The cell need not be sound.
abbrev pub WritesAlike : Type 0
WritesAlike =
    (system graphics : List ℕ) (lent : Memory) → (read_of system graphics lent).answer ≡ (Ok tt)
    → (calls : List Call) (section : List ℕ) → AsWriting (run (read_of system graphics lent).memory calls) section
