-- Write-then-read: the cell written, and the bytes just written read, graphics empty, into the cell's own memory.
-- A refusal of either leaves memory and section as they were.
use Rattle.std.specs.Prelude.{ℕ, List, [], take}
use Rattle.cells.specs.Memory.{Memory, memory}
use Rattle.cells.specs.Read.{read_of}
use Rattle.cells.specs.Write.{write_call}
use Rattle.cells.specs.declared.ynd.Ynd.{Ynd}
use Rattle.cells.specs.declared.write_read.WroteRead.{WroteRead}
use Rattle.std.specs.Prelude.{Result, Ok, Err}
use Rattle.numbers.specs.Refusals.{Answer}
use Rattle.numbers.specs.declared.refusal.Refusal.{Refusal}
use Rattle.cells.specs.declared.node_entry.NodeEntry.{NodeEntry}
use Rattle.cells.specs.declared.link.PathLink.{PathLink}
use Rattle.cells.specs.declared.junction_entry.JunctionEntry.{JunctionEntry}
use Rattle.records.specs.declared.junction_ref.NodeJunctionRef.{NodeJunctionRef}

-- what the call answers, and the memory and the section after it
pub record Both : Type 0 where
  pub answer : Result ℕ Refusal
  pub memory : Memory
  pub section : List ℕ

abbrev pub written_of : Result WroteRead Refusal → Result ℕ Refusal
written_of (Ok w) = Ok w.written
written_of (Err r) = Err r

abbrev pub ynd_after : Ynd → Result WroteRead Refusal → Ynd
ynd_after y (Ok w) = w.ynd
ynd_after y (Err r) = y

-- what the call answers and leaves
abbrev pub both : Ynd → Result WroteRead Refusal → List NodeEntry → List PathLink → List JunctionEntry → List ℕ
    → List NodeJunctionRef → List ℕ → Both
both y r nodes links junctions heights refs section = record {
  answer = written_of r;
  memory = memory (ynd_after y r) nodes links junctions heights refs;
  section = section;
}

-- n bytes were written to the section t; what reading them answers and leaves
abbrev pub if_read : ℕ → List ℕ → Answer → Memory → Memory → List ℕ → Both
if_read n t (Ok _) after m s = record { answer = Ok n; memory = after; section = t }
if_read n t (Err cause) after m s = record { answer = Err cause; memory = m; section = s }

abbrev pub if_written : Result ℕ Refusal → List ℕ → Memory → List ℕ → Both
if_written (Err cause) t m s = record {
  answer = Err cause;
  memory = m;
  section = s;
}
if_written (Ok n) t m s = if_read n t (read_of (take n t) [] m).answer (read_of (take n t) [] m).memory m s

unfoldable pub write_read_of : Memory → List ℕ → Both
write_read_of m s = if_written (write_call m s).answer (write_call m s).section m s
