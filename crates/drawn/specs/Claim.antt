-- Every cell that calls can make: what is claimed of it. Laws: proofs/Claims.
use Rattle.std.specs.Prelude.{ℕ, ◌<◌, ◌≡◌, true, cond, List, [], length, take}
use Rattle.std.specs.Prelude.{Ok, Err}
use Rattle.numbers.specs.declared.refusal.Refusal.{Refusal}
use Rattle.cells.specs.Memory.{Memory}
use Rattle.cells.specs.CellOf.{cell_of}
use Rattle.cells.specs.FileCell.{file_cell}
use Rattle.cells.specs.Read.{read_of}
use Rattle.cells.specs.Write.{held, write_call}
use Rattle.cells.specs.BackCheck.{back_tests, held_counts, lengths}
use Rattle.cells.specs.WriteRead.{write_read_of}
use Rattle.walks.specs.Sound.{sound}
use Rattle.walks.specs.Walk.{walk}
use Rattle.walks.specs.Calls.{Call, moved}
use Rattle.walks.specs.Calls as calls
use Rattle.walks.specs.Claim.{Unnoticed}
use Rattle.walks.specs.Writing.{AsWriting}
use Rattle.walks.proofs.NewWalks.{move}
use Rattle.drawn.specs.Tidy.{Tidy}
use Rattle.drawn.specs.Changes.{Edit, edited, Change, new, after, run}
use Rattle.drawn.specs.Fits.{EditFits, ChangeFits, AllFit}
use Rattle.drawn.specs.Made.{Made, Stored, AllStored}
use Rattle.drawn.specs.Settled.{settled, settled_trail}
use Rattle.drawn.specs.Settling.{any_writes, first_for}
use Rattle.drawn.specs.Meaning.{edit_cell, run_cell}

-- The words of the claims:
--   Change, Edit             a public call that changes a cell, with what it is lent; an edit is one of them
--   edited m e              what an edit answers, and the memory after it
--   after m k, run m ks     the memory after a call, after a list of calls; cell_of is the cell that a memory holds
--   Tidy m, Made m          the invariant, in memory; and with numbers that fit their fields
--   AllFit ks               the calls' arguments fit their types, as in a program they do
--   edit_cell e c           what an accepted edit makes of a cell, one sentence each
--   settled c               the cell with coordinates in whole steps and flags5 in three bits
--   Stored c                it has them so already

-- ---- every cell that calls make is made

-- A new cell in any lists lent, and whatever calls made of it, accepted or refused.
abbrev pub DrawnMade : Type 0
DrawnMade = (lent : Memory) (ks : List Change) → AllFit ks → Made (run (after lent new) ks)

-- A cell as read, in any lists lent, and whatever calls made of it. T-02: also the cell of no bytes.
abbrev pub ReadMade : Type 0
ReadMade =
    (system graphics : List ℕ) (lent : Memory) → (read_of system graphics lent).answer ≡ (Ok tt)
    → (ks : List Change) → AllFit ks → Made (run (read_of system graphics lent).memory ks)

-- Each call keeps it.
abbrev pub ChangeMade : Type 0
ChangeMade = (m : Memory) → Made m → (k : Change) → ChangeFits k → Made (after m k)

-- ---- what the calls mean for the cell

-- An accepted edit is one sentence about the cell, with no hypothesis on where ranges lie.
abbrev pub EditMeans : Type 0
EditMeans =
    (m : Memory) → Tidy m → (e : Edit) → EditFits e → (edited m e).answer ≡ (Ok tt)
    → cell_of (edited m e).memory ≡ edit_cell e (cell_of m)

-- A refused one leaves the memory as it was.
abbrev pub EditRefused : Type 0
EditRefused = (m : Memory) (e : Edit) (cause : Refusal) → (edited m e).answer ≡ Err cause → (edited m e).memory ≡ m

-- Lists of calls of every kind.
abbrev pub CallsMean : Type 0
CallsMean = (m : Memory) → Made m → (ks : List Change) → AllFit ks → cell_of (run m ks) ≡ run_cell m ks (cell_of m)

-- ---- demand 3

-- From every made cell that is sound, with stored coordinates and flags5.
abbrev pub MadeDemand3 : Type 0
MadeDemand3 =
    (m : Memory) → Made m → sound (cell_of m) ≡ true → Stored (cell_of m)
    → (ks : List Call) → Unnoticed (cell_of m) m ks

-- Of a yard drawn from a new cell by calls that bring stored coordinates only soundness is asked.
abbrev pub YardDemand3 : Type 0
YardDemand3 =
    (lent : Memory) (drawing : List Change) → AllFit drawing → AllStored drawing
    → sound (cell_of (run (after lent new) drawing)) ≡ true
    → (ks : List Call) → Unnoticed (cell_of (run (after lent new) drawing)) (run (after lent new) drawing) ks

-- From every made cell that is sound, raw coordinates too: the walks are those of the cell, or of the settled one once
-- a write-then-read was accepted.
abbrev pub RawDemand3 : Type 0
RawDemand3 =
    (m : Memory) → Made m → sound (cell_of m) ≡ true → (ks : List Call) → Unnoticed (first_for m ks) m ks

-- Exactly what a walk then shows: the first walk, its places moved, and each node and junction settled or not.
abbrev pub RawWalks : Type 0
RawWalks =
    (m : Memory) → Made m → sound (cell_of m) ≡ true → (ks : List Call) (choices : List ℕ) (p : ℕ)
    → p < length (cell_of m).nodes
    → walk (cell_of (calls.run m ks)) choices (moved m ks p)
    ≡ move (moved m ks)
    (cond (any_writes m ks) (settled_trail (walk (cell_of m) choices p)) (walk (cell_of m) choices p))

-- ---- writing

-- Write-then-read answers what writing answers and leaves the section that writing leaves.
abbrev pub MadeWritesAlike : Type 0
MadeWritesAlike = (m : Memory) → Made m → (section : List ℕ) → AsWriting m section

-- The section that an accepted writing leaves is, by document 01, the settled cell: whoever reads it.
abbrev pub SectionMeans : Type 0
SectionMeans =
    (m : Memory) → Made m → (section : List ℕ) (n : ℕ) → (write_call m section).answer ≡ Ok n
    → file_cell (take n (write_call m section).section) [] ≡ settled (cell_of m)

-- It is read back into any lists that have room for its entries: no other refusal comes, and it is the settled cell.
abbrev pub SectionReads : Type 0
SectionReads =
    (m : Memory) → Made m → (section : List ℕ) (n : ℕ) → (write_call m section).answer ≡ Ok n → (lent : Memory)
    → back_tests (held_counts (held m)) (lengths lent) ≡ (Ok tt)
    → ((read_of (take n (write_call m section).section) [] lent).answer ≡ (Ok tt))
    × (cell_of (read_of (take n (write_call m section).section) [] lent).memory ≡ settled (cell_of m))

-- An accepted write-then-read settles the cell, and no later one changes it.
abbrev pub WriteReadStable : Type 0
WriteReadStable =
    (m : Memory) → Made m → (section : List ℕ) (n : ℕ) → (write_read_of m section).answer ≡ Ok n → (later : List ℕ)
    → (cell_of (write_read_of m section).memory ≡ settled (cell_of m))
    × (cell_of (write_read_of (write_read_of m section).memory later).memory ≡ settled (cell_of m))
