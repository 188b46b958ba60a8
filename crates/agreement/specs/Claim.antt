-- T-14: bytes that don't count steer no round.
use Rattle.std.specs.Prelude.{ℕ, ℤ, ◌≡◌, List, ◌∷◌, ◌++◌}
use Rattle.cells.specs.Memory.{Memory}
use Rattle.cells.specs.Checks.{count_of}
use Rattle.cells.specs.Read.{read_of}
use Rattle.cells.specs.Write.{write_call}
use Rattle.cells.specs.CellOf.{cell_of}
use Rattle.cells.specs.FileCell.{file_cell}
use Rattle.walks.specs.Walk.{walk}
use Rattle.walks.specs.WalkCall.{walk_call}
use Rattle.walks.specs.Calls.{Call, run, moved}
use Rattle.reach.specs.Reach.{within_call, nearest_call}
use Rattle.rounds.specs.Follow.{follow_round}
use Rattle.paths.specs.PathCall.{PathLeft}
use Rattle.paths.specs.declared.path.Shortest.{Shortest}
use Rattle.sets.specs.CellSet.{CellSet}
use Rattle.sets.specs.Join.{join_cell}
use Rattle.sets.specs.Crossing.{Location, crossing}
use Rattle.sets.specs.MemberList.{cells_of}
use Rattle.sets.specs.SetCalls.{SetCall, run_in}
use Rattle.cells.specs.declared.counts.Counts.{Counts}
use Rattle.agreement.specs.Agree.{Agree}
use Rattle.std.specs.Prelude.{Result, Ok}
use Rattle.numbers.specs.declared.refusal.Refusal.{Refusal}

-- The words of the claim:
--   read_of system graphics lent     what reading two sections answers, and the memory that it leaves of the memory
-- lent
--   file_cell system graphics        the cell that sections 1 to 4 define for the two sections
--   write_call m section             what writing answers, and the lent section after it
--   run m calls                     the memory after the calls; cell_of is the cell that a memory holds
--   walk cell choices p             all of a walk: its end, and each place visited with what is shown there
--   walk_call m choices p visited    what the call `walk` answers, and the visited list after it

-- What two memories show alike: m after one reading, m' after the other.
pub record SameRounds (m m' : Memory) : Type 0 where
  -- "the same written section or refusal to write", and where it is refused the section lent as it was
  pub same_written : (section : List ℕ) → write_call m section ≡ write_call m' section
  -- "after every list of renumberings and write-then-read calls that are lent the same on both sides, the same
  -- walks": ends, places and what is shown; the call's answer and the visited list it leaves, refusals too; and the
  -- same places to start from
  pub same_walks : (calls : List Call) (choices : List ℕ) (p : ℕ)
      → walk (cell_of (run m calls)) choices p ≡ walk (cell_of (run m' calls)) choices p
  pub same_walk_calls : (calls : List Call) (choices : List ℕ) (p : ℕ) (visited : List ℕ)
      → walk_call (run m calls) choices p visited ≡ walk_call (run m' calls) choices p visited
  pub same_moves : (calls : List Call) (p : ℕ) → moved m calls p ≡ moved m' calls p
  -- the same written section after the calls, too
  pub same_written_after : (calls : List Call) (section : List ℕ)
      → write_call (run m calls) section ≡ write_call (run m' calls) section

-- What has come since walks: nodes within reach (T-01, T-08), rounds followed (T-03), shortest paths (T-06), sets
-- (T-09).
pub record SameLater (m m' : Memory) : Type 0 where
  pub same_listing : (x y : ℤ) (radius : ℕ) (places : List ℕ)
      → within_call m.ynd m.nodes x y radius places ≡ within_call m'.ynd m'.nodes x y radius places
  pub same_nearest : (x y : ℤ) → nearest_call m.ynd m.nodes x y ≡ nearest_call m'.ynd m'.nodes x y
  pub same_round : (start : ℕ) (choices visited : List ℕ)
      → follow_round m start choices visited ≡ follow_round m' start choices visited
  -- the search may answer and leave the same; so the least sum is the same
  pub same_path : (p q : ℕ) (scratch choices places : List ℕ) (a : Result Shortest Refusal) (s c t : List ℕ)
      → (PathLeft m p q scratch choices places a s c t → PathLeft m' p q scratch choices places a s c t)
      × (PathLeft m' p q scratch choices places a s c t → PathLeft m p q scratch choices places a s c t)
  -- sets that differ in this member alone: the six lists after it joins, and crossing walks after any list of calls
  pub same_join : (count : ℕ) (y : CellSet) (sizes : Counts) → join_cell count y m sizes ≡ join_cell count y m' sizes
  pub same_crossing : (first later : List Memory) (calls : List SetCall) (choices : List ℕ) (s : Location)
      → crossing (cells_of (run_in (first ++ (m ∷ later)) calls)) choices s
      ≡ crossing (cells_of (run_in (first ++ (m' ∷ later)) calls)) choices s

-- What T-14 says of two pairs of sections, s with g and s' with g', and the memory lent to both readings.
pub record Uncounted (s g s' g' : List ℕ) (lent : Memory) : Type 0 where
  -- "both get the same refusal, or both give the same cell": the same answer, and the same memory left, all of it
  pub same_reading : read_of s g lent ≡ read_of s' g' lent
  -- the cell that document 01 defines for each pair, where the reading is accepted
  pub same_cell : (read_of s g lent).answer ≡ (Ok tt) → file_cell s g ≡ file_cell s' g'
  -- more than document 02 asks: `count` gives the same counts or refusal
  pub same_count : count_of s g ≡ count_of s' g'
  pub same_rounds : SameRounds (read_of s g lent).memory (read_of s' g' lent).memory
  pub same_later : SameLater (read_of s g lent).memory (read_of s' g' lent).memory

-- T-14: for every two pairs of sections that agree, and any memory lent.
abbrev pub BytesThatDontCount : Type 0
BytesThatDontCount = (s g s' g' : List ℕ) → Agree s g s' g' → (lent : Memory) → Uncounted s g s' g' lent
