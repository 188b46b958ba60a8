-- T-13: the round that is printed after renumberings and write-then-reads. It is the round of the walk that demand 3
-- speaks of, so that of the text nothing but the numbers of the nodes can be another, and those as renumbering says.
use Rattle.std.specs.Prelude.{ℕ, suc, ◌<◌, ◌≡◌, true, List, [], ◌∷◌, ◌++◌, length, take, Result, Ok, Err}
use Rattle.numbers.specs.Refusals.{number_of}
use Rattle.numbers.specs.declared.refusal.Refusal.{Refusal}
use Rattle.cells.specs.Cell.{Node, Cell, node_at, first_of}
use Rattle.cells.specs.CellOf.{nodes_of}
use Rattle.cells.specs.FileCell.{file_cell}
use Rattle.cells.specs.Memory.{Memory}
use Rattle.cells.specs.Read.{read_of}
use Rattle.walks.specs.Calls.{Call, run, moved, any_renumbers}
use Rattle.walks.specs.Sound.{sound}
use Rattle.walks.specs.WalkCall.{route}
use Rattle.walks.specs.declared.walk.End.{End}
use Rattle.walks.specs.declared.walk.Walked.{Walked}
use Rattle.rounds.specs.Follow.{follow_version}
use Rattle.rounds.specs.Numbers.{number_at, present_number}
use Rattle.rounds.specs.declared.file.Version.{Version}
use Rattle.rounds.specs.declared.file.VersionRound.{VersionRound}
use Rattle.printround.specs.Text.{head_of, line_text, steps_of, end_of, round_of, refused_of}
use Rattle.printround.specs.Printed.{visited_lent, followed_of}

-- ---- a text with other numbers

-- `lines_of`, but for the number in a line: it is `numbers p` for the node at place p. The lines, their steps in the
-- round and the stored steps are those of `lines_of`. Of the nodes' own numbers it is `lines_of` (law `own_lines`).
unfoldable pub lines_with : (ℕ → ℕ) → List Node → ℕ → List ℕ → List ℕ
lines_with numbers ns k [] = []
lines_with numbers ns k (p ∷ ps) =
    line_text k (numbers p) (steps_of (node_at ns p)) ++ lines_with numbers ns (suc k) ps

-- `round_of` with these lines: area, count of choices and ending are those of `round_of`
abbrev pub round_with : (ℕ → ℕ) → List Node → ℕ → End → List ℕ → List ℕ
round_with numbers ns choices e places = head_of (first_of ns) choices ++ lines_with numbers ns 0 places ++ end_of e

-- ---- the round of a walk

-- The round of the walk from a place over these choices, of a file with this count of choices.
abbrev pub walk_text : List Node → List ℕ → ℕ → ℕ → List ℕ
walk_text ns choices count start =
    let walked = route ns choices start in
    round_of ns count walked.ending walked.places

-- the same with other numbers (law `own_text`)
abbrev pub walk_text_with : (ℕ → ℕ) → List Node → List ℕ → ℕ → ℕ → List ℕ
walk_text_with numbers ns choices count start =
    let walked = route ns choices start in
    round_with numbers ns count walked.ending walked.places

-- ---- what the program prints of a round file that was read

abbrev pub walked_with : (ℕ → ℕ) → Memory → ℕ → Result Walked Refusal → List ℕ → List ℕ
walked_with numbers m choices (Ok w) visited =
    round_with numbers (nodes_of m) choices w.end (take w.count visited)
walked_with numbers m choices (Err r) visited = refused_of (number_of r)

-- `followed_of` of a round file that was read, with other numbers (law `own_print`): a refusal is the same
abbrev pub followed_with : (ℕ → ℕ) → Memory → VersionRound → List ℕ → List ℕ
followed_with numbers m v choices =
    let left = follow_version m v.version v.start (take v.count choices) visited_lent in
    walked_with numbers m v.count left.answer left.visited

-- a round file of either version, with the number of its start and its count of choices
abbrev pub file_with : Version → ℕ → ℕ → VersionRound
file_with version start count = record { version = version; start = start; count = count }

-- ---- the claim

-- What is said of rounds from the node first at place p: `first` is the cell that document 01 defines for the bytes
-- read, m the memory that it was read into, and the calls are those between the two rounds.
pub record SameRound (first : Cell) (m : Memory) (calls : List Call) (p : ℕ) : Type 0 where
  -- The round of the walk from where the node now stands is that of the first cell's walk from place p, with the
  -- number that each node has now. So equal are the area and the count of choices, the steps, the stored steps and
  -- how many lines there are, and the ending with the area and number of *left*.
  pub same_but_numbers : (choices : List ℕ) (count : ℕ)
      → walk_text (nodes_of (run m calls)) choices count (moved m calls p)
      ≡ walk_text_with (present_number m calls) first.nodes choices count p
  -- Once a renumbering in the list has been accepted, the number in each line is the place to which the first cell's
  -- node moved.
  pub then_places : any_renumbers m calls ≡ true → (choices : List ℕ) (count : ℕ)
      → walk_text (nodes_of (run m calls)) choices count (moved m calls p)
      ≡ walk_text_with (moved m calls) first.nodes choices count p
  -- The program, of a round file of either version that starts at the number that the node has now, prints what it
  -- printed of the file that starts at the node's first number, with other numbers, or the same refusal.
  pub same_print : (version : Version) (count : ℕ) (choices : List ℕ)
      → followed_of (run m calls) (Ok (file_with version (present_number m calls p) count)) choices
      ≡ followed_with (present_number m calls) m (file_with version (number_at m p) count) choices
  pub then_places_printed : any_renumbers m calls ≡ true → (version : Version) (count : ℕ) (choices : List ℕ)
      → followed_of (run m calls) (Ok (file_with version (present_number m calls p) count)) choices
      ≡ followed_with (moved m calls) m (file_with version (number_at m p) count) choices

-- For any two sections and any memory lent to their reading, if the reading is accepted and the first cell is sound,
-- for every list of calls and every place in the cell.
abbrev pub SamePrintedRounds : Type 0
SamePrintedRounds =
    (system graphics : List ℕ) (lent : Memory) → (read_of system graphics lent).answer ≡ Ok tt
    → sound (file_cell system graphics) ≡ true → (calls : List Call) (p : ℕ)
    → p < length (file_cell system graphics).nodes
    → SameRound (file_cell system graphics) (read_of system graphics lent).memory calls p
