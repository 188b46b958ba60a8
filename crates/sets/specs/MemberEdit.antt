-- T-09: edits of a member, each the cell's own edit, of the member through its parts.
use Rattle.std.specs.Prelude.{ℕ, List, ◌∷◌, leb, length, Ok, Err}
use Rattle.numbers.specs.Refusals.{Cause, when, Answer, decided}
use Rattle.numbers.specs.declared.math.Vec3.{Vec3}
use Rattle.cells.specs.Memory.{Memory, memory, Left}
use Rattle.cells.specs.Add.{done, add_node}
use Rattle.cells.specs.OwnWords.{with_own}
use Rattle.sets.specs.MemberList.{nodes_together, over_set, unless}
use Rattle.sets.specs.CellSet.{CellSet, members_of, lack}
use Rattle.sets.specs.SetStored.{member_in, ask_causes, with_member}
use Rattle.numbers.specs.declared.refusal.Refusal.TheVariants.{NoSuchPlace, AtLimit}

-- what an edit answers, and the six lists after it
pub record SetEdited : Type 0 where
  pub answer : Answer
  pub lists : CellSet

abbrev pub set_edited : Answer → CellSet → SetEdited
set_edited a y = record { answer = a; lists = y }

-- an accepted edit leaves the memory m in the member's place, a refused one all six lists as they were
abbrev pub lists_left : Answer → CellSet → ℕ → Memory → CellSet
lists_left (Ok _) y j m = with_member y j m
lists_left (Err cause) y j m = y

abbrev pub edited_in : CellSet → ℕ → Left → SetEdited
edited_in y j l = set_edited l.answer (lists_left l.answer y j l.memory)

-- these causes; else as the cell's own edit
unfoldable pub edit_by : List Cause → CellSet → ℕ → (Memory → Left) → SetEdited
edit_by causes y j edit =
    unless (decided causes) (λ cause. set_edited (Err cause) y) (edited_in y j (edit (member_in y j)))

-- 13, 14, 7 of the set; else as the cell's own edit
abbrev pub edit_member : CellSet → ℕ → (Memory → Left) → SetEdited
edit_member y j edit = edit_by (ask_causes y j) y j edit

-- ---- a node more: "nodes beyond the total, is 14"

unfoldable pub add_causes : CellSet → ℕ → List Cause
add_causes y j =
    when (leb (length y.members) j) NoSuchPlace
    ∷ when (over_set (members_of y)) AtLimit
    ∷ when (leb 65536 (nodes_together (members_of y))) AtLimit
    ∷ lack y

abbrev pub add_node_member : CellSet → ℕ → ℕ → Vec3 → SetEdited
add_node_member y j area at = edit_by (add_causes y j) y j (λ m. add_node m area at)

-- ---- the member's own words

abbrev pub put_words : Memory → ℕ → ℕ → ℕ → List ℕ → Left
put_words m vft vehicles peds unknowns =
    done (memory (with_own m.ynd vft vehicles peds unknowns) m.nodes m.links m.junctions m.heights m.refs)
