-- T-09: "a cell .. leaves the set by a call", by its area. "the one that joined first is meant .. by removal";
-- "taking out an area that the set lacks is 13".
use Rattle.std.specs.Prelude.{ℕ, zero, suc, ◌+◌, ◌-◌, not, List, [], ◌∷◌, ◌++◌, length, take, drop}
use Rattle.std.proofs.Math.Option.{Option, none, some}
use Rattle.numbers.specs.Refusals.{Cause, when, Answer, decided, answered}
use Rattle.cells.specs.Lookup.{first_with, is_some}
use Rattle.sets.specs.Members.{areas}
use Rattle.sets.specs.MemberList.{cells_of, unless}
use Rattle.sets.specs.CellSet.{CellSet, cell_set, words_at, total, members_of, set_causes}
use Rattle.std.specs.Prelude.{Result, Ok, Err}
use Rattle.numbers.specs.declared.refusal.Refusal.{Refusal}
use Rattle.numbers.specs.declared.refusal.Refusal.TheVariants.{NoSuchPlace}

-- what a call answers, how many members the set has after it, and the six lists; the set's entries are the first
-- `count`
pub record SetLeft : Type 0 where
  pub answer : Answer
  pub count : ℕ
  pub lists : CellSet

abbrev pub set_left : Answer → ℕ → CellSet → SetLeft
set_left a count y = record { answer = a; count = count; lists = y }

-- a call gives how many members there are after it; a refused one leaves as many as before
abbrev pub count_after : ℕ → Result ℕ Refusal → ℕ
count_after before (Ok count) = count
count_after before (Err cause) = before

abbrev pub left_after : ℕ → Result ℕ Refusal → CellSet → SetLeft
left_after before r y = set_left (answered r) (count_after before r) y

-- the set whose entries are the first `count` of a longer list
abbrev pub used : ℕ → CellSet → CellSet
used count y = cell_set (take count y.members) y.nodes y.links y.junctions y.heights y.refs

-- a list without its element at the place j
unfoldable pub removed : {A : Type 0} → ℕ → List A → List A
removed j [] = []
removed zero (x ∷ xs) = xs
removed (suc j) (x ∷ xs) = x ∷ removed j xs

-- A list whose entries from e up to t are moved down to a, so that the gap from a to e is closed. Entries behind those
-- that moved stay as they were: the last of them are in the list twice.
unfoldable pub closed : {A : Type 0} → ℕ → ℕ → ℕ → List A → List A
closed a e t l = take a l ++ (take (t - e) (drop e l) ++ drop (a + (t - e)) l)

-- where the part of the member j starts: behind those of the members before it
abbrev pub start_of : ℕ → List (List ℕ) → ℕ → ℕ
start_of size ws j = total (take j (words_at size ws))

-- a list without the part of the member j
abbrev pub closed_part : {A : Type 0} → ℕ → List (List ℕ) → ℕ → List A → List A
closed_part size ws j l = closed (start_of size ws j) (start_of size ws (suc j)) (start_of size ws (length ws)) l

-- the six lists after the member j left
unfoldable pub without : CellSet → ℕ → CellSet
without y j = record {
  members = closed j (suc j) (length y.members) y.members;
  nodes = closed_part 15 y.members j y.nodes;
  links = closed_part 16 y.members j y.links;
  junctions = closed_part 17 y.members j y.junctions;
  heights = closed_part 18 y.members j y.heights;
  refs = closed_part 19 y.members j y.refs;
}

-- of several members of one area, the one that joined first
unfoldable pub first_of_area : CellSet → ℕ → Option ℕ
first_of_area y area = first_with (areas (cells_of (members_of y))) area

-- 13 no member has the area; 14 and 7 a set made by hand
unfoldable pub leave_causes : CellSet → ℕ → List Cause
leave_causes y area = when (not (is_some (first_of_area y area))) NoSuchPlace ∷ set_causes y

abbrev pub left_by : Option ℕ → CellSet → SetLeft
left_by (some j) y = set_left (Ok tt) (length y.members - 1) (without y j)
left_by none y = set_left (Ok tt) (length y.members) y

-- a refusal leaves all six lists as they were
unfoldable pub leave_area : CellSet → ℕ → SetLeft
leave_area y area =
    unless (decided (leave_causes y area)) (λ cause. set_left (Err cause) (length y.members) y)
    (left_by (first_of_area y area) y)
