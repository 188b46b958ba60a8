-- Which number each number becomes where a cell is renumbered (section 4, T-09): for links that lead into the cell
-- from others, whose numbers are changed before its nodes move.
use Rattle.std.specs.Prelude.{ℕ, List, [], ◌∷◌, ◌++◌, map, ltb, length, take, drop}
use Rattle.numbers.specs.Refusals.{Cause, when, decided}
use Rattle.cells.specs.Order.{Old, new_number, new_places, listed}
use Rattle.cells.specs.Nodes.{is_ped, old_of}
use Rattle.std.specs.Prelude.{Ok, Err}
use Rattle.numbers.specs.Refusals.{Answer}
use Rattle.numbers.specs.declared.refusal.Refusal.TheVariants.{TooShort, AtLimit}
use Rattle.numbers.specs.declared.refusal.Lent.TheVariants as lent
use Rattle.cells.specs.declared.node_entry.NodeEntry.{NodeEntry}

-- Entry k is the new number of the last node that had the number k; k if none had. There are 65,536 numbers.
unfoldable pub new_numbers : Old → List ℕ
new_numbers o = listed (new_number o) 0 65536

-- what the call answers, and the table and the list of new places after it
pub record NumbersLeft : Type 0 where
  pub answer : Answer
  pub table : List ℕ
  pub places : List ℕ

abbrev pub numbers_left : Answer → List ℕ → List ℕ → NumbersLeft
numbers_left a table places = record { answer = a; table = table; places = places }

-- As renumbering n nodes is refused: 14 too many; 7 the list of nodes, the table, or the list of new places too short.
unfoldable pub numbers_causes : ℕ → ℕ → ℕ → ℕ → List Cause
numbers_causes n nodes table places =
    when (ltb 65536 n) AtLimit
    ∷ when (ltb nodes n) (TooShort lent.Nodes)
    ∷ when (ltb table 65536) (TooShort lent.Scratch)
    ∷ when (ltb places n) (TooShort lent.NewPlaces)
    ∷ []

abbrev pub numbers_if : Answer → List ℕ → List ℕ → NumbersLeft → NumbersLeft
numbers_if (Ok _) table places next = next
numbers_if (Err cause) table places next = numbers_left (Err cause) table places

-- A refusal changes nothing; else the table and the places are filled from the front, and what is behind stays.
unfoldable pub numbers_call : ℕ → List NodeEntry → List ℕ → List ℕ → NumbersLeft
numbers_call n nodes table places =
    numbers_if (decided (numbers_causes n (length nodes) (length table) (length places)))
    table places
    (numbers_left (Ok tt) (new_numbers (old_of n nodes) ++ drop 65536 table)
    (new_places (map is_ped (take n nodes)) ++ drop n places))
