-- What the parts of the crossing walk go by. No public function's contract cites them.
use Rattle.std.specs.Prelude.{ℕ, ◌≤◌, ◌<◌, ◌≡◌, false, not, List, [], ◌∷◌, leb, length, get_or}
use Rattle.numbers.specs.Refusals.{Cause, when}
use Rattle.cells.specs.Memory.{over_limit}
use Rattle.cells.specs.Cell.{Cell}
use Rattle.sets.specs.Crossing.{Location}
use Rattle.sets.specs.MemberList.{cells_of, over_set}
use Rattle.sets.specs.CellSet.{CellSet, cell_set, ynd_of, members_of, holds_list}
use Rattle.sets.specs.SetParts.{count_of, Holding, bare, areas_of}
use Rattle.numbers.specs.declared.refusal.Refusal.TheVariants.{TooShort, NoSuchPlace, AtLimit}
use Rattle.numbers.specs.declared.refusal.Lent.TheVariants as lent
use Rattle.cells.specs.declared.node_entry.NodeEntry.{NodeEntry}
use Rattle.cells.specs.declared.link.PathLink.{PathLink}

-- a crossing walk looks at no other list
abbrev pub walked_set : List (List ℕ) → List NodeEntry → List PathLink → CellSet
walked_set ws nodes links = cell_set ws nodes links [] [] []

unfoldable pub cells_in : List (List ℕ) → List NodeEntry → List PathLink → List Cell
cells_in ws nodes links = cells_of (members_of (walked_set ws nodes links))

-- what the walk is lent: the members, within the limits, their nodes, and their areas
pub record Lent (areas : List ℕ) (ws : List (List ℕ)) (nodes : List NodeEntry) : Type 0 where
  pub few : length ws ≤ 9
  pub within : (i : ℕ) → i < length ws → over_limit (ynd_of (get_or ws i [])) ≡ false
  pub nodes_hold : Holding 10 15 ws (length nodes)
  pub areas_are : areas ≡ areas_of ws nodes

-- what a walk is refused for before its first step, by the entries and the lists' lengths
unfoldable pub start_causes : List (List ℕ) → ℕ → ℕ → Location → List Cause
start_causes ws nodes links s =
    when (leb (length ws) s.member) NoSuchPlace
    ∷ when (leb (count_of 10 ws s.member) s.place) NoSuchPlace
    ∷ when (over_set (bare ws)) AtLimit
    ∷ when (not (holds_list 10 15 ws nodes)) (TooShort lent.Nodes)
    ∷ when (not (holds_list 11 16 ws links)) (TooShort lent.Links)
    ∷ []
