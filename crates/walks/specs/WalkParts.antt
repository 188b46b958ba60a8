-- What the parts of walks go by, over places of any kind. No public function's contract cites them but `over`, and of
-- `walk_from`, which calls share, `step_of` and `stored_in`.
use Rattle.std.specs.Prelude.{ℕ, cond, List, [], ◌++◌, map, ltb, length, drop}
use Rattle.std.specs.Prelude.{Result, Ok, Err}
use Rattle.numbers.specs.declared.refusal.Refusal.{Refusal}
use Rattle.numbers.specs.declared.refusal.Refusal.TheVariants.{TooShort}
use Rattle.numbers.specs.declared.refusal.Lent.TheVariants as lists
use Rattle.cells.specs.Memory.{Memory, memory}
use Rattle.cells.specs.CellOf.{cell_of}
use Rattle.cells.specs.declared.ynd.Ynd.{Ynd}
use Rattle.cells.specs.declared.node_entry.NodeEntry.{NodeEntry}
use Rattle.cells.specs.declared.link.PathLink.{PathLink}
use Rattle.walks.specs.Walk.{Next, to, stop, World, Trail, world_of}
use Rattle.walks.specs.Claim.{places}
use Rattle.walks.specs.declared.walk.End.{End}
use Rattle.walks.specs.declared.walk.Walked.{Walked}

-- ---- one link

-- where a choice leads, as code answers it
abbrev pub step_of : {L : Type 0} → Next L → Result L End
step_of (to q) = Ok q
step_of (stop e) = Err e

-- what a walk is lent; it looks at no other list
abbrev pub lent : Ynd → List NodeEntry → List PathLink → Memory
lent y nodes links = memory y nodes links [] [] []

-- the world of a walk in it
abbrev pub lent_world : Ynd → List NodeEntry → List PathLink → World ℕ
lent_world y nodes links = world_of (cell_of (lent y nodes links))

-- ---- the places visited, in a list

-- the end of a walk, and how many places it visits
abbrev pub traced : {L : Type 0} → Trail L → Walked
traced t = record { end = t.ending; count = length (places t) }

-- the elements over the first ones; later ones stay
abbrev pub over : {E : Type 0} → List E → List E → List E
over new l = new ++ drop (length new) l

-- what is answered of a walk, and the list after it
pub record TrailLeft (E : Type 0) : Type 0 where
  pub answer : Result Walked Refusal
  pub visited : List E

abbrev pub trail_left : {E : Type 0} → Result Walked Refusal → List E → TrailLeft E
trail_left a visited = record { answer = a; visited = visited }

-- Each place visited goes into a list as f makes an entry of it. 7 at 8: the list is too short, and stays as it was.
unfoldable pub stored_in : {L E : Type 0} → (L → E) → Trail L → List E → TrailLeft E
stored_in f t visited =
    cond (ltb (length visited) (length (places t))) (trail_left (Err (TooShort lists.List)) visited)
    (trail_left (Ok (traced t)) (over (map f (places t)) visited))
