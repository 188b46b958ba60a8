-- Section 5: the call `walk`. It needs only nodes and links: its end and its places are those of the walk (law
-- `trail_route`).
use Rattle.std.specs.Prelude.{ℕ, Bool, cond, List, [], ◌∷◌, ◌++◌, leb, ltb, length, drop}
use Rattle.cells.specs.Memory.{Memory, over_limit}
use Rattle.cells.specs.Cell.{Node}
use Rattle.cells.specs.CellOf.{nodes_of}
use Rattle.walks.specs.Walk.{Next, to, stop, next}
use Rattle.walks.specs.declared.walk.End.{End}
use Rattle.walks.specs.declared.walk.End.TheVariants as end
use Rattle.walks.specs.declared.walk.Walked.{Walked}
use Rattle.std.specs.Prelude.{Result, Ok, Err}
use Rattle.numbers.specs.declared.refusal.Refusal.{Refusal}
use Rattle.numbers.specs.declared.refusal.Refusal.TheVariants.{TooShort, NoSuchPlace, AtLimit}
use Rattle.numbers.specs.declared.refusal.Lent.TheVariants as lent

-- Section 5: a walk's end, and the places visited, their count one more than the links followed.
pub record Route : Type 0 where
  pub ending : End
  pub places : List ℕ

abbrev pub step_on : ℕ → (ℕ → Route) → Next ℕ → Route
step_on p on (to q) = record { ending = (on q).ending; places = p ∷ (on q).places }
step_on p on (stop e) = record { ending = e; places = p ∷ [] }

unfoldable pub route : List Node → List ℕ → ℕ → Route
route ns [] p = record { ending = end.Done; places = p ∷ [] }
route ns (b ∷ bs) p = step_on p (route ns bs) (next ns p b)

-- what the call answers, and the visited list after it
pub record WalkLeft : Type 0 where
  pub answer : Result Walked Refusal
  pub visited : List ℕ

abbrev pub walk_left : Result Walked Refusal → List ℕ → WalkLeft
walk_left a visited = record { answer = a; visited = visited }

-- The first cause that fits, of a cell with n nodes and l links, in lists of so many entries, where `count` places go
-- into a list of `room`. Causes of refusal: 13 no such place; 14 a struct over a limit; 7 at 0 and 1 a list shorter
-- than its count; 7 at 8 the visited list is too short.
abbrev pub walk_cases : {A : Type 0} → Bool → ℕ → ℕ → ℕ → ℕ → ℕ → ℕ → ℕ → (Refusal → A) → A → A
walk_cases over n l nodes links start count room refusal answer =
    cond (leb n start) (refusal NoSuchPlace)
    (cond over (refusal AtLimit)
    (cond (ltb nodes n) (refusal (TooShort lent.Nodes))
    (cond (ltb links l) (refusal (TooShort lent.Links))
    (cond (ltb room count) (refusal (TooShort lent.List))
    answer))))

-- A refusal leaves the visited list as it was; else its first entries are the places visited.
unfoldable pub walk_call : Memory → List ℕ → ℕ → List ℕ → WalkLeft
walk_call m choices start visited =
    let r = route (nodes_of m) choices start in
    walk_cases (over_limit m.ynd) m.ynd.node_count m.ynd.link_count (length m.nodes) (length m.links) start
    (length r.places) (length visited)
    (λ cause. walk_left (Err cause) visited)
    (walk_left (Ok (record { end = r.ending; count = length r.places })) (r.places ++ drop (length r.places) visited))
