-- T-09: the call of a crossing walk. "A crossing walk starts at a member .. and a place (13 if either isn't there),
-- and lists both for each node visited."
use Rattle.std.specs.Prelude.{ℕ, Bool, not, List, [], ◌∷◌, ◌++◌, map, leb, ltb, length, drop}
use Rattle.numbers.specs.Refusals.{Cause, when, decided}
use Rattle.cells.specs.Lists.{every}
use Rattle.cells.specs.Memory.{Memory}
use Rattle.walks.specs.Walk.{Trail}
use Rattle.walks.specs.Claim.{places}
use Rattle.walks.specs.declared.walk.Walked.{Walked}
use Rattle.sets.specs.Crossing.{Location, crossing}
use Rattle.sets.specs.MemberList.{member_at, cells_of, node_count, over_set, unless}
use Rattle.std.specs.Prelude.{Result, Ok, Err}
use Rattle.numbers.specs.Refusals.{Answer}
use Rattle.numbers.specs.declared.refusal.Refusal.{Refusal}
use Rattle.numbers.specs.declared.refusal.Refusal.TheVariants.{TooShort, NoSuchPlace, AtLimit}
use Rattle.numbers.specs.declared.refusal.Lent.TheVariants as lent

-- an entry of the visited list: member and place
abbrev pub location_words : Location → List ℕ
location_words s = s.member ∷ s.place ∷ []

abbrev pub visit_words : Trail Location → List (List ℕ)
visit_words t = map location_words (places t)

-- nodes and links lie whole in the member's lists
abbrev pub nodes_held : Memory → Bool
nodes_held m = leb (node_count m) (length m.nodes)

abbrev pub links_held : Memory → Bool
links_held m = leb m.ynd.link_count (length m.links)

-- what the call answers, and the visited list after it
pub record CrossingLeft : Type 0 where
  pub answer : Result Walked Refusal
  pub visited : List (List ℕ)

abbrev pub crossing_left : Result Walked Refusal → List (List ℕ) → CrossingLeft
crossing_left a visited = record { answer = a; visited = visited }

-- In their order: 13 no such member or place; 14 a set over a limit; 7 at 0 and 1 a member's list shorter than its
-- count; 7 at 8 a visited list of `room` entries, too short for `count`.
unfoldable pub crossing_causes : List Memory → Location → ℕ → ℕ → List Cause
crossing_causes ms s count room =
    when (leb (length ms) s.member) NoSuchPlace
    ∷ when (leb (node_count (member_at ms s.member)) s.place) NoSuchPlace
    ∷ when (over_set ms) AtLimit
    ∷ when (not (every nodes_held ms)) (TooShort lent.Nodes)
    ∷ when (not (every links_held ms)) (TooShort lent.Links)
    ∷ when (ltb room count) (TooShort lent.List)
    ∷ []

-- A refusal leaves the visited list as it was; else its first entries are the members and places visited.
abbrev pub crossed_by : Answer → Trail Location → List (List ℕ) → CrossingLeft
crossed_by a t visited =
    unless a (λ cause. crossing_left (Err cause) visited)
    (crossing_left (Ok (record { end = t.ending; count = length (places t) }))
    (visit_words t ++ drop (length (places t)) visited))

unfoldable pub crossing_call : List Memory → List ℕ → Location → List (List ℕ) → CrossingLeft
crossing_call ms choices s visited =
    let t = crossing (cells_of ms) choices s in
    crossed_by (decided (crossing_causes ms s (length (places t)) (length visited))) t visited
