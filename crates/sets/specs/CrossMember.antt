-- T-09: the call of a crossing walk of a set in six lent lists. "A crossing walk starts at a member .. and a place
-- (13 if either isn't there), and lists both for each node visited." Of the six lists it looks at entries, nodes and
-- links.
use Rattle.std.specs.Prelude.{ℕ, not, List, [], ◌∷◌, leb, ltb, length}
use Rattle.numbers.specs.Refusals.{Cause, when, decided}
use Rattle.walks.specs.Claim.{places}
use Rattle.sets.specs.Crossing.{Location, crossing}
use Rattle.sets.specs.CrossingCall.{CrossingLeft, crossed_by}
use Rattle.sets.specs.MemberList.{cells_of, node_count, over_set}
use Rattle.sets.specs.CellSet.{CellSet, members_of, holds_list}
use Rattle.sets.specs.SetStored.{member_in}
use Rattle.numbers.specs.declared.refusal.Refusal.TheVariants.{TooShort, NoSuchPlace, AtLimit}
use Rattle.numbers.specs.declared.refusal.Lent.TheVariants as lent

-- In their order: 13 no such member, or no such place by its count; 14 a set over a limit; 7 at 0 and 1 a list of
-- nodes or links that doesn't hold the members; 7 at 8 a visited list of `room` entries, too short for `count`.
unfoldable pub cross_causes : CellSet → Location → ℕ → ℕ → List Cause
cross_causes y s count room =
    when (leb (length y.members) s.member) NoSuchPlace
    ∷ when (leb (node_count (member_in y s.member)) s.place) NoSuchPlace
    ∷ when (over_set (members_of y)) AtLimit
    ∷ when (not (holds_list 10 15 y.members (length y.nodes))) (TooShort lent.Nodes)
    ∷ when (not (holds_list 11 16 y.members (length y.links))) (TooShort lent.Links)
    ∷ when (ltb room count) (TooShort lent.List)
    ∷ []

-- The walk over the members' cells. A refusal leaves the visited list as it was; else entries behind those visited
-- stay.
unfoldable pub cross_member : CellSet → List ℕ → Location → List (List ℕ) → CrossingLeft
cross_member y choices s visited =
    let t = crossing (cells_of (members_of y)) choices s in
    crossed_by (decided (cross_causes y s (length (places t)) (length visited))) t visited
