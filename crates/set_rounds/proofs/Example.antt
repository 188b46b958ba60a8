-- Rounds followed in named sets: in which member each starts. Computed.
use Rattle.std.proofs.Common.{◌≡◌, [], ◌∷◌, refl}
use Rattle.std.specs.Prelude.{Ok, Err}
use Rattle.numbers.specs.declared.refusal.Refusal.TheVariants.{NoSuchPlace, OtherArea}
use Rattle.cells.specs.Area.{belongs}
use Rattle.cells.specs.CellOf.{nodes_of, junctions_of, refs_of, cell_of}
use Rattle.cells.specs.Lists.{every}
use Rattle.cells.specs.Lookup.{first_with, find}
use Rattle.cells.specs.LookupCall.{node_call, find_in, numbers_in}
use Rattle.cells.specs.Memory.{over_limit, nodes_causes}
use Rattle.rounds.specs.declared.file.Version.TheVariants.{One, Two}
use Rattle.walks.specs.Walk.{next, walk_in}
use Rattle.walks.specs.declared.walk.End.TheVariants.{Done}
use Rattle.sets.specs.CellSet.{ynd_of, words_at, total, parts_of, parts_in, members_of, holds_list, lack_of}
use Rattle.sets.specs.CellSet.{set_causes}
use Rattle.sets.specs.Crossing.{next_in, crossing}
use Rattle.sets.specs.CrossingCall.{crossing_left}
use Rattle.sets.specs.CrossMember.{cross_causes, cross_member}
use Rattle.sets.specs.Leave.{first_of_area}
use Rattle.sets.specs.MemberList.{no_memory, nodes_together, any_over, over_set}
use Rattle.sets.specs.MemberLookup.{ask_member}
use Rattle.sets.specs.Members.{member_for, map_from}
use Rattle.sets.specs.SetStored.{ask_causes}
use Rattle.sets.proofs.CrossExample.{two_cells, twice, lent}
use Rattle.set_rounds.specs.FollowInSet.{follow_in_set}

-- a round of area 6 from number 9, whatever member the caller names: from the second node of the second member
pub of_area_6 : follow_in_set (two_cells 7) (Two 6) 0 9 (0 ∷ []) lent
    ≡ crossing_left (Ok (record { end = Done; count = 2 }))
    ((1 ∷ 1 ∷ []) ∷ (0 ∷ 1 ∷ []) ∷ (74 ∷ 75 ∷ []) ∷ (76 ∷ 77 ∷ []) ∷ [])
unfolding follow_in_set first_of_area ask_member ask_causes set_causes lack_of node_call nodes_causes find_in
    numbers_in cross_member cross_causes holds_list total words_at every over_set nodes_together any_over over_limit
    no_memory members_of map_from parts_in parts_of ynd_of crossing walk_in next_in next find member_for belongs
    first_with cell_of nodes_of junctions_of refs_of
of_area_6 = refl

-- one of version 1 in the member that the caller names
pub in_the_named : follow_in_set (two_cells 7) One 1 9 (0 ∷ []) lent
    ≡ crossing_left (Ok (record { end = Done; count = 2 }))
    ((1 ∷ 1 ∷ []) ∷ (0 ∷ 1 ∷ []) ∷ (74 ∷ 75 ∷ []) ∷ (76 ∷ 77 ∷ []) ∷ [])
unfolding follow_in_set ask_member ask_causes set_causes lack_of node_call nodes_causes find_in numbers_in
    cross_member cross_causes holds_list total words_at every over_set nodes_together any_over over_limit no_memory
    members_of map_from parts_in parts_of ynd_of crossing walk_in next_in next find member_for belongs first_with
    cell_of
    nodes_of junctions_of refs_of
in_the_named = refl

-- no member has area 7, and no node the number 99: 19 before 13
pub of_area_7 : follow_in_set (two_cells 7) (Two 7) 0 99 [] lent ≡ crossing_left (Err OtherArea) lent
unfolding follow_in_set first_of_area over_limit no_memory members_of map_from parts_in parts_of words_at ynd_of
    first_with
    cell_of nodes_of junctions_of refs_of
of_area_7 = refl

-- area 6 with the island's bit is another area
pub of_area_1030 : follow_in_set (two_cells 7) (Two 1030) 0 9 [] lent ≡ crossing_left (Err OtherArea) lent
unfolding follow_in_set first_of_area over_limit no_memory members_of map_from parts_in parts_of words_at ynd_of
    first_with
    cell_of nodes_of junctions_of refs_of
of_area_1030 = refl

-- of two members of area 5 the first joined is meant, which has no node 4
pub first_of_two : follow_in_set twice (Two 5) 1 4 [] lent ≡ crossing_left (Err NoSuchPlace) lent
unfolding follow_in_set first_of_area ask_member ask_causes set_causes lack_of node_call nodes_causes find_in
    numbers_in find holds_list total words_at every over_set nodes_together any_over over_limit no_memory members_of
    map_from parts_in parts_of ynd_of first_with cell_of nodes_of junctions_of refs_of
first_of_two = refl
