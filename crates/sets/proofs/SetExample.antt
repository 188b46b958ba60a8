-- The claim speaks of something: a sound set of two members that link into each other, one of which is renumbered.
-- All of it is computed.
use Prim.Native.Nat.{ℕ}
use mathlib.Core.Path.{◌≡◌, refl}
use mathlib.Core.Bool.{true, false}
use mathlib.Core.List.{List, [], ◌∷◌, map}
use mathlib.Core.Option.{some}
use lib.ListN.{replicate, get_or}
use Rattle.cells.specs.Lists.{every}
use Rattle.cells.specs.Memory.{Memory, memory, over_limit, short_of}
use Rattle.cells.specs.Area.{belongs}
use Rattle.cells.specs.Order.{keep, rank, parted, new_place, listed, new_places, last_with, new_number, renamed}
use Rattle.cells.specs.Nodes.{is_ped, number_from, reordered, first_area, old_of}
use Rattle.cells.specs.Nodes.{no_entry, no_link}
use Rattle.cells.specs.declared.node_entry.NodeEntry.{NodeEntry}
use Rattle.cells.specs.declared.link.PathLink.{PathLink}
use Rattle.cells.specs.CellOf.{nodes_of, junctions_of, refs_of, cell_of}
use Rattle.cells.specs.Lookup.{first_with, find}
use Rattle.cells.specs.Renumber.{vehicles, peds, renumber_lists, recounted, answer_of, new_lists, renumber_memory}
use Rattle.cells.specs.Renumber.{renumber}
use Rattle.cells.specs.declared.ynd.Ynd.{Ynd}
use Rattle.walks.specs.Sound.{differing, sound}
use Rattle.walks.specs.Walk.{next, walk_in}
use Rattle.walks.specs.Calls.{renumbering}
use Rattle.walks.specs.Claim.{places}
use Rattle.sets.specs.Members.{member_for, map_from, every_from}
use Rattle.sets.specs.Crossing.{location, next_in, crossing}
use Rattle.sets.specs.SetSound.{set_sound}
use Rattle.sets.specs.MemberList.{no_memory, member_at, cells_of, nodes_together, any_over, over_set, member_causes}
use Rattle.sets.specs.SetRenumber.{corrected, correct_memory, renumber_in}
use Rattle.sets.specs.SetCalls.{SetCall, after_in, run_in, renumbers_in, moved_in}

-- a node of this area and number with one link
abbrev node : ℕ → ℕ → ℕ → ℕ → NodeEntry
node area number link flags1 = record no_entry {
  area_id = area;
  node_id = number;
  street_name = 1;
  position = record { x = 2; y = 3; z = 4 };
  flags1 = flags1;
  link_count = 1;
  link_id = link;
  unused0 = 7;
  unused1 = 8;
  unused2 = 9;
  unused3 = 10;
  unused4 = 11;
}

abbrev link : ℕ → ℕ → PathLink
link area number = record { area_id = area; node_id = number; flags0 = 5; flags1 = 0; flags2 = 6; length = 0 }

abbrev two : Ynd
two = record {
  vft = 8;
  vehicle_node_count = 0;
  ped_node_count = 0;
  unknowns = 1 ∷ 2 ∷ 3 ∷ 4 ∷ 5 ∷ 6 ∷ 7 ∷ [];
  node_count = 2;
  link_count = 2;
  junction_count = 0;
  heightmap_count = 0;
  ref_count = 0;
}

-- area 5: nodes 7 and 3 (ped), links to node 9 of the area 6 and out of the set; area 6: nodes 4 (ped) and 9, links
-- to 7 and to 3 of the area 5
abbrev yards : List Memory
yards =
    memory two (node 5 7 0 0 ∷ node 5 3 1 80 ∷ []) (link 6 9 ∷ link 8 1 ∷ []) [] [] []
    ∷ memory two (node 6 4 0 80 ∷ node 6 9 1 0 ∷ []) (link 5 7 ∷ link 5 3 ∷ []) [] [] []
    ∷ []

pub yards_sound : set_sound (cells_of yards) ≡ true
unfolding set_sound sound every every_from member_for belongs first_with cell_of nodes_of junctions_of refs_of
    differing
yards_sound = refl

abbrev call : SetCall
call = record { member = 1; call = renumbering (replicate 65536 7) (50 ∷ 51 ∷ []) }

-- the walk by the first link of each node, until it leaves the set
pub first_visits : places (crossing (cells_of yards) (0 ∷ 0 ∷ 0 ∷ []) (location 0 0)) ≡ location 0 0 ∷ location 1 1
    ∷ location 0 1 ∷ []
unfolding crossing walk_in next_in next find member_for belongs first_with cell_of nodes_of junctions_of refs_of
first_visits = refl

pub renumbered : renumbers_in yards call ≡ true
unfolding renumbers_in renumber_in member_causes over_set nodes_together any_over over_limit renumber answer_of
    short_of no_memory
renumbered = refl

-- the second member's nodes change places, and the first member's link follows
pub corrected_link : get_or (member_at (run_in yards (call ∷ [])) 0).links 0 no_link ≡ link 6 0
unfolding run_in after_in renumber_in member_causes over_set nodes_together any_over over_limit renumber answer_of
    short_of map_from correct_memory corrected member_for belongs first_with no_memory cell_of nodes_of
    junctions_of refs_of new_number last_with new_place keep rank is_ped
corrected_link = refl

pub moves : map (moved_in yards (call ∷ [])) (location 0 0 ∷ location 1 1 ∷ location 0 1 ∷ []) ≡ location 0 0
    ∷ location 1 0 ∷ location 0 1 ∷ []
unfolding moved_in renumbers_in renumber_in member_causes over_set nodes_together any_over over_limit renumber
    answer_of short_of no_memory new_place keep rank cell_of nodes_of
moves = refl

pub later_visits : places (crossing (cells_of (run_in yards (call ∷ []))) (0 ∷ 0 ∷ 0 ∷ []) (location 0 0))
    ≡ location 0 0 ∷ location 1 0 ∷ location 0 1 ∷ []
unfolding run_in after_in renumber_in member_causes over_set nodes_together any_over over_limit renumber answer_of
    short_of map_from correct_memory corrected no_memory new_number last_with new_place keep rank is_ped
    renumber_memory new_lists renumber_lists recounted vehicles peds reordered number_from parted
    first_area old_of renamed new_places listed crossing walk_in next_in next find member_for belongs
    first_with cell_of nodes_of junctions_of refs_of
later_visits = refl

-- ---- the limits: nine members, and 65,536 nodes together

-- a member of so many nodes
abbrev nodes_only : ℕ → Memory
nodes_only n = memory (record {
  vft = 0;
  vehicle_node_count = 0;
  ped_node_count = 0;
  unknowns = [];
  node_count = n;
  link_count = 0;
  junction_count = 0;
  heightmap_count = 0;
  ref_count = 0;
}) [] [] [] [] []

pub nine_members : over_set (replicate 9 (nodes_only 0)) ≡ false
unfolding over_set nodes_together any_over over_limit
nine_members = refl

pub ten_members : over_set (replicate 10 (nodes_only 0)) ≡ true
unfolding over_set nodes_together any_over over_limit
ten_members = refl

pub just_together : over_set (nodes_only 32768 ∷ nodes_only 32768 ∷ []) ≡ false
unfolding over_set nodes_together any_over over_limit
just_together = refl

pub one_beyond : over_set (nodes_only 32768 ∷ nodes_only 32769 ∷ []) ≡ true
unfolding over_set nodes_together any_over over_limit
one_beyond = refl

-- ---- which member is meant

-- of two members of one area, a link of the second names the second, and one of a third member the first
pub own_first : member_for (5 ∷ 5 ∷ 6 ∷ []) 1 5 ≡ some 1
unfolding member_for belongs
own_first = refl

pub joined_first : member_for (5 ∷ 5 ∷ 6 ∷ []) 2 5 ≡ some 0
unfolding member_for belongs first_with
joined_first = refl
