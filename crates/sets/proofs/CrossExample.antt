-- Crossing walks and soundness at named sets in six lists: what the calls answer, and the lists lent to them.
-- Computed.
use Prim.Native.Nat.{ℕ}
use mathlib.Core.Path.{◌≡◌, refl}
use mathlib.Core.List.{List, [], ◌∷◌}
use lib.ListN.{replicate, get_or}
use Rattle.cells.specs.Lists.{every}
use Rattle.cells.specs.Memory.{over_limit}
use Rattle.cells.specs.Area.{belongs}
use Rattle.cells.specs.CellOf.{nodes_of, junctions_of, refs_of, cell_of}
use Rattle.cells.specs.Lookup.{first_with, find}
use Rattle.walks.specs.Sound.{differing, sound}
use Rattle.walks.specs.SoundCall.{indexed}
use Rattle.walks.specs.Walk.{next, walk_in}
use Rattle.walks.specs.declared.walk.End.TheVariants.{Done, Left, NoNode}
use Rattle.sets.specs.Members.{member_for, map_from, every_from}
use Rattle.sets.specs.Crossing.{location, next_in, crossing}
use Rattle.sets.specs.MemberList.{no_memory, nodes_together, any_over, over_set}
use Rattle.sets.specs.CrossingCall.{crossing_left}
use Rattle.sets.specs.SetSound.{set_sound}
use Rattle.sets.specs.CellSet.{CellSet, cell_set, ynd_of, words_at, total, parts_of, parts_in, members_of, holds_list}
use Rattle.sets.specs.CrossMember.{cross_causes, cross_member}
use Rattle.sets.specs.SetSoundCall.{indexed_set, sound_causes, set_sound_call}
use Rattle.std.specs.Prelude.{true, false, Ok, Err}
use Rattle.numbers.specs.declared.refusal.Refusal.TheVariants.{TooShort, NoSuchPlace}
use Rattle.numbers.specs.declared.refusal.Lent.TheVariants as lacking
use Rattle.cells.specs.declared.node_entry.NodeEntry.{NodeEntry}
use Rattle.cells.specs.Nodes.{no_entry, no_link}
use Rattle.cells.specs.declared.link.PathLink.{PathLink}

-- a member of two nodes and two links, in parts of so many entries
abbrev pub entry : ℕ → ℕ → List ℕ
entry nodes links = 8 ∷ 0 ∷ 0 ∷ 1 ∷ 2 ∷ 3 ∷ 4 ∷ 5 ∷ 6 ∷ 7 ∷ 2 ∷ 2 ∷ 0 ∷ 0 ∷ 0 ∷ nodes ∷ links ∷ 0 ∷ 0 ∷ 0 ∷ []

-- a node of this area and number, with one link, from here
abbrev pub node : ℕ → ℕ → ℕ → NodeEntry
node area number start = record no_entry { area_id = area; node_id = number; link_count = 1; link_id = start }

abbrev pub link : ℕ → ℕ → PathLink
link area number = record no_link { area_id = area; node_id = number; flags0 = 5; flags2 = 6 }

abbrev pub walked : List (List ℕ) → List NodeEntry → List PathLink → CellSet
walked members nodes links = cell_set members nodes links [] [] []

-- Area 5, with an entry of its nodes to spare: nodes 7 and 3, with links to 9 of area 6 and out of the set. Area 6:
-- nodes 4 and 9, with links to the number k of area 5 and to 3 of it. An entry of nodes behind them all.
abbrev pub two_cells : ℕ → CellSet
two_cells k = walked (entry 3 2 ∷ entry 2 2 ∷ [])
    (node 5 7 0 ∷ node 5 3 1 ∷ node 5 99 0 ∷ node 6 4 0 ∷ node 6 9 1 ∷ node 9 9 9 ∷ [])
    (link 6 9 ∷ link 8 1 ∷ link 5 k ∷ link 5 3 ∷ [])

abbrev pub lent : List (List ℕ)
lent = (70 ∷ 71 ∷ []) ∷ (72 ∷ 73 ∷ []) ∷ (74 ∷ 75 ∷ []) ∷ (76 ∷ 77 ∷ []) ∷ []

-- from node 7 into area 6, back to node 3, and out: four choices, of which the last is not used
pub crosses : cross_member (two_cells 7) (0 ∷ 0 ∷ 0 ∷ 0 ∷ []) (location 0 0) lent
    ≡ crossing_left (Ok (record { end = (Left 8 1); count = 3 }))
    ((0 ∷ 0 ∷ []) ∷ (1 ∷ 1 ∷ []) ∷ (0 ∷ 1 ∷ []) ∷ (76 ∷ 77 ∷ []) ∷ [])
unfolding cross_member cross_causes holds_list total words_at every over_set nodes_together any_over over_limit
    no_memory
    members_of map_from parts_in parts_of ynd_of crossing walk_in next_in next find member_for belongs first_with
    cell_of
    nodes_of junctions_of refs_of
crosses = refl

-- a link to a number that area 5 lacks
pub no_node_there : cross_member (two_cells 8) (0 ∷ []) (location 1 0) lent
    ≡ crossing_left (Ok (record { end = NoNode; count = 1 }))
    ((1 ∷ 0 ∷ []) ∷ (72 ∷ 73 ∷ []) ∷ (74 ∷ 75 ∷ []) ∷ (76 ∷ 77 ∷ []) ∷ [])
unfolding cross_member cross_causes holds_list total words_at every over_set nodes_together any_over over_limit
    no_memory
    members_of map_from parts_in parts_of ynd_of crossing walk_in next_in next find member_for belongs first_with
    cell_of
    nodes_of junctions_of refs_of
no_node_there = refl

-- no third member; no third place, though the part has an entry there; a list of two for three nodes
pub no_member : cross_member (two_cells 7) [] (location 2 0) lent ≡ crossing_left (Err NoSuchPlace) lent
unfolding cross_member cross_causes
no_member = refl

pub no_place : cross_member (two_cells 7) [] (location 0 2) lent ≡ crossing_left (Err NoSuchPlace) lent
unfolding cross_member cross_causes no_memory members_of map_from parts_in parts_of words_at ynd_of
no_place = refl

pub visited_short : cross_member (two_cells 7) (0 ∷ 0 ∷ 0 ∷ []) (location 0 0) ((70 ∷ 71 ∷ []) ∷ (72 ∷ 73 ∷ []) ∷ [])
    ≡ crossing_left (Err (TooShort lacking.List)) ((70 ∷ 71 ∷ []) ∷ (72 ∷ 73 ∷ []) ∷ [])
unfolding cross_member cross_causes holds_list total words_at every over_set nodes_together any_over over_limit
    no_memory
    members_of map_from parts_in parts_of ynd_of crossing walk_in next_in next find member_for belongs first_with
    cell_of
    nodes_of junctions_of refs_of
visited_short = refl

-- made by hand: a part of one entry for two nodes, and parts of more links than the list has
pub part_short : cross_member (walked (entry 1 2 ∷ []) (node 5 7 0 ∷ node 5 3 1 ∷ []) (link 6 9 ∷ link 8 1 ∷ [])) []
    (location 0 0) lent ≡ crossing_left (Err (TooShort lacking.Nodes)) lent
unfolding cross_member cross_causes holds_list total words_at every over_set nodes_together any_over over_limit
    no_memory
    members_of map_from parts_in parts_of ynd_of
part_short = refl

pub list_short : cross_member (walked (entry 2 3 ∷ []) (node 5 7 0 ∷ node 5 3 1 ∷ []) (link 6 9 ∷ link 8 1 ∷ [])) []
    (location 0 0) lent ≡ crossing_left (Err (TooShort lacking.Links)) lent
unfolding cross_member cross_causes holds_list total words_at every over_set nodes_together any_over over_limit
    no_memory
    members_of map_from parts_in parts_of ynd_of
list_short = refl

-- ---- of two members of one area

-- area 5 twice, both with a node 7 first; area 6 links to it
abbrev pub twice : CellSet
twice = walked (entry 2 2 ∷ entry 2 2 ∷ entry 2 2 ∷ [])
    (node 5 7 0 ∷ node 5 3 0 ∷ node 5 7 0 ∷ node 5 4 1 ∷ node 6 1 0 ∷ node 6 2 0 ∷ [])
    (link 6 1 ∷ link 5 3 ∷ link 5 3 ∷ link 5 4 ∷ link 5 7 ∷ link 5 4 ∷ [])

-- a link of area 6 means the first joined
pub first_joined : cross_member twice (0 ∷ []) (location 2 0) ((70 ∷ 71 ∷ []) ∷ (72 ∷ 73 ∷ []) ∷ [])
    ≡ crossing_left (Ok (record { end = Done; count = 2 })) ((2 ∷ 0 ∷ []) ∷ (0 ∷ 0 ∷ []) ∷ [])
unfolding cross_member cross_causes holds_list total words_at every over_set nodes_together any_over over_limit
    no_memory
    members_of map_from parts_in parts_of ynd_of crossing walk_in next_in next find member_for belongs first_with
    cell_of
    nodes_of junctions_of refs_of
first_joined = refl

-- the second's own rule has its say first: its link to number 4 of area 5 stays in it, though the first has no such
-- node
pub own_stays : cross_member twice (0 ∷ []) (location 1 1) ((70 ∷ 71 ∷ []) ∷ (72 ∷ 73 ∷ []) ∷ [])
    ≡ crossing_left (Ok (record { end = Done; count = 2 })) ((1 ∷ 1 ∷ []) ∷ (1 ∷ 1 ∷ []) ∷ [])
unfolding cross_member cross_causes holds_list total words_at every over_set nodes_together any_over over_limit
    no_memory
    members_of map_from parts_in parts_of ynd_of crossing walk_in next_in next find member_for belongs first_with
    cell_of
    nodes_of junctions_of refs_of
own_stays = refl

-- ---- soundness

abbrev scratch : List ℕ
scratch = replicate 65536 50

pub is_sound : (set_sound_call (two_cells 7) scratch).answer ≡ (Ok true)
unfolding set_sound_call sound_causes holds_list total words_at every over_set nodes_together any_over over_limit
    members_of
    map_from parts_in parts_of ynd_of set_sound sound every_from member_for belongs first_with cell_of nodes_of
    junctions_of
    refs_of differing
is_sound = refl

-- the scratch leads to node 9, the second of area 6; an entry of no number stays
pub scratch_nine : get_or (set_sound_call (two_cells 7) scratch).scratch 9 0 ≡ 1
unfolding set_sound_call sound_causes holds_list total words_at every over_set nodes_together any_over over_limit
    members_of
    map_from parts_in parts_of ynd_of indexed_set indexed cell_of nodes_of junctions_of refs_of
scratch_nine = refl

pub scratch_ten : get_or (set_sound_call (two_cells 7) scratch).scratch 10 0 ≡ 50
unfolding set_sound_call sound_causes holds_list total words_at every over_set nodes_together any_over over_limit
    members_of
    map_from parts_in parts_of ynd_of indexed_set indexed cell_of nodes_of junctions_of refs_of
scratch_ten = refl

-- a link into area 5 to the number 8, which no node of it has: each member is sound, the set is not
pub lost_link : (set_sound_call (two_cells 8) scratch).answer ≡ (Ok false)
unfolding set_sound_call sound_causes holds_list total words_at every over_set nodes_together any_over over_limit
    members_of
    map_from parts_in parts_of ynd_of set_sound sound every_from member_for belongs first_with cell_of nodes_of
    junctions_of
    refs_of differing
lost_link = refl

-- a link into area 5, of which the first joined lacks the number 4 and the second has it
pub first_lacks : (set_sound_call twice scratch).answer ≡ (Ok false)
unfolding set_sound_call sound_causes holds_list total words_at every over_set nodes_together any_over over_limit
    members_of
    map_from parts_in parts_of ynd_of set_sound sound every_from member_for belongs first_with cell_of nodes_of
    junctions_of
    refs_of differing
first_lacks = refl

pub scratch_short : set_sound_call (two_cells 7) (50 ∷ [])
    ≡ record { answer = Err (TooShort lacking.Scratch); scratch = 50 ∷ [] }
unfolding set_sound_call sound_causes holds_list total words_at every over_set nodes_together any_over over_limit
    members_of
    map_from parts_in parts_of ynd_of
scratch_short = refl
