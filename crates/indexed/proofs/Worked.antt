-- The call in named cells. Computed.
use Rattle.std.proofs.Common.{◌≡◌, ℕ, List, [], ◌∷◌, refl}
use Rattle.std.specs.Prelude.{Ok, Err}
use Rattle.numbers.specs.Refusals.{done}
use Rattle.numbers.specs.declared.refusal.Refusal.TheVariants.{TooShort, NoSuchPlace, OtherArea}
use Rattle.numbers.specs.declared.refusal.Lent.TheVariants as lent
use Rattle.cells.specs.Area.{belongs}
use Rattle.cells.specs.CellOf.{nodes_of}
use Rattle.cells.specs.Lookup.{find, first_with}
use Rattle.cells.specs.LookupCall.{node_call, find_in, numbers_in}
use Rattle.cells.specs.Memory.{Memory, memory, over_limit, nodes_causes}
use Rattle.cells.specs.Nodes.{no_entry, no_link, first_area}
use Rattle.rounds.specs.declared.file.Version.TheVariants.{Two}
use Rattle.walks.specs.Walk.{next}
use Rattle.walks.specs.WalkCall.{route, walk_left, walk_call}
use Rattle.walks.specs.declared.walk.End.TheVariants.{Done, NoNode}
use Rattle.indexed.specs.FollowIndexed.{follow_round_indexed, follow_version_indexed}
use Rattle.indexed.specs.WalkIndexed.{indexed_causes, first_indexed, index_left, walk_indexed}
use Rattle.cells.specs.declared.node_entry.NodeEntry.{NodeEntry}
use Rattle.cells.specs.declared.link.PathLink.{PathLink}

-- a node of area 5 with one link, the one at the place `link`
abbrev node : ℕ → ℕ → NodeEntry
node number link = record no_entry { area_id = 5; node_id = number; link_count = 1; link_id = link }

-- a link to the node with the number
abbrev link : ℕ → PathLink
link number = record no_link { area_id = 5; node_id = number }

-- two nodes, each with a link
abbrev two : List NodeEntry → List PathLink → Memory
two nodes links = memory (record {
  vft = 0;
  vehicle_node_count = 0;
  ped_node_count = 0;
  unknowns = [];
  node_count = 2;
  link_count = 2;
  junction_count = 0;
  heightmap_count = 0;
  ref_count = 0;
}) nodes links [] [] []

-- the numbers are turned round: place 0 has number 1
abbrev turned : Memory
turned = two (node 1 0 ∷ node 0 1 ∷ []) (link 0 ∷ link 1 ∷ [])

pub there_and_back : walk_indexed turned 65536 (0 ∷ 0 ∷ []) 0 (9 ∷ 9 ∷ 9 ∷ 9 ∷ [])
    ≡ walk_left (Ok (record { end = Done; count = 3 })) (0 ∷ 1 ∷ 0 ∷ 9 ∷ [])
unfolding walk_indexed indexed_causes walk_call over_limit route next nodes_of find first_with belongs
there_and_back = refl

-- two nodes with the number 7: the first is meant, at the start too
abbrev alike : Memory
alike = two (node 7 0 ∷ node 7 1 ∷ []) (link 7 ∷ link 7 ∷ [])

pub first_of_two : walk_indexed alike 65536 (0 ∷ 0 ∷ []) 1 (9 ∷ 9 ∷ 9 ∷ [])
    ≡ walk_left (Ok (record { end = Done; count = 3 })) (1 ∷ 0 ∷ 0 ∷ [])
unfolding walk_indexed indexed_causes walk_call over_limit route next nodes_of find first_with belongs
first_of_two = refl

-- two nodes with the number 1: the node at place 1 is meant, though it is not the first
abbrev at_its_place : Memory
at_its_place = two (node 1 0 ∷ node 1 1 ∷ []) (link 1 ∷ link 1 ∷ [])

pub place_of_the_number : walk_indexed at_its_place 65536 (0 ∷ []) 0 (9 ∷ 9 ∷ [])
    ≡ walk_left (Ok (record { end = Done; count = 2 })) (0 ∷ 1 ∷ [])
unfolding walk_indexed indexed_causes walk_call over_limit route next nodes_of find first_with belongs
place_of_the_number = refl

-- a number that no node has, whatever the scratch held at it
abbrev nobody : Memory
nobody = two (node 1 0 ∷ node 0 1 ∷ []) (link 9 ∷ link 1 ∷ [])

pub leads_nowhere : walk_indexed nobody 65536 (0 ∷ 0 ∷ []) 0 (9 ∷ 9 ∷ 9 ∷ [])
    ≡ walk_left (Ok (record { end = NoNode; count = 1 })) (0 ∷ 9 ∷ 9 ∷ [])
unfolding walk_indexed indexed_causes walk_call over_limit route next nodes_of find first_with belongs
leads_nowhere = refl

-- a scratch of one entry too few is refused before a visited list of none
pub one_entry_short : walk_indexed turned 65535 (0 ∷ []) 0 [] ≡ walk_left (Err (TooShort lent.Scratch)) []
unfolding walk_indexed indexed_causes over_limit
one_entry_short = refl

pub no_visited_list : walk_indexed turned 65536 (0 ∷ []) 0 [] ≡ walk_left (Err (TooShort lent.List)) []
unfolding walk_indexed indexed_causes walk_call over_limit route next nodes_of find first_with belongs
no_visited_list = refl

-- a list of links that is too short comes before the scratch
pub links_before : walk_indexed (two (node 1 0 ∷ node 0 1 ∷ []) (link 0 ∷ [])) 0 [] 0 []
    ≡ walk_left (Err (TooShort lent.Links)) []
unfolding walk_indexed indexed_causes over_limit
links_before = refl

-- ---- the scratch

-- each number's first place; the third entry is of no number, and stays
pub firsts : index_left done alike.ynd alike.nodes (0 ∷ 0 ∷ 0 ∷ 0 ∷ 0 ∷ 0 ∷ 0 ∷ 9 ∷ 8 ∷ [])
    ≡ 0 ∷ 0 ∷ 0 ∷ 0 ∷ 0 ∷ 0 ∷ 0 ∷ 0 ∷ 8 ∷ []
unfolding first_indexed
firsts = refl

-- ---- rounds

-- the round starts at the node with the number 1, which stands at place 0
pub round_from_1 : follow_round_indexed turned 65536 1 (0 ∷ []) (9 ∷ 9 ∷ [])
    ≡ walk_left (Ok (record { end = Done; count = 2 })) (0 ∷ 1 ∷ [])
unfolding follow_round_indexed node_call nodes_causes find_in numbers_in walk_indexed indexed_causes walk_call
    over_limit route next nodes_of find first_with belongs
round_from_1 = refl

-- another area comes before both
pub other_area : follow_version_indexed turned 0 (Two 6) 9 [] [] ≡ walk_left (Err OtherArea) []
unfolding follow_version_indexed first_area
other_area = refl

-- a number that no node has comes before the scratch
pub no_start : follow_round_indexed turned 0 9 [] [] ≡ walk_left (Err NoSuchPlace) []
unfolding follow_round_indexed node_call nodes_causes find_in numbers_in over_limit find first_with
no_start = refl
