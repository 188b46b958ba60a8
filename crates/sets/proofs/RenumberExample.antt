-- Renumbering a member at a named set: what the call answers, and all six lists after it. Computed.
use Prim.Native.Nat.{ℕ}
use mathlib.Core.Path.{◌≡◌, refl}
use mathlib.Core.List.{List, [], ◌∷◌}
use Rattle.records.specs.Put.{put}
use Rattle.cells.specs.Lists.{every}
use Rattle.cells.specs.Memory.{over_limit, short_of}
use Rattle.cells.specs.Area.{belongs}
use Rattle.cells.specs.Order.{keep, rank, parted, new_place, listed, new_places, last_with, new_number, renamed}
use Rattle.cells.specs.Nodes.{is_ped, number_from, reordered}
use Rattle.cells.specs.Nodes.{first_area, old_of}
use Rattle.cells.specs.Nodes.{no_entry}
use Rattle.cells.specs.declared.node_entry.NodeEntry.{NodeEntry}
use Rattle.cells.specs.declared.link.PathLink.{PathLink}
use Rattle.cells.specs.CellOf.{nodes_of, cell_of}
use Rattle.cells.specs.Lookup.{first_with}
use Rattle.cells.specs.Renumber.{vehicles, peds, renumber_lists, recounted, answer_of}
use Rattle.cells.specs.Renumber.{new_lists, renumber_memory, renumber}
use Rattle.sets.specs.Members.{member_for, map_from}
use Rattle.sets.specs.MemberList.{nodes_together, any_over, over_set}
use Rattle.sets.specs.SetRenumber.{corrected}
use Rattle.sets.specs.CellSet.{CellSet, cell_set, ynd_of, words_at, total, parts_of, parts_in, members_of}
use Rattle.sets.specs.CellSet.{holds_list, lack_of, set_causes}
use Rattle.sets.specs.SetStored.{ask_causes, with_member}
use Rattle.sets.specs.RenumberMember.{member_renumbered, correct_parts, others_corrected, renumber_member}
use Rattle.std.specs.Prelude.{Ok, Err}
use Rattle.numbers.specs.declared.refusal.Refusal.TheVariants.{TooShort, NoSuchPlace}
use Rattle.numbers.specs.declared.refusal.Lent.TheVariants as lent

-- a member of n nodes and l links, of which so many are no ped nodes, with parts of so many entries
abbrev entry : ℕ → ℕ → ℕ → ℕ → ℕ → List ℕ
entry vehicles n l nodes links =
    8 ∷ vehicles ∷ 0 ∷ 1 ∷ 2 ∷ 3 ∷ 4 ∷ 5 ∷ 6 ∷ 7 ∷ n ∷ l ∷ 0 ∷ 0 ∷ 0 ∷ nodes ∷ links ∷ 0 ∷ 0 ∷ 0 ∷ []

-- a node of this area and number, with the one link at this place
abbrev node : ℕ → ℕ → ℕ → NodeEntry
node area number link = record no_entry {
  area_id = area;
  node_id = number;
  street_name = 1;
  position = record { x = 2; y = 3; z = 4 };
  link_count = 1;
  link_id = link;
}

abbrev link : ℕ → ℕ → PathLink
link area number = record { area_id = area; node_id = number; flags0 = 5; flags1 = 0; flags2 = 6; length = 0 }

-- Area 5, which has one node and a link into area 6, one out of the set, and an entry to spare; area 6, whose two
-- nodes
-- have each other's place for their number; area 6 once more, with a link to its own node. One entry stands behind
-- all.
abbrev three : CellSet
three = cell_set
    (entry 0 1 2 1 3 ∷ entry 0 2 1 2 1 ∷ entry 0 1 1 1 1 ∷ [])
    (node 5 7 0 ∷ node 6 1 0 ∷ node 6 0 0 ∷ node 6 1 0 ∷ node 9 9 9 ∷ [])
    (link 6 1 ∷ link 8 1 ∷ link 6 1 ∷ link 5 7 ∷ link 6 1 ∷ link 6 1 ∷ [])
    [] [] []

-- The first of area 6 is renumbered: the link into it follows, once. The entry to spare, the later member's own link
-- and what is behind all parts stay.
pub first_renumbered : renumber_member three 1 65536 (50 ∷ 51 ∷ 52 ∷ []) ≡ member_renumbered (Ok tt) (cell_set
    (entry 0 1 2 1 3 ∷ entry 2 2 1 2 1 ∷ entry 0 1 1 1 1 ∷ [])
    (node 5 7 0 ∷ node 6 0 0 ∷ node 6 1 0 ∷ node 6 1 0 ∷ node 9 9 9 ∷ [])
    (link 6 0 ∷ link 8 1 ∷ link 6 1 ∷ link 5 7 ∷ link 6 1 ∷ link 6 1 ∷ [])
    [] [] []) (0 ∷ 1 ∷ 52 ∷ [])
unfolding renumber_member ask_causes set_causes members_of map_from parts_in parts_of words_at total ynd_of over_set
    nodes_together any_over over_limit lack_of holds_list every with_member others_corrected correct_parts
    corrected
    member_for belongs first_with put cell_of nodes_of is_ped new_number last_with
    new_place
    keep rank renumber answer_of short_of renumber_memory new_lists renumber_lists recounted vehicles peds reordered
    number_from parted first_area old_of renamed new_places listed
first_renumbered = refl

-- the later member of area 6: its own node and link change, and nothing outside it
pub later_renumbered : renumber_member three 2 65536 (50 ∷ []) ≡ member_renumbered (Ok tt) (cell_set
    (entry 0 1 2 1 3 ∷ entry 0 2 1 2 1 ∷ entry 1 1 1 1 1 ∷ [])
    (node 5 7 0 ∷ node 6 1 0 ∷ node 6 0 0 ∷ node 6 0 0 ∷ node 9 9 9 ∷ [])
    (link 6 1 ∷ link 8 1 ∷ link 6 1 ∷ link 5 7 ∷ link 6 0 ∷ link 6 1 ∷ [])
    [] [] []) (0 ∷ [])
unfolding renumber_member ask_causes set_causes members_of map_from parts_in parts_of words_at total ynd_of over_set
    nodes_together any_over over_limit lack_of holds_list every with_member others_corrected correct_parts
    corrected
    member_for belongs first_with put cell_of nodes_of is_ped new_number last_with
    new_place
    keep rank renumber answer_of short_of renumber_memory new_lists renumber_lists recounted vehicles peds reordered
    number_from parted first_area old_of renamed new_places listed
later_renumbered = refl

-- ---- refused: no such member, a scratch of 65,535 entries, one new place for two nodes

pub no_such_member : renumber_member three 3 0 [] ≡ member_renumbered (Err NoSuchPlace) three []
unfolding renumber_member ask_causes
no_such_member = refl

pub scratch_short : renumber_member three 1 65535 [] ≡ member_renumbered (Err (TooShort lent.Scratch)) three []
unfolding renumber_member ask_causes set_causes members_of map_from parts_in parts_of words_at total ynd_of over_set
    nodes_together any_over over_limit lack_of holds_list every renumber answer_of short_of
scratch_short = refl

pub places_short : renumber_member three 1 65536 (50 ∷ [])
    ≡ member_renumbered (Err (TooShort lent.NewPlaces)) three (50 ∷ [])
unfolding renumber_member ask_causes set_causes members_of map_from parts_in parts_of words_at total ynd_of over_set
    nodes_together any_over over_limit lack_of holds_list every renumber answer_of short_of
places_short = refl
