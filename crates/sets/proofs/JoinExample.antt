-- Joining at named sets: what the call answers, and all six lists after it. Computed.
use Prim.Native.Nat.{ℕ}
use mathlib.Core.Path.{◌≡◌, refl}
use mathlib.Core.List.{List, [], ◌∷◌}
use lib.ListN.{replicate}
use Rattle.cells.specs.Lists.{every}
use Rattle.cells.specs.Memory.{Memory, memory, over_limit}
use Rattle.cells.specs.CellOf.{nodes_of, cell_of}
use Rattle.cells.specs.Lookup.{first_with}
use Rattle.cells.specs.declared.ynd.Ynd.{Ynd}
use Rattle.sets.specs.Members.{map_from}
use Rattle.sets.specs.MemberList.{nodes_together, any_over, over_set}
use Rattle.sets.specs.CellSet.{CellSet, cell_set, ynd_of, words_at, total, parts_of, parts_in, members_of, holds_list}
use Rattle.sets.specs.Leave.{set_left, first_of_area}
use Rattle.sets.specs.Join.{stored, part_fits, lack_for, join_causes, with_cell, join_cell}
use Rattle.cells.specs.Memory.{per_list}
use Rattle.cells.specs.declared.counts.Counts.{Counts}
use Rattle.std.specs.Prelude.{Ok, Err}
use Rattle.numbers.specs.declared.refusal.Refusal.TheVariants.{TooShort, AtLimit, AreaTaken}
use Rattle.numbers.specs.declared.refusal.Lent.TheVariants as lent
use Rattle.cells.specs.declared.node_entry.NodeEntry.{NodeEntry}
use Rattle.cells.specs.Nodes.{no_entry as no_node}

-- a cell of so many nodes and refs
abbrev words : ℕ → ℕ → Ynd
words nodes refs = record {
  vft = 8;
  vehicle_node_count = 0;
  ped_node_count = 0;
  unknowns = 1 ∷ 2 ∷ 3 ∷ 4 ∷ 5 ∷ 6 ∷ 7 ∷ [];
  node_count = nodes;
  link_count = 0;
  junction_count = 0;
  heightmap_count = 0;
  ref_count = refs;
}

-- its entry, with a part of so many nodes
abbrev entry : ℕ → ℕ → List ℕ
entry n size = 8 ∷ 0 ∷ 0 ∷ 1 ∷ 2 ∷ 3 ∷ 4 ∷ 5 ∷ 6 ∷ 7 ∷ n ∷ 0 ∷ 0 ∷ 0 ∷ 0 ∷ size ∷ 0 ∷ 0 ∷ 0 ∷ 0 ∷ []

abbrev node : ℕ → NodeEntry
node area = record no_node {
  area_id = area;
  street_name = 1;
  unused0 = 7;
  unused1 = 8;
  unused2 = 9;
  unused3 = 10;
  unused4 = 11;
}

abbrev nodes_only : List (List ℕ) → List NodeEntry → CellSet
nodes_only members nodes = cell_set members nodes [] [] [] []

-- a cell of one node, in a list of two
abbrev cell : ℕ → Memory
cell area = memory (words 1 0) (node area ∷ node 66 ∷ []) [] [] [] []

abbrev room : ℕ → Counts
room n = per_list n 0 0 0 0

-- area 5, with an entry to spare; room for one more entry, and for three more nodes
abbrev one : CellSet
one = nodes_only (entry 1 2 ∷ [] ∷ []) (node 5 ∷ node 50 ∷ node 60 ∷ node 61 ∷ node 62 ∷ [])

-- the cell's one node goes behind the first part; how many entries its part has is the caller's number
pub joins : join_cell 1 one (cell 6) (room 3)
    ≡ set_left (Ok tt) 2 (nodes_only (entry 1 2 ∷ entry 1 3 ∷ [])
    (node 5 ∷ node 50 ∷ node 6 ∷ node 61 ∷ node 62 ∷ []))
unfolding join_cell join_causes with_cell stored lack_for part_fits first_of_area members_of map_from parts_in
    parts_of words_at total ynd_of over_set nodes_together any_over over_limit holds_list every cell_of nodes_of
    first_with
joins = refl

pub area_there : join_cell 1 one (cell 5) (room 1) ≡ set_left (Err AreaTaken) 1 one
unfolding join_cell join_causes first_of_area members_of map_from parts_in parts_of words_at total ynd_of cell_of
    nodes_of first_with
area_there = refl

-- no room for four nodes more; a part smaller than the cell's count; no entry left
pub no_room : join_cell 1 one (cell 6) (room 4) ≡ set_left (Err (TooShort lent.Nodes)) 1 one
unfolding join_cell join_causes lack_for part_fits first_of_area members_of map_from parts_in parts_of words_at
    total ynd_of over_set nodes_together any_over over_limit holds_list every cell_of nodes_of first_with
no_room = refl

pub part_too_small : join_cell 1 one (cell 6) (room 0) ≡ set_left (Err (TooShort lent.Nodes)) 1 one
unfolding join_cell join_causes lack_for part_fits first_of_area members_of map_from parts_in parts_of words_at
    total ynd_of over_set nodes_together any_over over_limit holds_list every cell_of nodes_of first_with
part_too_small = refl

abbrev full : CellSet
full = nodes_only (entry 1 2 ∷ []) (node 5 ∷ node 50 ∷ node 60 ∷ [])

pub no_entry : join_cell 1 full (cell 6) (room 1) ≡ set_left (Err (TooShort lent.Members)) 1 full
unfolding join_cell join_causes lack_for part_fits first_of_area members_of map_from parts_in parts_of words_at
    total ynd_of over_set nodes_together any_over over_limit holds_list every cell_of nodes_of first_with
no_entry = refl

-- the lowest place: the set's list of nodes is too short, and the cell's list of refs
pub lowest : join_cell 0 (nodes_only ([] ∷ []) []) (memory (words 1 1) (node 6 ∷ []) [] [] [] [])
    (per_list 1 0 0 0 1) ≡ set_left (Err (TooShort lent.Nodes)) 0 (nodes_only ([] ∷ []) [])
unfolding join_cell join_causes lack_for part_fits first_of_area members_of map_from parts_in parts_of words_at
    total ynd_of over_set nodes_together any_over over_limit holds_list every cell_of nodes_of first_with
lowest = refl

-- ten members made by hand, all of area 0: 18 comes before 14
abbrev ten : CellSet
ten = nodes_only (replicate 10 (entry 0 0)) []

pub ten_there : join_cell 10 ten (memory (words 0 0) [] [] [] [] []) (room 0) ≡ set_left (Err AreaTaken) 10 ten
unfolding join_cell join_causes first_of_area members_of map_from parts_in parts_of words_at total ynd_of cell_of
    nodes_of first_with
ten_there = refl

pub eleventh : join_cell 10 ten (cell 6) (room 1) ≡ set_left (Err AtLimit) 10 ten
unfolding join_cell join_causes first_of_area members_of map_from parts_in parts_of words_at total ynd_of over_set
    nodes_together any_over over_limit cell_of nodes_of first_with
eleventh = refl
