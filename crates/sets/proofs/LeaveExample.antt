-- Leaving at named sets: what the call answers, and all six lists after it. Computed.
use Prim.Native.Nat.{ℕ}
use mathlib.Core.Path.{◌≡◌, refl}
use mathlib.Core.List.{List, [], ◌∷◌}
use lib.ListN.{replicate}
use Rattle.cells.specs.Lists.{every}
use Rattle.cells.specs.Memory.{over_limit}
use Rattle.cells.specs.CellOf.{nodes_of, cell_of}
use Rattle.cells.specs.Lookup.{first_with}
use Rattle.sets.specs.Members.{map_from}
use Rattle.sets.specs.MemberList.{nodes_together, any_over, over_set}
use Rattle.sets.specs.CellSet.{CellSet, cell_set, ynd_of, words_at, total, parts_of, parts_in, members_of}
use Rattle.sets.specs.CellSet.{holds_list, lack_of, set_causes}
use Rattle.sets.specs.Leave.{set_left, closed, without, first_of_area, leave_causes, leave_area}
use Rattle.std.specs.Prelude.{Ok, Err}
use Rattle.numbers.specs.declared.refusal.Refusal.TheVariants.{TooShort, NoSuchPlace, AtLimit}
use Rattle.numbers.specs.declared.refusal.Lent.TheVariants as lent
use Rattle.cells.specs.declared.node_entry.NodeEntry.{NodeEntry}
use Rattle.cells.specs.Nodes.{no_entry}

-- a member of so many nodes, in a part of so many entries
abbrev entry : ℕ → ℕ → List ℕ
entry n size = 8 ∷ 0 ∷ 0 ∷ 1 ∷ 2 ∷ 3 ∷ 4 ∷ 5 ∷ 6 ∷ 7 ∷ n ∷ 0 ∷ 0 ∷ 0 ∷ 0 ∷ size ∷ 0 ∷ 0 ∷ 0 ∷ 0 ∷ []

abbrev node : ℕ → NodeEntry
node area = record no_entry {
  area_id = area;
  street_name = 1;
  unused0 = 7;
  unused1 = 8;
  unused2 = 9;
  unused3 = 10;
  unused4 = 11;
}

abbrev nodes_only : List (List ℕ) → List NodeEntry → CellSet
nodes_only members nodes = cell_set members nodes [] [] [] []

-- areas 5, with an entry to spare, 6 and 5 again; an entry behind them all
abbrev three : CellSet
three = nodes_only (entry 1 2 ∷ entry 1 1 ∷ entry 1 1 ∷ []) (node 5 ∷ node 50 ∷ node 6 ∷ node 5 ∷ node 99 ∷ [])

-- of the two of area 5 the first joined leaves; the entry behind them all stays
pub first_leaves : leave_area three 5
    ≡ set_left (Ok tt) 2 (nodes_only (entry 1 1 ∷ entry 1 1 ∷ entry 1 1 ∷ [])
    (node 6 ∷ node 5 ∷ node 6 ∷ node 5 ∷ node 99 ∷ []))
unfolding leave_area leave_causes first_of_area set_causes members_of map_from parts_in parts_of words_at total
    ynd_of over_set nodes_together any_over over_limit lack_of holds_list every without closed cell_of nodes_of
    first_with
first_leaves = refl

pub no_such_area : leave_area three 7 ≡ set_left (Err NoSuchPlace) 3 three
unfolding leave_area leave_causes first_of_area set_causes members_of map_from parts_in parts_of words_at total
    ynd_of cell_of nodes_of first_with
no_such_area = refl

-- sets made by hand: ten members, and a part of five entries in a list of one; 13 comes first
abbrev ten : CellSet
ten = nodes_only (replicate 10 (entry 0 0)) []

pub ten_lacking : leave_area ten 7 ≡ set_left (Err NoSuchPlace) 10 ten
unfolding leave_area leave_causes first_of_area set_causes members_of map_from parts_in parts_of words_at total
    ynd_of cell_of nodes_of first_with
ten_lacking = refl

pub ten_members : leave_area ten 0 ≡ set_left (Err AtLimit) 10 ten
unfolding leave_area leave_causes first_of_area set_causes members_of map_from parts_in parts_of words_at total
    ynd_of over_set nodes_together any_over over_limit cell_of nodes_of first_with
ten_members = refl

abbrev cut : CellSet
cut = nodes_only (entry 1 5 ∷ []) (node 5 ∷ [])

pub list_short : leave_area cut 5 ≡ set_left (Err (TooShort lent.Nodes)) 1 cut
unfolding leave_area leave_causes first_of_area set_causes members_of map_from parts_in parts_of words_at total
    ynd_of over_set nodes_together any_over over_limit lack_of holds_list every cell_of nodes_of first_with
list_short = refl
