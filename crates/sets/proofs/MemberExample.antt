-- Calls on members at named sets: what they answer, and all six lists after them. Computed.
use Prim.Native.Nat.{ℕ}
use mathlib.Core.Path.{◌≡◌, refl}
use mathlib.Core.List.{List, [], ◌∷◌}
use Rattle.records.specs.Put.{put}
use Rattle.records.specs.declared.junction_ref.NodeJunctionRef.{NodeJunctionRef}
use Rattle.cells.specs.Lists.{every}
use Rattle.cells.specs.Memory.{Memory, memory, over_limit, nodes_causes, short_of}
use Rattle.cells.specs.Nodes.{no_entry}
use Rattle.cells.specs.CellOf.{nodes_of, cell_of}
use Rattle.cells.specs.Lookup.{first_with, find}
use Rattle.cells.specs.LookupCall.{node_call, numbers_in, find_in}
use Rattle.cells.specs.Add.{with_counts, room_for, done, add_node, add_ref}
use Rattle.cells.specs.NewYnd.{new_ynd}
use Rattle.sets.specs.Members.{map_from}
use Rattle.sets.specs.MemberList.{nodes_together, any_over, over_set}
use Rattle.sets.specs.CellSet.{CellSet, cell_set, ynd_of, words_at, total, parts_of, parts_in, members_of}
use Rattle.sets.specs.CellSet.{holds_list, lack_of, set_causes}
use Rattle.sets.specs.Leave.{first_of_area, leave_causes}
use Rattle.sets.specs.Join.{stored}
use Rattle.sets.specs.SetStored.{ask_causes, with_member}
use Rattle.sets.specs.MemberEdit.{set_edited, edit_by, edit_member, add_causes, add_node_member}
use Rattle.sets.specs.MemberLookup.{ask_member, node_member}
use Rattle.sets.specs.HandBack.{copied, leaver, hand_causes, hand_back}
use Rattle.numbers.specs.declared.math.Vec3.{Vec3}
use Rattle.std.specs.Prelude.{Ok, Err, Some}
use Rattle.numbers.specs.declared.refusal.Refusal.TheVariants.{TooShort, NoSuchPlace, AtLimit}
use Rattle.numbers.specs.declared.refusal.Lent.TheVariants as lacking
use Rattle.cells.specs.declared.node_entry.NodeEntry.{NodeEntry}

-- a member of so many nodes and refs, in parts of so many entries
abbrev entry : ℕ → ℕ → ℕ → ℕ → List ℕ
entry n size refs room = 8 ∷ 0 ∷ 0 ∷ 1 ∷ 2 ∷ 3 ∷ 4 ∷ 5 ∷ 6 ∷ 7 ∷ n ∷ 0 ∷ 0 ∷ 0 ∷ refs ∷ size ∷ 0 ∷ 0 ∷ 0 ∷ room ∷ []

abbrev node : ℕ → NodeEntry
node area = record no_entry {
  area_id = area;
  street_name = 1;
  position = record { x = 2; y = 3; z = 4 };
  flags0 = 5;
}

abbrev ref : ℕ → NodeJunctionRef
ref a = record { area_id = a; node_id = 2; junction_id = 3; unk0 = 4 }

-- areas 5, with a node's entry to spare, and 6; a part of one ref each, and an entry behind them
abbrev pair : List (List ℕ) → List NodeJunctionRef → CellSet
pair members refs = cell_set members (node 5 ∷ node 50 ∷ node 6 ∷ node 99 ∷ []) [] [] [] refs

abbrev two : CellSet
two = pair (entry 1 2 0 1 ∷ entry 1 1 0 1 ∷ []) (ref 7 ∷ ref 8 ∷ ref 9 ∷ [])

-- ---- edits

-- of the second member the count of refs alone changes, and the ref in its part
pub ref_added : edit_member two 1 (λ m. add_ref m (ref 6))
    ≡ set_edited (Ok tt) (pair (entry 1 2 0 1 ∷ entry 1 1 1 1 ∷ []) (ref 7 ∷ ref 6 ∷ ref 9 ∷ []))
unfolding edit_by ask_causes set_causes members_of map_from parts_in parts_of words_at total ynd_of over_set
    nodes_together
    any_over over_limit lack_of holds_list every with_member put add_ref room_for with_counts
ref_added = refl

-- 13 before all else, a third member of two
pub no_member : edit_member two 2 (λ m. add_ref m (ref 6)) ≡ set_edited (Err NoSuchPlace) two
unfolding edit_by ask_causes
no_member = refl

-- 7, as the cell's own, where the part is full
abbrev full_refs : CellSet
full_refs = pair (entry 1 2 0 1 ∷ entry 1 1 1 1 ∷ []) (ref 7 ∷ ref 8 ∷ ref 9 ∷ [])

pub refs_full : edit_member full_refs 1 (λ m. add_ref m (ref 6))
    ≡ set_edited (Err (TooShort lacking.Refs)) full_refs
unfolding edit_by ask_causes set_causes members_of map_from parts_in parts_of words_at total ynd_of over_set
    nodes_together
    any_over over_limit lack_of holds_list every add_ref room_for
refs_full = refl

-- a node more: 7 where the part is full; 14 where the set has 65,536 together, though neither cell has
pub nodes_full : (at : Vec3) → add_node_member two 1 6 at ≡ set_edited (Err (TooShort lacking.Nodes)) two
unfolding edit_by add_causes members_of map_from parts_in parts_of words_at total ynd_of over_set nodes_together
    any_over
    over_limit lack_of holds_list every add_node room_for
nodes_full at = refl

abbrev wide : CellSet
wide = cell_set (entry 32768 40000 0 0 ∷ entry 32768 32768 0 0 ∷ []) [] [] [] [] []

pub total_full : (at : Vec3) → add_node_member wide 0 5 at ≡ set_edited (Err AtLimit) wide
unfolding edit_by add_causes members_of map_from parts_in parts_of words_at total ynd_of over_set nodes_together
    any_over
    over_limit
total_full at = refl

-- ---- handed back

abbrev lent : List NodeEntry → Memory
lent nodes = memory new_ynd nodes [] [] [] []

-- the node that the count says; the entry behind it stays
pub back : hand_back two 5 (lent (node 1 ∷ node 2 ∷ []))
    ≡ done (memory (ynd_of (entry 1 2 0 1)) (node 5 ∷ node 2 ∷ []) [] [] [] [])
unfolding hand_back hand_causes leave_causes leaver copied stored first_of_area set_causes members_of map_from parts_in
    parts_of words_at total ynd_of over_set nodes_together any_over over_limit lack_of holds_list every short_of
    cell_of
    nodes_of first_with
back = refl

pub back_short : hand_back two 5 (lent []) ≡ record { answer = Err (TooShort lacking.Nodes); memory = lent [] }
unfolding hand_back hand_causes leave_causes leaver first_of_area set_causes members_of map_from parts_in parts_of
    words_at
    total ynd_of over_set nodes_together any_over over_limit lack_of holds_list every short_of cell_of nodes_of
    first_with
back_short = refl

pub back_nobody : hand_back two 7 (lent []) ≡ record { answer = Err NoSuchPlace; memory = lent [] }
unfolding hand_back hand_causes leave_causes leaver first_of_area set_causes members_of map_from parts_in parts_of
    words_at
    total ynd_of short_of cell_of nodes_of first_with
back_nobody = refl

-- ---- a lookup

pub found : node_member two 1 0 ≡ Ok (Some 0)
unfolding ask_member ask_causes set_causes members_of map_from parts_in parts_of words_at total ynd_of over_set
    nodes_together
    any_over over_limit lack_of holds_list every node_call nodes_causes find_in numbers_in find first_with
found = refl
