-- Causes of refusal, the cell being written: 12 where a heightmap is cut, 8 and 9 node by node, 8 first, then 10
-- junction by junction.
use Rattle.std.specs.Prelude.{ℕ, ◌+◌, ◌-◌, min, Bool, true, false, cond, ◌||◌, List, [], ◌∷◌, ltb}
use Rattle.cells.specs.Entries.{stored_start}
use Rattle.cells.specs.Nodes.{value_count}
use Rattle.std.specs.Prelude.{Result, Ok, Err}
use Rattle.numbers.specs.declared.refusal.Refusal.{Refusal}
use Rattle.numbers.specs.declared.refusal.Refusal.TheVariants.{TooManyLinks, LinksStartTooHigh, ValuesStartTooHigh}
use Rattle.cells.specs.declared.node_entry.NodeEntry.{NodeEntry}
use Rattle.cells.specs.declared.junction_entry.JunctionEntry.{JunctionEntry}

abbrev pub unless : Bool → Result ℕ Refusal → Result ℕ Refusal → Result ℕ Refusal
unless b refusal next = cond b refusal next

abbrev pub accepted : Result ℕ Refusal → Bool
accepted (Ok n) = true
accepted (Err cause) = false

-- how many entries of a list of `pool` a range holds, cut where it leaves the list
unfoldable pub links_within : ℕ → NodeEntry → ℕ
links_within pool n = min n.link_count (pool - n.link_id)

unfoldable pub values_within : ℕ → JunctionEntry → ℕ
values_within pool j = min (value_count j) (pool - j.heightmap_ptr)

-- 12: some junction has fewer than width × height of the cell's `pool` values: a struct made by hand
unfoldable pub maps_cut : ℕ → List JunctionEntry → Bool
maps_cut pool [] = false
maps_cut pool (j ∷ js) = ltb (values_within pool j) (value_count j) || maps_cut pool js

-- 9: the start that this node stores over 65,535. T-05: so only for a node with links, whose start is what stands
-- before it.
abbrev pub start_over : ℕ → ℕ → Bool
start_over before count = ltb 65535 (stored_start before count)

-- 8 and 9, node by node, 8 first. Else how many links there are in all.
unfoldable pub check_nodes : {A : Type 0} → (A → ℕ) → ℕ → ℕ → List A → Result ℕ Refusal
check_nodes count place before [] = Ok before
check_nodes count place before (n ∷ ns) =
    unless (ltb 31 (count n)) (Err (TooManyLinks place))
    (unless (start_over before (count n)) (Err (LinksStartTooHigh place))
    (check_nodes count (place + 1) (before + count n) ns))

-- 10: heightmap bytes before this junction over 65,535. Else how many bytes there are in all.
unfoldable pub check_junctions : {A : Type 0} → (A → ℕ) → ℕ → ℕ → List A → Result ℕ Refusal
check_junctions count place before [] = Ok before
check_junctions count place before (j ∷ js) =
    unless (ltb 65535 before) (Err (ValuesStartTooHigh place))
    (check_junctions count (place + 1) (before + count j) js)
