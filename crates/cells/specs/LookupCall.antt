-- Section 4, other calls: what the lookups answer over lent lists. A struct over a limit is refused (14), then a list
-- shorter than its count (7).
use Rattle.std.specs.Prelude.{ℕ, cond, List, [], ◌∷◌, map, ltb, length, take}
use Rattle.std.proofs.Math.Option.{Option as Found, none, some}
use Rattle.std.proofs.Math.ListN.{get_elem?}
use Rattle.cells.specs.Nodes.{number_of, first_area}
use Rattle.cells.specs.Memory.{nodes_causes}
use Rattle.numbers.specs.Refusals.{when, decided, unless}
use Rattle.cells.specs.Cell.{Junction}
use Rattle.cells.specs.Lookup.{first_with, find, ref_of}
use Rattle.cells.specs.declared.ynd.Ynd.{Ynd}
use Rattle.std.specs.Prelude.{Option, Result, Ok, Err, Some, None}
use Rattle.numbers.specs.declared.refusal.Refusal.{Refusal}
use Rattle.numbers.specs.declared.refusal.Refusal.TheVariants.{TooShort}
use Rattle.numbers.specs.declared.refusal.Lent.TheVariants as lent
use Rattle.cells.specs.declared.node_entry.NodeEntry.{NodeEntry}
use Rattle.records.specs.declared.junction_ref.NodeJunctionRef.{NodeJunctionRef}

-- a number found, or none, or a refusal
abbrev pub Place : Type 0
Place = Result (Option ℕ) Refusal

abbrev pub area_of_first : List NodeEntry → Option ℕ
area_of_first [] = None
area_of_first (n ∷ ns) = Some n.area_id

-- Section 4, renumbering: the own area is the first node's
unfoldable pub area_id_call : Ynd → List NodeEntry → Place
area_id_call y nodes =
    unless (decided (nodes_causes y (length nodes))) (Ok (area_of_first (take y.node_count nodes)))

abbrev pub place_of : Found ℕ → Option ℕ
place_of (some i) = Some i
place_of none = None

-- the numbers of the first n nodes
unfoldable pub numbers_in : ℕ → List NodeEntry → List ℕ
numbers_in n nodes = map number_of (take n nodes)

unfoldable pub first_in : ℕ → List NodeEntry → ℕ → Option ℕ
first_in n nodes k = place_of (first_with (numbers_in n nodes) k)

unfoldable pub find_in : ℕ → List NodeEntry → ℕ → Option ℕ
find_in n nodes k = place_of (find (numbers_in n nodes) k)

unfoldable pub node_call : Ynd → List NodeEntry → ℕ → Place
node_call y nodes k = unless (decided (nodes_causes y (length nodes))) (Ok (find_in y.node_count nodes k))

-- the junction number of the first of these refs for the area a and the number k, in a cell of the area own
unfoldable pub ref_in : ℕ → List NodeJunctionRef → ℕ → ℕ → Found ℕ
ref_in own refs a k = ref_of own refs a k

-- a number that is the place of one of this many
abbrev pub below : ℕ → Option ℕ → Option ℕ
below count (Some j) = cond (ltb j count) (Some j) None
below count None = None

unfoldable pub junction_of_call : Ynd → List NodeEntry → List NodeJunctionRef → ℕ → ℕ → Place
junction_of_call y nodes refs a k =
    unless (decided (nodes_causes y (length nodes)))
    (unless (decided (when (ltb (length refs) y.ref_count) (TooShort lent.Refs) ∷ []))
    (Ok (below y.junction_count
    (place_of (ref_in (first_area (take y.node_count nodes)) (take y.ref_count refs) a k)))))

-- the junction at a place that the call answered
abbrev pub at_place : List Junction → Place → Found Junction
at_place js (Ok (Some j)) = get_elem? js j
at_place js (Ok None) = none
at_place js (Err cause) = none
