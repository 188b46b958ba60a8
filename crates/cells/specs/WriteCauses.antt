-- "Causes of refusal", the cell being written: all of them in the order in which they are tested. The first that fits
-- counts. That `write` refuses by this list and by nothing else: law WriteListed `write_listed`.
use Rattle.std.specs.Prelude.{ℕ, ◌+◌, List, [], ◌∷◌, ◌++◌, ltb, length}
use Rattle.numbers.specs.Refusals.{Cause, when}
use Rattle.numbers.specs.declared.refusal.Refusal.TheVariants.{TooShort, TooManyLinks, LinksStartTooHigh}
use Rattle.numbers.specs.declared.refusal.Refusal.TheVariants.{ValuesStartTooHigh, TooManyRefs, WrongSize, AtLimit}
use Rattle.numbers.specs.declared.refusal.Lent.TheVariants as lent
use Rattle.cells.specs.Entries.{links_in, values_in}
use Rattle.cells.specs.WriteChecks.{maps_cut, start_over}
use Rattle.cells.specs.Memory.{Memory, over_limit, short_causes}
use Rattle.cells.specs.Blocks.{written}
use Rattle.cells.specs.Write.{held}

-- 8 and 9, node by node, 8 first: how many links a node has, its place, and how many links stand before its own
unfoldable pub node_causes : {A : Type 0} → (A → ℕ) → ℕ → ℕ → List A → List Cause
node_causes count place before [] = []
node_causes count place before (n ∷ ns) =
    when (ltb 31 (count n)) (TooManyLinks place)
    ∷ when (start_over before (count n)) (LinksStartTooHigh place)
    ∷ node_causes count (place + 1) (before + count n) ns

-- 10: heightmap bytes before a junction over 65,535
unfoldable pub junction_causes : {A : Type 0} → (A → ℕ) → ℕ → ℕ → List A → List Cause
junction_causes count place before [] = []
junction_causes count place before (j ∷ js) =
    when (ltb 65535 before) (ValuesStartTooHigh place) ∷ junction_causes count (place + 1) (before + count j) js

-- 14 and 12, a struct made by hand; 8 and 9, 10, 11; "then 7": the lists lent, and the section
unfoldable pub write_causes : Memory → List ℕ → List Cause
write_causes m s =
    when (over_limit m.ynd) AtLimit
    ∷ when (maps_cut m.ynd.heightmap_count (held m).junctions) WrongSize
    ∷ node_causes (λ n. length (links_in (held m).links n)) 0 0 (held m).nodes
    ++ junction_causes (λ j. length (values_in (held m).heights j)) 0 0 (held m).junctions
    ++ when (ltb 65535 m.ynd.ref_count) TooManyRefs
    ∷ short_causes m.ynd (length m.nodes) (length m.links) (length m.junctions) (length m.heights) (length m.refs)
    ++ when (ltb (length s) (length (written (held m)))) (TooShort lent.Section)
    ∷ []
