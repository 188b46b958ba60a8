-- Section 4, each public field's store: the lists of nodes, junctions and refs made shorter, as `Vec::truncate`.
-- Only a count of the struct changes: entries behind it, links and values stay in the lent lists, and are no one's.
-- Causes of refusal, in their order: 13 the cell has fewer, 14.
use Rattle.std.specs.Prelude.{ℕ, Bool, [], ◌∷◌, ltb}
use Rattle.numbers.specs.Refusals.{when, decided}
use Rattle.cells.specs.Memory.{Memory, memory, Left, unless, over_limit}
use Rattle.cells.specs.Add.{with_counts, done}
use Rattle.cells.specs.declared.ynd.Ynd.{Ynd}
use Rattle.numbers.specs.Refusals.{Answer}
use Rattle.numbers.specs.declared.refusal.Refusal.TheVariants.{NoSuchPlace, AtLimit}

-- k of n entries
unfoldable pub fewer : Bool → ℕ → ℕ → Answer
fewer over n k = decided (when (ltb n k) NoSuchPlace ∷ when over AtLimit ∷ [])

-- the same lists beside another struct
abbrev pub counted : Ynd → Memory → Memory
counted y m = record m { ynd = y }

abbrev pub fewer_nodes : Ynd → ℕ → Ynd
fewer_nodes y k = record y { node_count = k }

abbrev pub fewer_junctions : Ynd → ℕ → Ynd
fewer_junctions y k = record y { junction_count = k }

abbrev pub fewer_refs : Ynd → ℕ → Ynd
fewer_refs y k = record y { ref_count = k }

unfoldable pub truncate_nodes : Memory → ℕ → Left
truncate_nodes m k = unless (fewer (over_limit m.ynd) m.ynd.node_count k) m
    (done (counted (fewer_nodes m.ynd k) m))

unfoldable pub truncate_junctions : Memory → ℕ → Left
truncate_junctions m k =
    unless (fewer (over_limit m.ynd) m.ynd.junction_count k) m (done (counted (fewer_junctions m.ynd k) m))

unfoldable pub truncate_refs : Memory → ℕ → Left
truncate_refs m k = unless (fewer (over_limit m.ynd) m.ynd.ref_count k) m
    (done (counted (fewer_refs m.ynd k) m))
