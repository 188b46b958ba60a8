-- A struct that keeps to section 4's limits, by its counts.
use Prim.Native.Nat.{◌≤◌}
use mathlib.Core.Path.{◌≡◌}
use mathlib.Core.Bool.{false}
use lib.Dec.{ltb}
use borrow.Author.Tests.{le-ltb, ltb-false}
use Rattle.std.proofs.lemmas.Bool.{or_parts}
use Rattle.cells.specs.Memory.{over_limit}
use Rattle.cells.specs.declared.ynd.Ynd.{Ynd}

pub within : (y : Ynd) → over_limit y ≡ false → (y.node_count ≤ 65536) × (y.junction_count ≤ 4096)
unfolding over_limit
within y e =
    let n = or_parts (ltb 65536 y.node_count) (ltb 4096 y.junction_count) e in
    (ltb-false 65536 y.node_count n.0, ltb-false 4096 y.junction_count n.1)

pub not_over : (y : Ynd) → y.node_count ≤ 65536 → y.junction_count ≤ 4096 → over_limit y ≡ false
unfolding over_limit
not_over y n j = rw (le-ltb 65536 y.node_count n, le-ltb 4096 y.junction_count j)
