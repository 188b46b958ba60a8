use Prim.Native.Nat.{◌+◌}
use mathlib.Core.Path.{◌≡◌}
use mathlib.Core.Option.{some}
use Rattle.reach.specs.Reach.{nearest_of}
use Rattle.reach.specs.Parts.{distances_from}
use Rattle.reach.proofs.distance.Point.nearest_of.Given as goal

abbrev pub invariant-loop-i : goal.invariant-loop-i
invariant-loop-i l =
    (l.least ≡ distances_from l.self l.best)
    × (nearest_of (distances_from l.self) (l.i + 1) ≡ some l.best)
