use mathlib.Core.Path.{◌≡◌}
use mathlib.Core.List.{◌++◌}
use lib.ListN.{length, drop}
use Rattle.reach.specs.Reach.{within}
use Rattle.reach.specs.Parts.{distances_from}
use Rattle.reach.proofs.distance.Point.fill_within.Given as goal

-- what is listed of the first i nodes stands over the first entries
abbrev pub invariant-loop-i : goal.invariant-loop-i
invariant-loop-i l =
    (l.count ≡ length (within (distances_from l.self) l.radius l.i))
    × (l.places ≡ within (distances_from l.self) l.radius l.i ++ drop l.count l.fn.places)
