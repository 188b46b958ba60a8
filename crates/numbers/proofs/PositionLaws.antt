-- A position that was read from stored steps is stored in the same steps, and so read as itself. Assumes nothing.
use Rattle.std.proofs.Common.{◌≡◌, ◌<◌, ap, lit≤}
use lib.Signed.{mag}
use Rattle.numbers.specs.Positions.{quantised, dequantised}
use Rattle.numbers.specs.declared.math.Vec3.{Vec3}
use Rattle.numbers.specs.declared.position.Quantised.{Quantised}
use Rattle.numbers.proofs.StepLaws.{round_trip, step_in}

pub quantised_again : (q : Quantised) → mag q.x < 32768 → mag q.y < 32768 → mag q.z < 32768
    → quantised (dequantised q) ≡ q
quantised_again q hx hy hz = rw (
  round_trip 2 q.x (lit≤ tt) hx,
  round_trip 2 q.y (lit≤ tt) hy,
  round_trip 5 q.z
      (lit≤ tt) hz,
)

pub stored_again : (p : Vec3) → dequantised (quantised (dequantised (quantised p))) ≡ dequantised (quantised p)
stored_again p = ap dequantised (quantised_again (quantised p) (step_in 2 p.x) (step_in 2 p.y) (step_in 5 p.z))
