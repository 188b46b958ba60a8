use native.Mathlib.Omega.{arith}
use Rattle.sets.proofs.soundness.short_numbers.Goals as goal

pub returns : goal.returns
returns c = record { short = λ j lj. c.loop-i.invariant j (omega arith) }
