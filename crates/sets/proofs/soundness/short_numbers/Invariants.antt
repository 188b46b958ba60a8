use Rattle.std.proofs.Common.{ℕ, ◌<◌}
use Rattle.cells.specs.Nodes.{number_at}
use Rattle.sets.proofs.soundness.short_numbers.Given as goal

abbrev pub invariant-loop-i : goal.invariant-loop-i
invariant-loop-i l = (j : ℕ) → j < l.i → number_at l.nodes j < 65536
