use Rattle.paths.proofs.FillLaws.{Filling}
use Rattle.paths.proofs.path.fill.Given as goal

abbrev pub invariant-loop-i : goal.invariant-loop-i
invariant-loop-i l = Filling l.scratch l.goal l.fn.choices l.fn.places l.choices l.places l.v l.i
