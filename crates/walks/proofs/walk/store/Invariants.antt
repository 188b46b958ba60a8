use Rattle.walks.proofs.Storing.{Storing}
use Rattle.walks.proofs.walk.store.Given as goal

abbrev pub invariant-loop-i : goal.invariant-loop-i
invariant-loop-i g l =
    Storing (g.S.Steps.world l.steps) g.S.Steps.entry_of l.choices l.fn.start l.initial.visited l.visited l.i l.p
