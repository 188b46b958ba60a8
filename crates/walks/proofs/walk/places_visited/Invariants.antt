use Rattle.walks.proofs.Reaches.{Reached}
use Rattle.walks.proofs.walk.places_visited.Given as goal

abbrev pub invariant-loop-i : goal.invariant-loop-i
invariant-loop-i g l = Reached (g.S.Steps.world l.steps) l.choices l.fn.start l.i l.p
