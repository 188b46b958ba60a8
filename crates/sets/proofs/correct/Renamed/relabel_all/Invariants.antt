use Rattle.std.proofs.Common.{◌≡◌, ◌++◌, map, take, drop}
use Rattle.cells.specs.Order.{Old}
use Rattle.sets.specs.CorrectParts.{Tells, relabelled}
use Rattle.sets.proofs.correct.Renamed.relabel_all.Given as goal

abbrev pub invariant-loop-l : goal.invariant-loop-l
invariant-loop-l l =
    (o : Old) → Tells o l.self.table.now
    → l.links ≡ map (relabelled o l.self.area) (take l.l-index l.initial.links) ++ drop l.l-index l.initial.links
