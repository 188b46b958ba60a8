use Rattle.std.proofs.Common.{◌≡◌, ◌++◌, map, take, drop}
use Rattle.cells.specs.AddLink.{shifted}
use Rattle.cells.proofs.shift.shift_all.Given as goal

abbrev pub invariant-loop-n : goal.invariant-loop-n
invariant-loop-n l =
    l.nodes ≡ map (shifted l.at l.l) (take l.n-index l.initial.nodes) ++ drop l.n-index l.initial.nodes
