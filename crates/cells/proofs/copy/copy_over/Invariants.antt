use Rattle.std.proofs.Common.{◌≡◌, ◌++◌, take, drop}
use Rattle.cells.proofs.copy.copy_over.Given as goal

abbrev pub invariant-loop-i : goal.invariant-loop-i
invariant-loop-i g l = l.list ≡ take l.i l.new ++ drop l.i l.initial.list
