use Rattle.std.proofs.Common.{◌≡◌, ◌++◌, take, drop}
use Rattle.cells.specs.Nodes.{number_from}
use Rattle.cells.proofs.permute.number_all.Given as goal

abbrev pub invariant-loop-i : goal.invariant-loop-i
invariant-loop-i l = l.nodes ≡ take l.i (number_from 0 l.initial.nodes) ++ drop l.i l.initial.nodes
