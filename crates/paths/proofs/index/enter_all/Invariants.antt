use lib.ListN.{length}
use Rattle.paths.specs.Index.{head_at, next_at, Index}
use Rattle.cells.specs.Nodes.{number_at}
use Rattle.paths.proofs.index.enter_all.Given as goal

abbrev pub invariant-loop-i : goal.invariant-loop-i
invariant-loop-i l = Index (length l.nodes) l.i (number_at l.nodes) (head_at l.scratch) (next_at l.scratch)
