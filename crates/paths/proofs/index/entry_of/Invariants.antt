use Rattle.paths.specs.Index.{next_at}
use Rattle.cells.specs.Nodes.{number_at}
use Rattle.paths.proofs.IndexLaws.{Seeking}
use Rattle.paths.proofs.index.entry_of.Given as goal

abbrev pub invariant-loop-v : goal.invariant-loop-v
invariant-loop-v l = Seeking l.upto (number_at l.nodes) (next_at l.scratch) l.k l.v

abbrev pub decreases-loop-v : goal.decreases-loop-v
decreases-loop-v l = l.v
