use Rattle.paths.specs.Search.{work}
use Rattle.paths.specs.Going.{Ready, Going}
use Rattle.paths.proofs.search.Search.run.Given as goal

abbrev pub invariant-loop-queue : goal.invariant-loop-queue
invariant-loop-queue l = Ready l.self l.scratch × Going l.self l.queue l.scratch l.self.ynd.node_count 0

abbrev pub decreases-loop-queue : goal.decreases-loop-queue
decreases-loop-queue l = work l.queue.n l.scratch l.queue.size
