use mathlib.Core.Path.{◌≡◌}
use Rattle.paths.specs.Scratch.{chain_at}
use Rattle.paths.proofs.ScratchLaws.{Clearing}
use Rattle.paths.proofs.scratch.clear.Given as goal

abbrev pub invariant-loop-v : goal.invariant-loop-v
invariant-loop-v l = Clearing l.n l.v l.scratch × (chain_at l.scratch ≡ chain_at l.fn.scratch)
