use Prim.Native.Nat.{◌≤◌}
use mathlib.Core.Path.{◌≡◌}
use Rattle.paths.specs.Scratch.{label_at}
use Rattle.paths.specs.Search.{work}
use Rattle.paths.specs.Going.{Ready, Going}
use Rattle.paths.proofs.search.Search.relax.Given as goal

abbrev pub invariant-loop-b : goal.invariant-loop-b
invariant-loop-b l =
    Ready l.self l.scratch × Going l.self l.queue l.scratch l.u l.b × (label_at l.scratch l.u ≡ l.key)
    × (work l.queue.n l.scratch l.queue.size ≤ work l.fn.queue.n l.fn.scratch l.fn.queue.size)
