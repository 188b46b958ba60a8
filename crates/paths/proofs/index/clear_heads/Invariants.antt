use Prim.Native.Nat.{ℕ, ◌<◌}
use mathlib.Core.Path.{◌≡◌}
use Rattle.paths.specs.Index.{head_at}
use Rattle.paths.proofs.index.clear_heads.Given as goal

abbrev pub invariant-loop-h : goal.invariant-loop-h
invariant-loop-h l = (k : ℕ) → k < l.h → head_at l.scratch k ≡ 0
