use mathlib.Core.Path.{refl}
use native.Mathlib.Omega.{arith}
use Rattle.paths.specs.Scratch.{chain_at}
use Rattle.paths.specs.Index.{head_at, next_at}
use Rattle.paths.proofs.IndexLaws.{seek_start, seek_on, seek_none}
use Rattle.paths.proofs.index.entry_of.Goals as goal

pub loop-v-init : goal.loop-v-init
unfolding head_at chain_at
loop-v-init c = seek_start _ _ _ _ _ c.requires.2 _ c.requires.1 _ refl

pub loop-v-smaller : goal.loop-v-smaller
unfolding next_at chain_at
loop-v-smaller c = (seek_on _ _ _ _ _ c.requires.2 _ _ c.loop-v.invariant (omega arith)
    (λ q. c.if-nodes-v.false q) _ refl).1

pub loop-v-preserved : goal.loop-v-preserved
unfolding next_at chain_at
loop-v-preserved c = (seek_on _ _ _ _ _ c.requires.2 _ _ c.loop-v.invariant (omega arith)
    (λ q. c.if-nodes-v.false q) _ refl).0

pub returns-then-v-eq0 : goal.returns-then-v-eq0
returns-then-v-eq0 c =
    seek_none _ _ _ _ _ c.requires.2 _ _ c.loop-v.invariant (omega arith)
    (λ q. c.if-nodes-v.false q)
