use Rattle.std.proofs.Common.{refl, arith}
use Rattle.cells.specs.Nodes.{no_entry}
use Rattle.cells.proofs.Renumbering.Named.{last_nowhere}
use Rattle.cells.proofs.number_index.Numbers.last_with.Goals as goal
use Rattle.cells.proofs.number_index.Numbers.last_with.Goals.{else-t-self-via-then-t-self+else-self-t}
use Rattle.cells.proofs.number_index.Numbers.last_with.Goals.{else-t-self-via-else-t-self}

pub returns : goal.returns
returns c =
    let s = c.args.self.now in
    elim c.else-t-self.branch [
      | else-t-self-via-then-t-self+else-self-t w ↦ last_nowhere s.nodes.now s.scratch.now s.leads c.args.k _ _ refl
          (λ lt e. w.if-self-t.false e)
      | else-t-self-via-else-t-self w ↦ last_nowhere s.nodes.now s.scratch.now s.leads c.args.k _ no_entry refl
          (λ lt e. omega arith)
    ]
