use Rattle.std.proofs.Common.{length, get_or, refl, sym, arith}
use Rattle.cells.proofs.Sequences.Moved.{exchanged, all_arrived}
use Rattle.cells.specs.Nodes.{no_entry}
use Rattle.cells.proofs.permute.permute.Goals as goal

pub loop-i-preserved : goal.loop-i-preserved
loop-i-preserved c =
    let l = c.loop-i in
    let n = length c.args.nodes.now in
    let t = get_or l.to l.i 0 in
    record {
      inside = omega arith;
      nodes_long = omega arith;
      to_long = omega arith;
      moving = exchanged no_entry n l.i t c.args.nodes.now c.args.to.now l.nodes l.to (omega arith) (omega arith)
          (omega arith) refl l.invariant.moving (λ d. c.if-t-i.false (sym d))
          c.swap.ensures.after c.swap-else-t-i.ensures.after;
    }

pub returns : goal.returns
returns c =
    let l = c.loop-i in
    all_arrived no_entry c.args.nodes.now c.args.to.now l.nodes l.to _ l.i (omega arith)
    (omega arith) refl l.invariant.moving
