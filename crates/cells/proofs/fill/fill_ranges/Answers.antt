use Rattle.std.proofs.Common.{refl, ap, ◌∙◌, arith}
use Rattle.cells.specs.Lists.{up_to, join_to, sum_to}
use Rattle.cells.proofs.Reading.ReadLaws.{fill_turn, sum_next, join_turn}
use Rattle.cells.proofs.fill.fill_ranges.Goals as goal

pub loop-i-init : goal.loop-i-init
unfolding up_to join_to sum_to
loop-i-init g c = record { held = refl; few = omega arith; entries = refl; parts = refl }

pub loop-i-preserved : goal.loop-i-preserved
loop-i-preserved g c =
    let l = c.loop-i in
    let R = g.R.Ranged in
    let r = c.args.records in
    let k = c.range-held.ensures.1 in
    record {
      held = omega (arith, k, sum_next (R.count r) l.i);
      few = omega arith;
      entries = rw l.invariant.entries (fill_turn (λ i. R.entry_at r i (sum_to (R.count r) i)) c.args.entries.now
          l.i c.entry.result (omega arith) (c.entry.ensures ∙ ap (R.entry_at r l.i) l.invariant.held));
      parts = c.fill_part.ensures ∙ rw (k, l.invariant.parts) (join_turn (R.part r) (R.count r)
          (g.met.R.Ranged.long r) c.args.parts.now l.i l.held l.invariant.held);
    }
