-- `thresholds::text`: a line more behind the lines so far.
use Rattle.std.proofs.Common.{◌≡◌, ◌*◌, ◌≤◌, length, ap, sym, ◌∙◌, refl, subst, arith}
use borrow.Rule.Slice.PartMut.{same_len_mid}
use Rattle.numbers.specs.ThresholdSearch.{LineOfLeast}
use Rattle.thresholds.proofs.TextLaws.{lines_kept, line_nine}
use Rattle.thresholds.proofs.text.Goals as goal

pub loop-k-preserved : goal.loop-k-preserved
loop-k-preserved c =
    let l = c.loop-k in
    let line = c.threshold_line-line.result in
    let put = c.copy_from_slice.new.self in
    let same : put ≡ line = c.copy_from_slice.ensures.after in
    let nine : length put ≡ 9 = ap length same ∙ line_nine l.k line (omega arith) c.threshold_line-line.ensures in
    let room : 9 * l.k ≤ length l.bytes = omega (arith, l.invariant.long) in
    record {
      within = omega arith;
      long = same_len_mid _ _ l.bytes put c.copy_from_slice.ensures.len ∙ l.invariant.long;
      lines = lines_kept l.k l.bytes _ put _ refl room nine l.invariant.lines
          (subst (LineOfLeast l.k) (sym same) c.threshold_line-line.ensures);
    }
