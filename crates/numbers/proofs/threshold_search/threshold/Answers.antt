use Rattle.std.proofs.Common.{◌<◌, arith}
use Rattle.numbers.proofs.SearchedThresholds.{turning}
use Rattle.numbers.proofs.threshold_search.threshold.Goals as goal

pub loop-lo-init : goal.loop-lo-init
loop-lo-init c =
    let k = c.args.k in
    let j = c.digits_below-j.result in
    let d = c.digits_below-j.ensures in
    let K : 0 < k = omega arith in
    let h : k < 256 = omega arith in
    let t = turning k j K h d.0 in
    record {
      some = K;
      small = h;
      digits = d.0;
      j_in = d.1;
      from = omega arith;
      order = omega arith;
      to = omega
          arith;
      under = t.from;
      at = t.to;
    }
