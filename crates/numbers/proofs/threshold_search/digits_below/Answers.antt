use Rattle.std.proofs.Common.{◌≡◌, ◌-◌, sym, ◌∙◌, arith}
use lib.Count.{leading_length, count_leading_zeros}
use lib.Ieee.{size}
use Rattle.numbers.proofs.SearchedThresholds.{digits_are, few}
use Rattle.numbers.proofs.threshold_search.digits_below.Goals as goal

pub returns : goal.returns
returns c =
    let k = c.args.k in
    let w = leading_length 32 (k - 1) (omega arith) in
    let m = 32 - count_leading_zeros 32 (k - 1) in
    let same : w.0 ≡ m = omega (arith, w.1) in
    let e : m ≡ size (k - 1) = sym same ∙ digits_are k w.0 c.requires.0 (omega (arith, w.2)) (omega (arith, w.3)) in
    (e, few k m c.requires.1 e)
