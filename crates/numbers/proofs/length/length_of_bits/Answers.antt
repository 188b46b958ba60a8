use Rattle.std.proofs.Common.{arith}
use Rattle.numbers.specs.Table.{thresholds}
use Rattle.numbers.proofs.StartLaws.{slice, slice_in, below_255, stays, goes_on}
use Rattle.numbers.proofs.length.length_of_bits.Goals as goal

pub bounds-k : goal.bounds-k
unfolding thresholds
bounds-k c = omega (arith, below_255 (slice c.max.result) (slice_in _ _ c.requires c.max.ensures))

pub overflow_add-result : goal.overflow_add-result
overflow_add-result c = omega (arith, below_255 (slice c.max.result) (slice_in _ _ c.requires c.max.ensures))

pub returns-then-k-b-clause-length : goal.returns-then-k-b-clause-length
unfolding thresholds
returns-then-k-b-clause-length c = goes_on c.args.b c.max.result c.requires c.max.ensures c.if-k-b.true

pub returns-else-k-b-clause-length : goal.returns-else-k-b-clause-length
unfolding thresholds
returns-else-k-b-clause-length c = stays c.args.b c.max.result c.requires c.max.ensures c.if-k-b.false
