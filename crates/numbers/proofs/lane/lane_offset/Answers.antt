use lib.Ieee.{of_bits, neg}
use Rattle.numbers.specs.Lane.{lane_offset}
use Rattle.numbers.proofs.lane.lane_offset.Goals as goal

pub returns-then-negative : goal.returns-then-negative
unfolding lane_offset of_bits neg
returns-then-negative c = rw c.if-negative.true

pub returns-else-negative : goal.returns-else-negative
unfolding lane_offset of_bits
returns-else-negative c = rw c.if-negative.false
