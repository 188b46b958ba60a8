use Rattle.std.proofs.Common.{sym, ◌∙◌}
use lib.Ieee.{to_bits}
use Rattle.numbers.proofs.Patterns.{nan_is}
use Rattle.numbers.proofs.bits.bits_of.Goals as goal

pub returns-then-is_nan : goal.returns-then-is_nan
unfolding to_bits
returns-then-is_nan c = rw (nan_is c.args.x (sym c.is_nan.ensures.value ∙ c.if-is_nan.true))
