use Rattle.std.proofs.Common.{refl}
use lib.Ieee.{of_bits}
use Rattle.numbers.specs.Grid.{lower_bound}
use Rattle.numbers.proofs.grid.lower_bound.Goals as goal

pub returns : goal.returns
unfolding lower_bound of_bits
returns c = refl
