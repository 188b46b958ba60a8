use Rattle.std.proofs.Common.{sym, ◌∙◌}
use lib.Ieee.{of_bits}
use Rattle.numbers.specs.Grid.{upper_bound, cell_bounds}
use Rattle.numbers.proofs.grid.cell_bounds.Goals as goal

pub returns : goal.returns
unfolding cell_bounds upper_bound of_bits
returns c = rw (sym c.in_grid.ensures ∙ c.if-not-in_grid.false, c.lower_bound-x0.ensures, c.lower_bound-y0.ensures)
