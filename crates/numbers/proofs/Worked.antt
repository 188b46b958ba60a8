-- Closed facts, each worked out. A wrong definition is refused here.
use Rattle.std.proofs.Common.{◌≡◌, ℕ, ◌+◌, ◌-◌, ◌*◌, true, false, negsuc, refl, get_or}
use lib.Ieee.{binary32, nan, round}
use Rattle.numbers.specs.Grid.{cell_along}
use Rattle.numbers.specs.declared.starts.TheConstants.{STARTS}
use Rattle.numbers.specs.declared.thresholds.TheConstants.{THRESHOLDS}
use Rattle.numbers.specs.Steps.{step_of}
use Rattle.numbers.specs.Cases.{field, fraction, StepCase, case_of, case_step}
use Rattle.numbers.specs.Cases.{too_small, within_range, beyond_range, infinite, not_a_number}

-- ---- T-04: the ends of the cases, along x and y (2) and along z (5)
abbrev case_at : ℕ → ℕ → StepCase
case_at k b = case_of k (field b) (fraction b)

-- 1/4 and the f32 before it; 1/32 along z
quarter : case_at 2 0x3e80_0000 ≡ within_range
unfolding case_of
quarter = refl

below_quarter : case_at 2 0x3e7f_ffff ≡ too_small
unfolding case_of
below_quarter = refl

first_z : case_at 5 0x3d00_0000 ≡ within_range
unfolding case_of
first_z = refl

-- 8191.75 and 8192; 1024 along z
last_step : case_at 2 0x45ff_fe00 ≡ within_range
unfolding case_of
last_step = refl

first_beyond : case_at 2 0x4600_0000 ≡ beyond_range
unfolding case_of
first_beyond = refl

first_beyond_z : case_at 5 0x4480_0000 ≡ beyond_range
unfolding case_of
first_beyond_z = refl

-- the least subnormal number; infinity; the NaN with the least fraction
subnormal : case_at 5 0x0000_0001 ≡ too_small
unfolding case_of
subnormal = refl

infinity : case_at 5 0x7f80_0000 ≡ infinite
unfolding case_of
infinity = refl

first_nan : case_at 5 0x7f80_0001 ≡ not_a_number
unfolding case_of
first_nan = refl

-- -8192 - 255/1024, the last before -8192.25: it is beyond, its step is -32768, and that is what the case gives
strip_case : case_at 2 0xc600_00ff ≡ beyond_range
unfolding case_of
strip_case = refl

strip_step : step_of 2 (round binary32 true (8192 * 1024 + 255) 1024) ≡ negsuc 32767
unfolding step_of round
strip_step = refl

strip_given : case_step beyond_range 2 0xc600_00ff ≡ negsuc 32767
strip_given = refl

-- ---- the grid: its ends, and what lies beyond
last_cell : cell_along (round binary32 false 8191 1) ≡ 31
unfolding cell_along round
last_cell = refl

beyond_the_grid : cell_along (round binary32 false 8192 1) ≡ 31
unfolding cell_along round
beyond_the_grid = refl

before_the_grid : cell_along (round binary32 true 8193 1) ≡ 0
unfolding cell_along round
before_the_grid = refl

no_number : cell_along nan ≡ 0
unfolding cell_along
no_number = refl

-- ---- the code's tables: s = 32761 - 1/512 is 0x46fff1ff, where the length becomes 181, and its slice begins below
-- that
threshold_of_181 : get_or THRESHOLDS 181 0 ≡ 0x46ff_f1ff
threshold_of_181 = refl

start_of_its_slice : get_or STARTS (0x46ff - 0x3f7f) 0 ≡ 180
start_of_its_slice = refl
