-- The starred pairs of document 01 that concern numbers, over the definitions. A decimal is written as the f32
-- nearest to it.
use Rattle.std.specs.Prelude.{◌≡◌, ◌-◌, ◌*◌, true, false, pos, negsuc, refl}
use Rattle.std.specs.Float.{nan, binary32}
use Rattle.std.specs.Float.Ieee.{round}
use Rattle.numbers.specs.Steps.{step_of}
use Rattle.numbers.specs.Grid.{cell_along, cell_of_area}
use Rattle.numbers.specs.Lengths.{length_of}

-- x -0.3 stores -1
pub steps_x_tenths : step_of 2 (round binary32 true 3 10) ≡ negsuc 0
unfolding step_of round
steps_x_tenths = refl

-- 8191.75 and 8192 store 32767
pub steps_x_last : step_of 2 (round binary32 false 32767 4) ≡ pos 32767
unfolding step_of round
steps_x_last = refl

pub steps_x_over : step_of 2 (round binary32 false 8192 1) ≡ pos 32767
unfolding step_of round
steps_x_over = refl

-- NaN stores 0
pub steps_x_nan : step_of 2 nan ≡ pos 0
unfolding step_of
steps_x_nan = refl

-- z -1024 stores -32768
pub steps_z_least : step_of 5 (round binary32 true 1024 1) ≡ negsuc 32767
unfolding step_of round
steps_z_least = refl

-- grid x -1/8192 gives 16: the sum rounds to 8192
pub grid_rounded_up : cell_along (round binary32 true 1 8192) ≡ 16
unfolding cell_along round
grid_rounded_up = refl

-- grid x -1/2048 gives 15
pub grid_below : cell_along (round binary32 true 1 2048) ≡ 15
unfolding cell_along round
grid_below = refl

-- s = 25 gives 5
pub length_whole : length_of (round binary32 false 25 1) ≡ 5
unfolding length_of round
length_whole = refl

-- s = 32761 - 1/512 gives 181: the root is below 181 and rounds to it
pub length_rounded : length_of (round binary32 false (32761 * 512 - 1) 512) ≡ 181
unfolding length_of round
length_rounded = refl

-- area 1177 is cell (25, 4)
pub area_island : cell_of_area 1177 ≡ record { x = 25; y = 4 }
area_island = refl
