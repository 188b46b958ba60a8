-- Section 6: the grid of cells, as at the head of the Rust's `ynd.rs`.
use Rattle.std.specs.Prelude.{ℕ, ◌+◌, ◌*◌, ◌/◌, ◌%◌, min, Bool, true, false, cond, ◌&&◌, pos, ◌==◌, nat_lt}
use Rattle.std.specs.Prelude.{Float, Result, Ok, Err}
use Rattle.std.specs.Float.{nan, inf, fin, binary32}
use Rattle.std.specs.Float.Ieee.{up, down, add, mul, of_int}
use Rattle.numbers.specs.declared.grid.GridCell.{GridCell}
use Rattle.numbers.specs.declared.grid.Bounds.{Bounds}
use Rattle.numbers.specs.declared.refusal.Refusal.{Refusal}
use Rattle.numbers.specs.declared.refusal.Refusal.TheVariants.{NoSuchPlace}

-- Section 6: y / 512 floored and limited to 0 .. 31, exactly; NaN gives 0. What is below zero is floored to -1 or
-- less, and so limited to 0.
unfoldable pub grid_floor : Float → ℕ
grid_floor nan = 0
grid_floor (inf s) = cond s 0 31
grid_floor (fin s m e) = cond s 0 (min (m * up e / (down e * 512)) 31)

-- The whole part of x, limited to 0 .. 31: what is below zero gives 0, and a NaN too. The law `cell_is` says that the
-- cell of y is the whole part of y / 512, rounded to f32.
unfoldable pub whole_part : Float → ℕ
whole_part nan = 0
whole_part (inf s) = cond s 0 31
whole_part (fin s m e) = cond s 0 (min (m * up e / down e) 31)

-- Section 6: the cell along one axis. The sum x + 8192 is rounded once to f32.
unfoldable pub cell_along : Float → ℕ
unfolding grid_floor add
cell_along x = grid_floor (add binary32 x (fin false 1 (pos 13)))

abbrev pub cell_for_position : Float → Float → GridCell
cell_for_position x y = record { x = cell_along x; y = cell_along y }

-- Causes of refusal, 13: a grid number over 31.
abbrev pub in_grid : ℕ → ℕ → Bool
in_grid cx cy = nat_lt cx 32 && nat_lt cy 32

unfoldable pub area_id : ℕ → ℕ → Result ℕ Refusal
area_id cx cy = cond (in_grid cx cy) (Ok (cy * 32 + cx)) (Err NoSuchPlace)

-- The bit 1024 marks an island's cell. It is left aside where an area names a cell.
abbrev pub is_island_area : ℕ → Bool
is_island_area a = a / 1024 % 2 == 1

abbrev pub same_cell : ℕ → ℕ → Bool
same_cell a b = a % 1024 == b % 1024

abbrev pub cell_of_area : ℕ → GridCell
cell_of_area a = record { x = a % 1024 % 32; y = a % 1024 / 32 }

-- The bounds of cell n along one axis, each operation rounded to f32: -8192 + n * 512, and 512 more. The laws
-- `lower_exact` and `upper_exact` say that the rounding changes nothing in the grid.
unfoldable pub lower_bound : ℕ → Float
unfolding add mul of_int
lower_bound n = add binary32 (fin true 1 (pos 13)) (mul binary32 (of_int binary32 (pos n)) (fin false 1 (pos 9)))

unfoldable pub upper_bound : ℕ → Float
unfolding add lower_bound
upper_bound n = add binary32 (lower_bound n) (fin false 1 (pos 9))

unfoldable pub cell_bounds : ℕ → ℕ → Result Bounds Refusal
cell_bounds cx cy =
    cond (in_grid cx cy) (Ok (record {
      x0 = lower_bound cx;
      y0 = lower_bound cy;
      x1 = upper_bound cx;
      y1 = upper_bound cy;
    })) (Err NoSuchPlace)
