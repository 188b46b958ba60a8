-- Section 4: the accessor `lane_offset` of a link, from its value and its sign.
use Rattle.std.specs.Prelude.{ℕ, Bool, false, pos, negsuc, Float}
use Rattle.std.specs.Float.{fin, binary32}
use Rattle.std.specs.Float.Ieee.{mul, div, of_int}

-- value / 7, times a half with the sign; each operation is rounded to f32
unfoldable pub lane_offset : ℕ → Bool → Float
unfolding mul div of_int
lane_offset value negative =
    mul binary32 (div binary32 (of_int binary32 (pos value)) (fin false 7 (pos 0))) (fin negative 1 (negsuc 0))
