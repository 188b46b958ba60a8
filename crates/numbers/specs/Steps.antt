-- Section 3: stored steps. k is 2 for x and y (value × 4) and 5 for z (value × 32).
use Rattle.std.specs.Prelude.{ℕ, suc, ◌*◌, ◌/◌, ◌^◌, min, Bool, true, false, cond, ℤ, pos, negsuc, neg_ℤ, Float}
use Rattle.std.specs.Float.{nan, inf, fin, binary32}
use Rattle.std.specs.Float.Ieee.{up, down, round}

-- Section 3: the whole number ±n, limited to -32768 .. 32767.
abbrev pub limited : Bool → ℕ → ℤ
limited s n = cond s (neg_ℤ (pos (min n 32768))) (pos (min n 32767))

-- Section 3: value × 2 ^ k, cut towards zero, then limited; NaN gives 0. Exact: fin s m e is ±m * 2 ^ e, and 2 ^ e is
-- up e / down e. The law `as_i16` says that this is the Rust's `(x * 4.0) as i16` or `(x * 32.0) as i16`.
unfoldable pub step_of : ℕ → Float → ℤ
step_of k nan = pos 0
step_of k (inf s) = limited s 32768
step_of k (fin s m e) = limited s (m * up e * 2 ^ k / down e)

-- Section 3: what n steps stand for, n / 2 ^ k. The law `unstep_exact` says that the rounding changes nothing.
unfoldable pub unstep : ℕ → ℤ → Float
unstep k (pos n) = round binary32 false n (2 ^ k)
unstep k (negsuc n) = round binary32 true (suc n) (2 ^ k)
