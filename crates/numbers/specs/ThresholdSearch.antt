-- T-12: "works out the 256 thresholds by whole-number comparison and prints them one a line, eight lower-case
-- hexadecimal digits". Whether a root reaches k, asked by whole numbers, and the line that shows an entry.
use Rattle.std.specs.Prelude.{◌≡◌, ℕ, zero, suc, ◌+◌, ◌-◌, ◌*◌, ◌/◌, ◌%◌, ◌^◌, ◌<◌, ◌≤◌, Bool, cond, List, [], ◌∷◌}
use Rattle.std.specs.Prelude.{nat_le, nat_lt}
use Rattle.std.specs.Float.Ieee.{size}
use Rattle.numbers.specs.Table.{Least}

-- j is how many digits k - 1 has, so that k is above 2 ^ (j - 1) and at most 2 ^ j. The f32s below k are there
-- 2 ^ (j - 24) apart, and a root rounds to k or more where it is at least the middle between k and the one before,
-- (k * 2 ^ (25 - j) - 1) * 2 ^ (j - 25). Compared are the squares, in units of 2 ^ (2 * j - 50). The middle itself is
-- no f32's root: its square is odd in these units and has more than 24 digits. b is the pattern of
-- (2 ^ 23 + fraction) * 2 ^ (field - 150).
unfoldable pub whole_reaches : ℕ → ℕ → ℕ → Bool
whole_reaches k j b =
    nat_le ((k * 2 ^ (25 - j) - 1) * (k * 2 ^ (25 - j) - 1))
    ((0x80_0000 + b % 0x80_0000) * 2 ^ (b / 0x80_0000 - 100 - 2 * j))

-- Where entry k is looked for: from 2 ^ (2 * j - 2) to 2 ^ (2 * j).
pub record Searched (k j b : ℕ) : Type 0 where
  pub some : 0 < k
  pub small : k < 256
  pub digits : j ≡ size (k - 1)
  pub from : 125 + 2 * j ≤ b / 0x80_0000
  pub to : b / 0x80_0000 ≤ 127 + 2 * j

-- A digit from 0 to 15 as a byte, 0 to 9 and a to f, and what such a byte stands for.
abbrev pub hex_digit : ℕ → ℕ
hex_digit d = cond (nat_lt d 10) (48 + d) (87 + d)

abbrev pub hex_value : ℕ → ℕ
hex_value c = cond (nat_lt c 58) (c - 48) (c - 87)

-- The last w hexadecimal digits of n, before what stands behind them.
abbrev pub hex_before : ℕ → ℕ → List ℕ → List ℕ
hex_before zero n rest = rest
hex_before (suc w) n rest = hex_before w (n / 16) (hex_digit (n % 16) ∷ rest)

-- The line of an entry: eight digits and the line's end.
abbrev pub line_of : ℕ → List ℕ
line_of n = hex_before 8 n (10 ∷ [])

-- What `threshold_line` gives, by the rule alone: the line of the least pattern whose rounded root is at least k.
abbrev pub LineOfLeast : ℕ → List ℕ → Type 0
LineOfLeast k line = (t : ℕ) → Least k t → line ≡ line_of t

-- The number that digits stand for, from the number so far.
abbrev pub hex_read : ℕ → List ℕ → ℕ
hex_read n [] = n
hex_read n (c ∷ cs) = hex_read (n * 16 + hex_value c) cs
