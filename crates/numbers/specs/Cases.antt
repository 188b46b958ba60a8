-- T-04 (document 02): the conversion to stored steps "as cases on the exponent field, with the fraction telling
-- infinite from NaN: too small, within range, beyond it, infinite, NaN". k is the scale: 2 for x and y (value × 4),
-- 5 for z (value × 32). Laws, in proofs/CaseLaws: "every bit pattern falls in exactly one case" is `every_pattern`;
-- "the cases give 0, the cut step, the limit of its sign (beyond it and infinite) and 0" is `case_gives`; that this
-- is the step of every pattern, at either scale, is `step_of_case`.
use Rattle.std.specs.Prelude.{◌≡◌, ℕ, ◌+◌, ◌-◌, ◌/◌, ◌%◌, ◌^◌, ◌<◌, ◌≤◌, Bool, cond, ℤ, pos, ◌==◌, ◌≢◌, nat_le, nat_lt}
use Rattle.numbers.specs.Steps.{limited}

-- IEEE 754, binary32, from the highest bit down: sign (1 bit), the exponent's field (8 bits), fraction (23 bits).
abbrev pub sign : ℕ → Bool
sign b = nat_le 0x8000_0000 b

abbrev pub field : ℕ → ℕ
field b = b % 0x8000_0000 / 0x80_0000

abbrev pub fraction : ℕ → ℕ
fraction b = b % 0x80_0000

pub data StepCase : Type 0 where
  too_small : StepCase
  within_range : StepCase
  beyond_range : StepCase
  infinite : StepCase
  not_a_number : StepCase

-- What each case says of the field e and the fraction f. The bias is 127: a number with the field e, times 2 ^ k, lies
-- from 2 ^ (e + k - 127) up to below 2 ^ (e + k - 126), so below 1 where e < 127 - k, below 2 ^ 15 where e < 142 - k.
abbrev pub InCase : StepCase → ℕ → ℕ → ℕ → Type 0
InCase too_small k e f = e < 127 - k
InCase within_range k e f = (127 - k ≤ e) × (e < 142 - k)
InCase beyond_range k e f = (142 - k ≤ e) × (e < 255)
InCase infinite k e f = (e ≡ 255) × (f ≡ 0)
InCase not_a_number k e f = (e ≡ 255) × (f ≢ 0)

-- The case of a field and a fraction, asked in this order.
unfoldable pub case_of : ℕ → ℕ → ℕ → StepCase
case_of k e f =
    cond (nat_lt e (127 - k)) too_small
    (cond (nat_lt e (142 - k)) within_range
    (cond (nat_lt e 255) beyond_range
    (cond (f == 0) infinite
    not_a_number)))

-- c is the one case of the pattern b.
pub record OneCase (c : StepCase) (k b : ℕ) : Type 0 where
  pub holds : InCase c k (field b) (fraction b)
  pub only : (other : StepCase) → InCase other k (field b) (fraction b) → other ≡ c

-- What each case gives. Within range that is the 24-bit significand, 2 ^ 23 + fraction, which counts units of 2 ^
-- (e + k - 150), without its digits below 1. Of the numbers beyond, those that are cut to -2 ^ 15 (along x and y
-- from -8192 down to above -8192.25) have a step of their own: it is the limit of their sign.
abbrev pub case_step : StepCase → ℕ → ℕ → ℤ
case_step too_small k b = pos 0
case_step within_range k b = limited (sign b) ((0x80_0000 + fraction b) / 2 ^ (150 - k - field b))
case_step beyond_range k b = limited (sign b) 32768
case_step infinite k b = limited (sign b) 32768
case_step not_a_number k b = pos 0
