-- `step_of` of a pattern, by cases on the exponent's field. Assumes nothing.
use Rattle.std.proofs.Common.{◌≡◌, ℕ, zero, suc, ◌+◌, ◌-◌, ◌*◌, ◌/◌, ◌%◌, ◌^◌, ◌<◌, ◌≤◌, min, Bool, true, false}
use Rattle.std.proofs.Common.{not, ℤ, pos, negsuc, neg_ℤ, nat_abs, sym, refl, ap, ◌∙◌, inl, inr, le_trans, le_of_eq}
use Rattle.std.proofs.Common.{lt_of_lt_of_le, le_of_lt, mul-le-mul_right, zero-lt-suc, mul_assoc, mul_comm}
use Rattle.std.proofs.Common.{eq-zero-or-pos, mul-lt-mul_of_pos_right, mul-pos, one-mul, le-div_iff_mul-le}
use Rattle.std.proofs.Common.{mul_right_comm, mul-div_cancel, arith, to_z-of_z, pow_pos, pow_mono, pow-add, shr_lt}
use Rattle.std.proofs.Common.{get_or, eqb, eqb-true, lit<, subst}
use native.Mathlib.Nat.{div-eq_of_lt}
use Rattle.std.proofs.lemmas.Bool.{agree_below_at}
use Rattle.numbers.specs.declared.steps.TheConstants.{POWERS}
use lib.Ieee.{Float, nan, inf, fin, binary32, up, down, is_nan, of_bits, round, mul, of_int}
use lib.Ieee.Fits.{down_pos}
use lib.Ieee.Exact.{HasValue, round_exact}
use lib.Ieee.Back.{round_whole}
use lib.Ieee.Scale.{round_same}
use lib.Signed.{mag, non_neg}
use lib.Ieee.Nearest.{div_same}
use Rattle.numbers.specs.Steps.{limited, step_of, unstep}
use Rattle.numbers.specs.Cases.{sign, field, fraction}
use Rattle.numbers.proofs.Patterns.{low_value, mid_value, infinite, no_number, nan_is}

-- the steps of ±a / c
pub step_of_value : (k : ℕ) (x : Float) (s : Bool) (a c : ℕ) → 0 < c → HasValue x s a c → step_of k x
    ≡ limited s (a * 2 ^ k / c)
unfolding step_of
step_of_value k nan s a c C h = absurd h
step_of_value k (inf t) s a c C h = absurd h
step_of_value k (fin t m e) s a c C h =
    ap (λ (u : Bool). limited u (m * up e * 2 ^ k / down e)) h.0
    ∙ ap (limited s) (div_same (m * up e * 2 ^ k) (down e) (a * 2 ^ k) c (down_pos e) C
    (mul_right_comm (m * up e) (2 ^ k) c ∙ ap (λ (n : ℕ). n * 2 ^ k) h.1 ∙ mul_right_comm a (down e) (2 ^ k)))

-- from 32768 on only the sign counts
pub over : (s : Bool) (n : ℕ) → 32768 ≤ n → limited s n ≡ limited s 32768
over true n h = ap (λ (y : ℕ). neg_ℤ (pos y)) (most n h)
  where
    most : (n : ℕ) → 32768 ≤ n → min n 32768 ≡ 32768
    most n h = omega arith
over false n h = ap pos (most n h)
  where
    most : (n : ℕ) → 32768 ≤ n → min n 32767 ≡ 32767
    most n h = omega arith

none : (s : Bool) → limited s 0 ≡ pos 0
none true = refl
none false = refl

digits_in : (b : ℕ) → 8388608 + fraction b < 2 ^ 24
digits_in b = omega arith

-- ---- too small
small_low : (b k : ℕ) → k ≤ 5 → fraction b * 2 ^ k < 2 ^ 149
small_low b k h =
    lt_of_lt_of_le (mul-lt-mul_of_pos_right (omega arith) (pow_pos k))
    (le_trans (le_of_eq (sym (pow-add 2 23 k))) (pow_mono {j = 149} (omega arith)))

small_mid : (q x k : ℕ) → q < 2 ^ 24 → 0 < x → x + k < 127 → q * 2 ^ (x - 1) * 2 ^ k < 2 ^ 149
small_mid q x k h p l =
    lt_of_lt_of_le (mul-lt-mul_of_pos_right (mul-lt-mul_of_pos_right h (pow_pos (x - 1))) (pow_pos k))
    (le_trans (le_of_eq (ap (λ (n : ℕ). n * 2 ^ k) (sym (pow-add 2 24 (x - 1))) ∙ sym (pow-add 2 (24 + (x - 1)) k)))
    (pow_mono {j = 149} (omega arith)))

pub too_small : (b k : ℕ) → k ≤ 5 → field b + k < 127 → step_of k (of_bits binary32 b) ≡ pos 0
too_small b k h l = elim (eq-zero-or-pos (field b)) [
  | inl z ↦ step_of_value k (of_bits binary32 b) (sign b) (fraction b) (2 ^ 149) (pow_pos 149) (low_value b z)
      ∙ ap (limited (sign b)) (div-eq_of_lt (small_low b k h)) ∙ none (sign b)
  | inr p ↦ step_of_value k (of_bits binary32 b) (sign b) ((8388608 + fraction b) * 2 ^ (field b - 1)) (2 ^ 149)
      (pow_pos 149) (mid_value b p (omega arith))
      ∙ ap (limited (sign b)) (div-eq_of_lt (small_mid (8388608 + fraction b) (field b) k (digits_in b) p l))
      ∙ none (sign b)
]

-- ---- within range
shift : (q x k : ℕ) → 0 < x → x + k < 142 → q * 2 ^ (x - 1) * 2 ^ k * 2 ^ (150 - k - x) ≡ q * 2 ^ 149
shift q x k p l =
    ap (λ (n : ℕ). n * 2 ^ (150 - k - x))
    (mul_assoc q (2 ^ (x - 1)) (2 ^ k) ∙ ap (λ (n : ℕ). q * n) (sym (pow-add 2 (x - 1) k)))
    ∙ mul_assoc q (2 ^ (x - 1 + k)) (2 ^ (150 - k - x))
    ∙ ap (λ (n : ℕ). q * n) (sym (pow-add 2 (x - 1 + k) (150 - k - x)) ∙ ap (λ (n : ℕ). 2 ^ n) (whole x k p l))
  where
    whole : (x k : ℕ) → 0 < x → x + k < 142 → x - 1 + k + (150 - k - x) ≡ 149
    whole x k p l = omega arith

pub cut_in : (b k : ℕ) → field b + k < 142 → (8388608 + fraction b) / 2 ^ (150 - k - field b) < 32768
cut_in b k l = shr_lt 15 (150 - k - field b) (lt_of_lt_of_le (digits_in b) (pow_mono {i = 24} (omega arith)))

pub in_range : (b k : ℕ) → k ≤ 5 → 127 ≤ field b + k → field b + k < 142 → step_of k (of_bits binary32 b)
    ≡ limited (sign b) ((8388608 + fraction b) / 2 ^ (150 - k - field b))
in_range b k h p l =
    step_of_value k (of_bits binary32 b) (sign b) ((8388608 + fraction b) * 2 ^ (field b - 1)) (2 ^ 149)
    (pow_pos 149) (mid_value b (omega arith) (omega arith))
    ∙ ap (limited (sign b)) (div_same ((8388608 + fraction b) * 2 ^ (field b - 1) * 2 ^ k) (2 ^ 149)
    (8388608 + fraction b) (2 ^ (150 - k - field b)) (pow_pos 149) (pow_pos (150 - k - field b))
    (shift (8388608 + fraction b) (field b) k (omega arith) l))

-- the same by the exponent, field - (127 - k), as the code has it
exponent : (k f : ℕ) → k ≤ 5 → 127 ≤ f + k → f + k < 142 → 150 - k - f ≡ 23 - (f - (127 - k))
exponent k f h p l = omega arith

pub cut_by : (b k : ℕ) → k ≤ 5 → 127 ≤ field b + k → field b + k < 142
    → (8388608 + fraction b) / 2 ^ (23 - (field b - (127 - k))) < 32768
cut_by b k h p l = subst (λ (n : ℕ). (8388608 + fraction b) / 2 ^ n < 32768) (exponent k (field b) h p l) (cut_in b k l)

pub by_exponent : (b k : ℕ) → k ≤ 5 → 127 ≤ field b + k → field b + k < 142 → step_of k (of_bits binary32 b)
    ≡ limited (sign b) ((8388608 + fraction b) / 2 ^ (23 - (field b - (127 - k))))
by_exponent b k h p l = in_range b k h p l
    ∙ ap (λ (n : ℕ). limited (sign b) ((8388608 + fraction b) / 2 ^ n)) (exponent k (field b) h p l)

-- the cut by a product, for `cut`
pub cut_is : (a e : ℕ) → e ≤ 14 → a * 2 ^ e / 8388608 ≡ a / 2 ^ (23 - e)
cut_is a e h = div_same (a * 2 ^ e) 8388608 a (2 ^ (23 - e)) (lit< tt) (pow_pos (23 - e))
    (mul_assoc a (2 ^ e) (2 ^ (23 - e)) ∙ ap (λ (n : ℕ). a * n) (sym (pow-add 2 e (23 - e)) ∙ whole e h))
  where
    whole : (e : ℕ) → e ≤ 14 → 2 ^ (e + (23 - e)) ≡ 8388608
    whole e h = ap (λ (n : ℕ). 2 ^ n) {x = e + (23 - e)} {y = 23} (omega arith)

pub product_in : (a e : ℕ) → a < 2 ^ 24 → e ≤ 14 → a * 2 ^ e < 2 ^ 38
product_in a e h l = lt_of_lt_of_le (mul-lt-mul_of_pos_right h (pow_pos e))
    (le_trans (le_of_eq (sym (pow-add 2 24 e))) (pow_mono {j = 38} (omega (arith, l))))

pub cut_small : (a e : ℕ) → a < 2 ^ 24 → e ≤ 14 → a * 2 ^ e / 8388608 < 32768
cut_small a e h l = omega (arith, product_in a e h l)

-- the table of powers
pub power_at : (e : ℕ) → e ≤ 14 → get_or POWERS e 0 ≡ 2 ^ e
power_at e h = eqb-true _ _ (agree_below_at (λ n. eqb (get_or POWERS n 0) (2 ^ n)) (λ _. true) 15 e refl (omega
    (arith, h)))

-- ---- beyond it
large : (q x k : ℕ) → 8388608 ≤ q → k ≤ 5 → 142 ≤ x + k → 32768 * 2 ^ 149 ≤ q * 2 ^ (x - 1) * 2 ^ k
large q x k h j l =
    le_trans (le_trans (pow_mono {i = 164} (omega arith))
    (le_of_eq (pow-add 2 (23 + (x - 1)) k ∙ ap (λ (n : ℕ). n * 2 ^ k) (pow-add 2 23 (x - 1)))))
    (mul-le-mul_right (2 ^ k) (mul-le-mul_right (2 ^ (x - 1)) h))

pub beyond : (b k : ℕ) → k ≤ 5 → 142 ≤ field b + k → field b < 255 → step_of k (of_bits binary32 b)
    ≡ limited (sign b) 32768
beyond b k h l u =
    step_of_value k (of_bits binary32 b) (sign b) ((8388608 + fraction b) * 2 ^ (field b - 1)) (2 ^ 149)
    (pow_pos 149) (mid_value b (omega arith) u)
    ∙ over (sign b) ((8388608 + fraction b) * 2 ^ (field b - 1) * 2 ^ k / 2 ^ 149)
    ((le-div_iff_mul-le (pow_pos 149)).1 (large (8388608 + fraction b) (field b) k (omega arith) h l))

-- ---- infinite
pub at_infinity : (b k : ℕ) → field b ≡ 255 → fraction b ≡ 0 → step_of k (of_bits binary32 b) ≡ limited (sign b) 32768
unfolding step_of
at_infinity b k e z = ap (step_of k) (infinite b e z)

-- ---- NaN
pub at_nan : (b k : ℕ) → field b ≡ 255 → (fraction b ≡ 0 → ⊥) → step_of k (of_bits binary32 b) ≡ pos 0
unfolding step_of
at_nan b k e z = ap (step_of k) (no_number b e z)

-- ---- the pattern that stands for a NaN's
as_nan : (k : ℕ) → step_of k nan ≡ step_of k (of_bits binary32 0x7fc0_0000)
unfolding step_of of_bits
as_nan k = refl

pub at_pattern : (k : ℕ) (x : Float) → is_nan x ≡ true → step_of k x ≡ step_of k (of_bits binary32 0x7fc0_0000)
at_pattern k x e = ap (step_of k) (nan_is x e) ∙ as_nan k

-- ---- reading: ±n times 2 ^ -(k + 1)
alike : (s : Bool) (m n u d k : ℕ) → 0 < d → m * u * 1 ≡ n * d
    → round binary32 s (m * u * (1 * 1)) (d * 2 ^ suc k) ≡ round binary32 s n (2 ^ suc k)
alike s m n u d k D q =
    round_same binary32 s (m * u * (1 * 1)) (d * 2 ^ suc k) n (2 ^ suc k) (mul-pos D (pow_pos (suc k)))
    (pow_pos (suc k)) (ap (λ (a : ℕ). a * 2 ^ suc k) q ∙ mul_assoc n d (2 ^ suc k))

by_part : (k : ℕ) (x : Float) (s : Bool) (n : ℕ) → HasValue x s n 1 → mul binary32 x (fin false 1 (negsuc k))
    ≡ round binary32 s n (2 ^ suc k)
unfolding mul
by_part k nan s n h = absurd h
by_part k (inf t) s n h = absurd h
by_part k (fin true m e) s n h =
    ap (λ (b : Bool). round binary32 b (m * up e * (1 * 1)) (down e * 2 ^ suc k)) h.0
    ∙ alike s m n (up e) (down e) k (down_pos e) h.1
by_part k (fin false m e) s n h =
    ap (λ (b : Bool). round binary32 b (m * up e * (1 * 1)) (down e * 2 ^ suc k)) h.0
    ∙ alike s m n (up e) (down e) k (down_pos e) h.1

times : (k : ℕ) (z : ℤ) → mag z < 32768 → mul binary32 (of_int binary32 z) (fin false 1 (negsuc k)) ≡ unstep (suc k) z
unfolding of_int unstep
times k (pos n) h = by_part k (round binary32 false n 1) false n (round_whole binary32 false n (omega arith))
times k (negsuc n) h = by_part k (round binary32 true (suc n) 1) true (suc n)
    (round_whole binary32 true (suc n) (omega arith))

-- 0.25 and 0.03125, as the code has them
pub times_quarter : (z : ℤ) → mag z < 32768 → mul binary32 (of_int binary32 z) (of_bits binary32 0x3e80_0000)
    ≡ unstep 2 z
unfolding of_bits
times_quarter z l = times 1 z l

pub times_thirty_second : (z : ℤ) → mag z < 32768
    → mul binary32 (of_int binary32 z) (of_bits binary32 0x3d00_0000) ≡ unstep 5 z
unfolding of_bits
times_thirty_second z l = times 4 z l

-- it is exact
exact : (k : ℕ) (s : Bool) (n : ℕ) → k ≤ 5 → n ≤ 32768 → HasValue (round binary32 s n (2 ^ k)) s n (2 ^ k)
exact k s n h l = round_exact binary32 s n (2 ^ k) n (149 - k) (pow_pos k) (omega arith)
    (lt_of_lt_of_le (mul-lt-mul_of_pos_right (omega arith) (pow_pos (149 - k)))
    (le_trans (le_of_eq (sym (pow-add 2 24 (149 - k)))) (pow_mono {j = 277} (omega arith))))
    (ap (λ (e : ℕ). n * 2 ^ e) (whole k h) ∙ ap (λ (e : ℕ). n * e) (pow-add 2 (149 - k) k)
    ∙ sym (mul_assoc n (2 ^ (149 - k)) (2 ^ k)))
  where
    whole : (k : ℕ) → k ≤ 5 → 149 ≡ 149 - k + k
    whole k h = omega arith

pub unstep_exact : (k : ℕ) (z : ℤ) → k ≤ 5 → mag z < 32768
    → HasValue (unstep k z) (not (non_neg z)) (nat_abs z) (2 ^ k)
unfolding unstep
unstep_exact k (pos n) h l = exact k false n h (le_of_lt l)
unstep_exact k (negsuc n) h l = exact k true (suc n) h l

-- what was stored is read back, and stored again it is the same
back : (k : ℕ) (s : Bool) (n : ℕ) → k ≤ 5 → n ≤ 32768 → step_of k (round binary32 s n (2 ^ k)) ≡ limited s n
back k s n h l = step_of_value k (round binary32 s n (2 ^ k)) s n (2 ^ k) (pow_pos k) (exact k s n h l)
    ∙ ap (limited s) (mul-div_cancel n (pow_pos k))

pub round_trip : (k : ℕ) (z : ℤ) → k ≤ 5 → mag z < 32768 → step_of k (unstep k z) ≡ z
unfolding unstep
round_trip k (pos n) h l = back k false n h (omega arith) ∙ ap pos (whole n l)
  where
    whole : (n : ℕ) → n < 32768 → min n 32767 ≡ n
    whole n l = omega arith
round_trip k (negsuc n) h l = back k true (suc n) h l ∙ ap (λ (y : ℕ). neg_ℤ (pos y)) (whole n l)
  where
    whole : (n : ℕ) → n < 32768 → min (suc n) 32768 ≡ suc n
    whole n l = omega arith

-- ---- steps are those of an i16
limited_in : (s : Bool) (n : ℕ) → mag (limited s n) < 32768
limited_in false n = under n
  where
    under : (n : ℕ) → min n 32767 < 32768
    under n = omega arith
limited_in true n = under (min n 32768) (omega arith)
  where
    under : (m : ℕ) → m ≤ 32768 → mag (neg_ℤ (pos m)) < 32768
    under zero h = omega arith
    under (suc m) h = h

pub step_in : (k : ℕ) (x : Float) → mag (step_of k x) < 32768
unfolding step_of
step_in k nan = omega arith
step_in k (inf s) = limited_in s 32768
step_in k (fin s m e) = limited_in s (m * up e * 2 ^ k / down e)

-- for `cut`, and for `steps_of_bits`
pub ruleset cut_laws = (cut_is, product_in, cut_small)

pub ruleset step_laws = (cut_by, too_small, by_exponent, beyond, at_infinity, at_nan, to_z-of_z)
