-- Every bit pattern of binary32, by its fields: what number it stands for. Assumes nothing.
use Rattle.std.proofs.Common.{◌≡◌, ℕ, zero, suc, ◌+◌, ◌-◌, ◌*◌, ◌/◌, ◌%◌, ◌^◌, ◌<◌, ◌≤◌, Bool, true, false, cond}
use Rattle.std.proofs.Common.{not, T, eqb, ltb, sym, refl, ap, ◌∙◌, subst, inl, inr, le_trans, le_of_eq}
use Rattle.std.proofs.Common.{le_of_suc-le-suc, le_of_lt, lt_of_lt_of_le, pow_pos, mul-lt-mul_of_pos_right}
use Rattle.std.proofs.Common.{mul-le-mul_right, mul_assoc, eq-zero-or-pos, eq-or-lt_of_le, mul-le-mul_left, mul-one}
use Rattle.std.proofs.Common.{arith, pow_mono, ltb-false, to_z-of_z, le-ltb, lt-ltb, eq-eqb, ne_eqb}
use Rattle.std.proofs.lemmas.Float.{T_from_false}
use Prim.Native.Nat.{compare}
use native.Mathlib.Nat.{pow-succ'}
use lib.Dec.{nleb→lt}
use lib.Ieee.{Float, nan, inf, fin, binary32, odd, size, nearest, units, round, of_fields, of_bits, to_bits}
use lib.Ieee.{nan_bits, is_nan, fits}
use lib.Ieee.Fits.{round_is}
use lib.Ieee.Bits.{is_false, of_bits-to_bits, nan_bits_is, nan_bits_above}
use lib.Ieee.Exact.{HasValue, odd_sign}
use Rattle.numbers.specs.Cases.{sign, field, fraction}

pub of_bits_is : (b : ℕ) → of_bits binary32 b ≡ of_fields binary32 (sign b) (field b) (fraction b)
unfolding of_bits
of_bits_is b = refl

-- ---- by the exponent's field
low_fields : (s : Bool) (x t : ℕ) → x ≡ 0 → HasValue (of_fields binary32 s x t) s t (2 ^ 149)
unfolding of_fields
low_fields s zero t e = subst (λ (a : ℕ). HasValue (odd 24 s t 0 149) s a (2 ^ 149)) (mul-one t)
    (odd_sign 24 s t 0 149)
low_fields s (suc x) t e = absurd (omega arith)

mid_fields : (s : Bool) (x t : ℕ) → 0 < x → x < 255
    → HasValue (of_fields binary32 s x t) s ((8388608 + t) * 2 ^ (x - 1)) (2 ^ 149)
unfolding of_fields
mid_fields s zero t h k = absurd (omega arith)
mid_fields s (suc x) t h k =
    subst (λ (a : Bool). HasValue (cond a (cond (eqb t 0) (inf s) nan) (odd 24 s (8388608 + t) x 149)) s
    ((8388608 + t) * 2 ^ (suc x - 1)) (2 ^ 149))
    (sym (ne_eqb (suc x) 255 (λ e. omega arith)))
    (subst (λ (y : ℕ). HasValue (odd 24 s (8388608 + t) x 149) s ((8388608 + t) * 2 ^ y) (2 ^ 149)) (omega arith)
    (odd_sign 24 s (8388608 + t) x 149))

top_fields : (s : Bool) (x t : ℕ) → x ≡ 255 → of_fields binary32 s x t ≡ cond (eqb t 0) (inf s) nan
unfolding of_fields
top_fields s zero t e = absurd (omega arith)
top_fields s (suc x) t e = ap (λ (a : Bool). cond a (cond (eqb t 0) (inf s) nan) (odd 24 s (8388608 + t) x 149))
    (eq-eqb (suc x) 255 e)

-- ---- of a pattern
pub low_value : (b : ℕ) → field b ≡ 0 → HasValue (of_bits binary32 b) (sign b) (fraction b) (2 ^ 149)
low_value b e = subst (λ (v : Float). HasValue v (sign b) (fraction b) (2 ^ 149)) (sym (of_bits_is b))
    (low_fields (sign b) (field b) (fraction b) e)

pub mid_value : (b : ℕ) → 0 < field b → field b < 255
    → HasValue (of_bits binary32 b) (sign b) ((8388608 + fraction b) * 2 ^ (field b - 1)) (2 ^ 149)
mid_value b h k = subst (λ (v : Float). HasValue v (sign b) ((8388608 + fraction b) * 2 ^ (field b - 1)) (2 ^ 149))
    (sym (of_bits_is b)) (mid_fields (sign b) (field b) (fraction b) h k)

pub infinite : (b : ℕ) → field b ≡ 255 → fraction b ≡ 0 → of_bits binary32 b ≡ inf (sign b)
infinite b e z = of_bits_is b ∙ top_fields (sign b) (field b) (fraction b) e
    ∙ ap (λ (a : Bool). cond a (inf (sign b)) nan) (eq-eqb (fraction b) 0 z)

pub no_number : (b : ℕ) → field b ≡ 255 → (fraction b ≡ 0 → ⊥) → of_bits binary32 b ≡ nan
no_number b e z = of_bits_is b ∙ top_fields (sign b) (field b) (fraction b) e
    ∙ ap (λ (a : Bool). cond a (inf (sign b)) nan) (ne_eqb (fraction b) 0 z)

-- ---- the test for a NaN
pub nan_is : (x : Float) → is_nan x ≡ true → x ≡ nan
unfolding is_nan
nan_is nan e = refl
nan_is (inf s) e = cc
nan_is (fin s m k) e = cc

-- ---- the test for a NaN's pattern, by its bits below the sign
pub nan_pattern : (n : ℕ) → 2139095040 < n % 2147483648 → of_bits binary32 n ≡ nan
nan_pattern n h = nan_is (of_bits binary32 n)
    (sym (nan_bits_is binary32 n) ∙ nan_bits_above binary32 n ∙ lt-ltb 2139095040 (n % 2147483648) h)

pub number_pattern : (n : ℕ) → n % 2147483648 ≤ 2139095040 → nan_bits binary32 n ≡ false
number_pattern n h = nan_bits_above binary32 n ∙ le-ltb 2139095040 (n % 2147483648) h

pub number_bits : (x : Float) → T (fits binary32 x) → T (not (is_nan x)) → to_bits binary32 x % 2147483648 ≤ 2139095040
number_bits x h n =
    ltb-false 2139095040 (to_bits binary32 x % 2147483648)
    (sym (nan_bits_above binary32 (to_bits binary32 x)) ∙ nan_bits_is binary32 (to_bits binary32 x)
    ∙ ap is_nan (of_bits-to_bits binary32 x h) ∙ is_false (is_nan x) n)

-- ---- the number in units of 2 ^ -149
abbrev pub number : ℕ → ℕ → ℕ
number zero t = t
number (suc x) t = (8388608 + t) * 2 ^ x

abbrev pub val : ℕ → ℕ
val b = number (field b) (fraction b)

number_value : (s : Bool) (x t : ℕ) → x < 255 → HasValue (of_fields binary32 s x t) s (number x t) (2 ^ 149)
number_value s zero t h = low_fields s zero t refl
number_value s (suc x) t h = subst (λ (y : ℕ). HasValue (of_fields binary32 s (suc x) t) s ((8388608 + t) * 2 ^ y)
    (2 ^ 149)) (omega arith) (mid_fields s (suc x) t (omega arith) h)

pub finite_value : (b : ℕ) → field b < 255 → HasValue (of_bits binary32 b) (sign b) (val b) (2 ^ 149)
finite_value b h = subst (λ (v : Float). HasValue v (sign b) (val b) (2 ^ 149)) (sym (of_bits_is b))
    (number_value (sign b) (field b) (fraction b) h)

-- it grows with the pattern, below the sign
same_field : (x t u : ℕ) → t < u → number x t < number x u
same_field zero t u h = h
same_field (suc x) t u h = mul-lt-mul_of_pos_right (omega arith) (pow_pos x)

under : (x t : ℕ) → t < 8388608 → number x t < 8388608 * 2 ^ x
under zero t h = omega arith
under (suc x) t h = lt_of_lt_of_le (mul-lt-mul_of_pos_right (omega arith) (pow_pos x))
    (le_of_eq (mul_assoc 8388608 2 (2 ^ x) ∙ ap (λ (y : ℕ). 8388608 * y) (sym (pow-succ' 2 x))))

next_field : (x y t u : ℕ) → x < y → t < 8388608 → number x t < number y u
next_field x zero t u h k = absurd (omega arith)
next_field x (suc y) t u h k = lt_of_lt_of_le (under x t k)
    (le_trans (mul-le-mul_left 8388608 (pow_mono (le_of_suc-le-suc h))) (mul-le-mul_right (2 ^ y) (omega arith)))

pub val_strict : (b c : ℕ) → b < c → c < 2147483648 → val b < val c
val_strict b c h k =
    let fields : field b ≤ field c = omega arith in
    elim (eq-or-lt_of_le fields) [
      | inl e ↦ lt_of_lt_of_le (same_field (field b) (fraction b) (fraction c) (omega arith))
          (le_of_eq (ap (λ (x : ℕ). number x (fraction c)) e))
      | inr l ↦ next_field (field b) (field c) (fraction b) (fraction c) l (omega arith)
    ]

pub val_mono : (b c : ℕ) → b ≤ c → c < 2147483648 → val b ≤ val c
val_mono b c h k = elim (eq-or-lt_of_le h) [ inl e ↦ le_of_eq (ap val e) | inr l ↦ le_of_lt (val_strict b c l k) ]

-- ---- a float without a sign has a pattern up to that of the infinity
abbrev pub unsigned : Float → Bool
unsigned nan = true
unsigned (inf s) = not s
unsigned (fin s m e) = not s

sign_of_value : (x : Float) (s : Bool) (a c : ℕ) → HasValue x s a c → T (unsigned x) → T (not s)
sign_of_value nan s a c h t = absurd h
sign_of_value (inf u) s a c h t = absurd h
sign_of_value (fin u m e) s a c h t = subst (λ (b : Bool). T (not b)) h.0 t

pub pattern_in : (b : ℕ) → T (unsigned (of_bits binary32 b)) → T (not (is_nan (of_bits binary32 b))) → b ≤ 2139095040
unfolding is_nan
pattern_in b t n =
    let l : field b ≤ 255 = omega arith in
    elim (eq-or-lt_of_le l) [
      | inl e ↦ elim (eq-zero-or-pos (fraction b)) [
        | inl z ↦ omega (arith, nleb→lt 2147483648 b (subst (λ (x : Float). T (unsigned x)) (infinite b e z) t))
        | inr p ↦ absurd (subst (λ (x : Float). T (not (is_nan x))) (no_number b e (λ z. omega arith)) n)
      ]
      | inr l ↦ omega (
        arith,
        nleb→lt 2147483648 b
            (sign_of_value (of_bits binary32 b) (sign b) (val b) (2 ^ 149) (finite_value b l) t),
      )
    ]

-- ---- what is rounded without a sign has none
odd_unsigned : (d q k l : ℕ) → T (unsigned (odd d false q k l))
unfolding odd
odd_unsigned d zero k l = tt
odd_unsigned d (suc q) k l = tt

pub units_unsigned : (q k : ℕ) → T (unsigned (units binary32 false q k))
unfolding units
units_unsigned q k = pick (ltb (q * 2 ^ k) (2 ^ 277)) (odd 25 false q k 149) (odd_unsigned 25 q k 149)
  where
    pick : (b : Bool) (x : Float) → T (unsigned x) → T (unsigned (cond b x (inf false)))
    pick true x h = h
    pick false x h = tt

pub round_unsigned : (a c : ℕ) → T (unsigned (round binary32 false a c))
round_unsigned a c =
    subst (λ (x : Float). T (unsigned x)) (sym (round_is binary32 false a c))
    (units_unsigned (nearest (a * 2 ^ 149 / (c * 2 ^ (size (a * 2 ^ 149 / c) - 24)))
    (compare (a * 2 ^ 149 % (c * 2 ^ (size (a * 2 ^ 149 / c) - 24)) * 2)
    (c * 2 ^ (size (a * 2 ^ 149 / c) - 24)))) (size (a * 2 ^ 149 / c) - 24))

-- for a function that takes a number or none
pub ruleset float_laws = (nan_is, T_from_false, number_bits, of_bits-to_bits, to_z-of_z)
