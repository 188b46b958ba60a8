-- The cell of y is the whole part of the f32 quotient y / 512, limited: the quotient is exact, or both are below 1.
-- Assumes nothing.
use Rattle.std.proofs.Common.{◌≡◌, ℕ, zero, suc, ◌+◌, ◌-◌, ◌*◌, ◌/◌, ◌%◌, ◌^◌, ◌<◌, ◌≤◌, min, Bool, true, false}
use Rattle.std.proofs.Common.{cond, T, ltb, ℤ, pos, negsuc, sym, refl, ap, ◌∙◌, subst, inl, inr, le_trans, le_of_eq}
use Rattle.std.proofs.Common.{lt_of_lt_of_le, lt_of_le_of_lt, mul-le-mul_right, zero-lt-suc, mul_assoc, mul_comm}
use Rattle.std.proofs.Common.{lt_of_mul-lt-mul_right, mul-le-mul_left, mul-lt-mul_of_pos_right, mul-pos, mul-one}
use Rattle.std.proofs.Common.{arith, pow_pos, pow_mono, pow-add}
use Prim.Native.Nat.{compare}
use native.Mathlib.Nat.{div-eq_of_lt}
use lib.Ieee.{Float, nan, inf, fin, binary32, up, down, fits, size, nearest, odd, units, round, add, div, le, of_bits}
use lib.Ieee.Fits.{down_pos, add-fits}
use lib.Ieee.Exact.{round_exact}
use lib.Ieee.Order.{round_mono}
use Rattle.std.specs.Prelude.{Ok, Err}
use Rattle.numbers.specs.Grid.{grid_floor, whole_part, cell_along, in_grid, area_id}
use Rattle.numbers.specs.declared.refusal.Refusal.TheVariants.{NoSuchPlace}
use Rattle.std.proofs.lemmas.Bool.{and_parts, cases_lt, ltb-true}
use Rattle.numbers.proofs.Units.{Units, units_of}
use Rattle.numbers.proofs.Orders.{lt_or_eq}
use Rattle.numbers.proofs.WholeParts.{whole_of_value}

-- a value at most a half is cut to 0
half : (x : Float) → T (le x (fin false 1 (negsuc 0))) → whole_part x ≡ 0
unfolding le whole_part
half nan h = absurd h
half (inf true) h = refl
half (inf false) h = absurd h
half (fin true m e) h = refl
half (fin false m e) h = ap (λ (n : ℕ). min n 31)
    (div-eq_of_lt (omega (arith, down_pos e, lt_or_eq (m * up e * 2) (1 * 1 * down e) h)))

-- with at least nine zeros at its end the number of units is divided exactly
many : (m j d a : ℕ) → 9 ≤ j → a * 2 ^ 149 ≡ m * 2 ^ j * d → a * 1 * 2 ^ 149 ≡ m * 2 ^ (j - 9) * (1 * 2 ^ 9 * d)
many m j d a h e =
    ap (λ (n : ℕ). n * 2 ^ 149) (mul-one a)
    ∙ e
    ∙ ap (λ (n : ℕ). m * 2 ^ n * d) (whole j h)
    ∙ ap (λ (n : ℕ). m * n * d) (pow-add 2 (j - 9) 9)
    ∙ ap (λ (n : ℕ). n * d) (sym (mul_assoc m (2 ^ (j - 9)) (2 ^ 9)))
    ∙ mul_assoc (m * 2 ^ (j - 9)) (2 ^ 9) d
  where
    whole : (j : ℕ) → 9 ≤ j → j ≡ j - 9 + 9
    whole j h = omega arith

few : (m j d a : ℕ) → m < 2 ^ 24 → j < 9 → 0 < d → a * 2 ^ 149 ≡ m * 2 ^ j * d → a < d
few m j d a s l D e =
    lt_of_mul-lt-mul_right (2 ^ 149)
    (lt_of_le_of_lt (le_of_eq e)
    (lt_of_lt_of_le (mul-lt-mul_of_pos_right (mul-lt-mul_of_pos_right s (pow_pos j)) D)
    (le_trans (mul-le-mul_right d (le_trans (le_of_eq (sym (pow-add 2 24 j))) (pow_mono {j = 149} (omega arith))))
    (le_of_eq (mul_comm (2 ^ 149) d)))))

den_is : (d : ℕ) → 1 * 2 ^ 9 * d ≡ d * 512
den_is d = mul_comm 512 d

a_half : round binary32 false 1 2 ≡ fin false 1 (negsuc 0)
unfolding round
a_half = refl

quotient : (m : ℕ) (e : ℤ) → Units m e → whole_part (round binary32 false (m * up e * 1) (1 * 2 ^ 9 * down e))
    ≡ min (m * up e / (down e * 512)) 31
quotient m e u = elim (cases_lt u.j 9) [
  | inl l ↦
      half (round binary32 false (m * up e * 1) (1 * 2 ^ 9 * down e))
      (subst (λ (h : Float). T (le (round binary32 false (m * up e * 1) (1 * 2 ^ 9 * down e)) h)) a_half
      (round_mono binary32 (m * up e * 1) (1 * 2 ^ 9 * down e) 1 2 (mul-pos (zero-lt-suc 511) (down_pos e))
      (zero-lt-suc 1) (omega (arith, few m u.j (down e) (m * up e) u.small l (down_pos e) u.value))))
      ∙ ap (λ (n : ℕ). min n 31)
      (sym (div-eq_of_lt (omega (arith, few m u.j (down e) (m * up e) u.small l (down_pos e) u.value))))
  | inr g ↦
      whole_of_value (round binary32 false (m * up e * 1) (1 * 2 ^ 9 * down e)) (m * up e * 1) (1 * 2 ^ 9 * down e)
      (mul-pos (zero-lt-suc 511) (down_pos e))
      (round_exact binary32 false (m * up e * 1) (1 * 2 ^ 9 * down e) m (u.j - 9)
      (mul-pos (zero-lt-suc 511) (down_pos e)) u.small
      (lt_of_le_of_lt (mul-le-mul_left m (pow_mono (omega arith))) u.fine)
      (many m u.j (down e) (m * up e) g u.value))
      ∙ ap (λ (n : ℕ). min n 31)
      (ap (λ (n : ℕ). n / (512 * down e)) (mul-one (m * up e)) ∙ ap (λ (n : ℕ). m * up e / n) (den_is (down e)))
]

-- ---- the cell, from the quotient
-- what is rounded below zero is cut to 0
odd_cut : (q k : ℕ) → whole_part (odd 25 true q k 149) ≡ 0
unfolding odd whole_part
odd_cut zero k = refl
odd_cut (suc q) k = refl

pick : (b : Bool) (x : Float) → whole_part x ≡ 0 → whole_part (cond b x (inf true)) ≡ 0
unfolding whole_part
pick true x h = h
pick false x h = refl

units_cut : (q k : ℕ) → whole_part (units binary32 true q k) ≡ 0
unfolding units
units_cut q k = pick (ltb (q * 2 ^ k) (2 ^ (149 + 128))) (odd 25 true q k 149) (odd_cut q k)

negative : (a c : ℕ) → whole_part (round binary32 true a c) ≡ 0
unfolding round
negative a c = units_cut (nearest (a * 2 ^ 149 / (c * 2 ^ (size (a * 2 ^ 149 / c) - 24)))
    (compare (a * 2 ^ 149 % (c * 2 ^ (size (a * 2 ^ 149 / c) - 24)) * 2) (c * 2 ^ (size (a * 2 ^ 149 / c) - 24))))
    (size (a * 2 ^ 149 / c) - 24)

pub cell_is : (y : Float) → T (fits binary32 y) → grid_floor y ≡ whole_part (div binary32 y (fin false 1 (pos 9)))
unfolding grid_floor div whole_part
cell_is nan t = refl
cell_is (inf true) t = refl
cell_is (inf false) t = refl
cell_is (fin true m e) t = sym (negative (m * up e * 1) (1 * 2 ^ 9 * down e))
cell_is (fin false m e) t = sym (quotient m e (units_of false m e t))

-- 8192 and 512, as the code has them
pub cell_of_sum : (x : Float)
    → whole_part (div binary32 (add binary32 x (of_bits binary32 0x4600_0000)) (of_bits binary32 0x4400_0000))
    ≡ cell_along x
unfolding of_bits cell_along
cell_of_sum x = sym (cell_is (add binary32 x (fin false 1 (pos 13))) (add-fits binary32 x (fin false 1 (pos 13))))

-- ---- both grid numbers are below 32
pub in_grid_law : (cx cy : ℕ) → in_grid cx cy ≡ true → (cx < 32) × (cy < 32)
in_grid_law cx cy e =
    let p = and_parts _ _ e in (ltb-true _ _ p.0, ltb-true _ _ p.1)

-- and an area is below 1,024
pub area_small : (cx cy n : ℕ) → area_id cx cy ≡ Ok n → n < 1024
unfolding area_id
area_small cx cy n h = go (in_grid cx cy) refl h
  where
    go : (b : Bool) → in_grid cx cy ≡ b → cond b (Ok (cy * 32 + cx)) (Err NoSuchPlace) ≡ Ok n → n < 1024
    go true i e =
        let same : cy * 32 + cx ≡ n = cc in
        omega (arith, in_grid_law cx cy i, same)
    go false i e = cc
