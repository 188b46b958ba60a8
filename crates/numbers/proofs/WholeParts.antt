-- The whole part of an f32 by a sum in f32: below 32, 2 ^ 23 more rounds it to a whole number, which is its whole
-- part or
-- one more; from 32 on the sum's pattern is that of 2 ^ 23 + 32 or a greater one. Assumes nothing.
use Rattle.std.proofs.Common.{◌-◌}
use Rattle.std.proofs.Common.{◌≡◌, ℕ, ◌+◌, ◌*◌, ◌/◌, ◌%◌, ◌^◌, ◌<◌, ◌≤◌, min, Bool, true, false, not, cond, eqb, ltb}
use Rattle.std.proofs.Common.{T, ℤ, pos, refl, ap, ◌∙◌, sym, subst}
use Rattle.std.proofs.Common.{inl, inr, ◌⊎◌, arith, lit≤, zero-lt-suc, eqb-true, mod-lt}
use Rattle.std.proofs.Common.{div-add-mod', div-lt_iff_lt-mul, le-div_iff_mul-le, zero-mul}
use native.Mathlib.Nat.{div-eq_of_lt}
use borrow.Author.Tests.{ltb-true, ltb-false}
use lib.Ieee.{Float, nan, inf, fin, binary32, up, down, fits, is_nan, round, add, sub, lt, le, of_bits, to_bits}
use lib.Ieee.Bits.{of_bits-to_bits}
use lib.Ieee.Back.{round_whole}
use lib.Ieee.Exact.{HasValue}
use lib.Ieee.Fits.{down_pos, round-fits, add-fits, sub-fits}
use lib.Ieee.Nearest.{div_same}
use lib.Ieee.Order.{round_mono}
use Rattle.std.proofs.lemmas.Bool.{agree_below_at, cases_lt}
use Rattle.std.proofs.lemmas.Float.{le_right}
use Rattle.std.specs.Float.Order.{lt_at}
use Rattle.numbers.specs.Grid.{whole_part}
use Rattle.numbers.proofs.Patterns.{unsigned, round_unsigned}
use Rattle.numbers.proofs.Orders.{bits_lt, clash, pattern_of}
use Rattle.numbers.proofs.BoundLaws.{agree}

pub whole_of_value : (x : Float) (a c : ℕ) → 0 < c → HasValue x false a c → whole_part x ≡ min (a / c) 31
unfolding whole_part
whole_of_value nan a c C h = absurd h
whole_of_value (inf t) a c C h = absurd h
whole_of_value (fin t m e) a c C h =
    ap (λ (u : Bool). cond u 0 (min (m * up e / down e) 31)) h.0
    ∙ ap (λ (n : ℕ). min n 31) (div_same (m * up e) (down e) a c (down_pos e) C h.1)

-- ---- 2 ^ 23 + j: its pattern, and what it is without 2 ^ 23; each by a computed test
abbrev base : ℕ
base = 0x4b00_0000

unfoldable raised : ℕ → Float
raised j = round binary32 false (2 ^ 23 + j) 1

raised_fits : (j : ℕ) → T (fits binary32 (raised j))
unfolding raised
raised_fits j = round-fits binary32 false (2 ^ 23 + j) 1

raised_bits : (j : ℕ) → j < 33 → to_bits binary32 (raised j) ≡ base + j
unfolding raised round to_bits
raised_bits j h = eqb-true _ _ (agree_below_at (λ q. eqb (to_bits binary32 (raised q)) (base + q))
    (λ _. true) 33 j refl h)

pattern_raised : (j : ℕ) → j < 33 → of_bits binary32 (base + j) ≡ raised j
pattern_raised j h = sym (ap (of_bits binary32) (raised_bits j h)) ∙ of_bits-to_bits binary32 (raised j) (raised_fits j)

raised_unsigned : (j : ℕ) → T (unsigned (raised j))
unfolding raised
raised_unsigned j = round_unsigned (2 ^ 23 + j) 1

lowered : ℕ → Float
lowered j = sub binary32 (raised j) (fin false 1 (pos 23))

plain : ℕ → Float
plain j = round binary32 false j 1

lowered_is : (j : ℕ) → j < 33 → lowered j ≡ plain j
unfolding lowered plain raised round to_bits sub
lowered_is j h = agree lowered plain 33 (λ n. sub-fits binary32 (raised n) (fin false 1 (pos 23)))
    (λ n. round-fits binary32 false n 1) refl j h

-- ---- a float with no sign between them has a pattern between theirs
module _ (s : Float) (f : T (fits binary32 s)) (u : T (unsigned s)) (j : ℕ) (h : j < 33) where
  same : of_bits binary32 (to_bits binary32 s) ≡ s
  same = of_bits-to_bits binary32 s f

  from : T (le (raised j) s) → base + j ≤ to_bits binary32 s
  from l = elim (cases_lt (to_bits binary32 s) (base + j)) [
    | inr g ↦ g
    | inl b ↦ absurd (clash (raised j) s (raised_unsigned j) u
        (subst (λ (x : Float). T (lt x (raised j))) same
        (subst (λ (x : Float). T (lt (of_bits binary32 (to_bits binary32 s)) x)) (pattern_raised j h)
        (bits_lt (to_bits binary32 s) (base + j) b (omega (arith, h))))) l)
  ]

  to : T (not (is_nan s)) → T (le s (raised j)) → to_bits binary32 s ≤ base + j
  to n l = elim (cases_lt (base + j) (to_bits binary32 s)) [
    | inr g ↦ g
    | inl b ↦ absurd (clash s (raised j) u (raised_unsigned j)
        (subst (λ (x : Float). T (lt x s)) (pattern_raised j h)
        (subst (λ (x : Float). T (lt (of_bits binary32 (base + j)) x)) same
        (bits_lt (base + j) (to_bits binary32 s) b (pattern_of s f u n)))) l)
  ]

-- ---- the sum, and what it is without 2 ^ 23
abbrev total : Float → Float
total y = add binary32 y (fin false 1 (pos 23))

abbrev bits : Float → ℕ
bits y = to_bits binary32 (total y)

abbrev over : Float → Bool
over y = lt y (sub binary32 (total y) (fin false 1 (pos 23)))

module _ (m : ℕ) (e : ℤ) where
  abbrev y : Float
  y = fin false m e

  abbrev part : ℕ
  part = m * up e / down e

  parts : (m * up e ≡ part * down e + m * up e % down e) × (m * up e % down e < down e)
  parts = (sym (div-add-mod' (m * up e) (down e)), mod-lt (m * up e) (down_pos e))

  total_fits : T (fits binary32 (total y))
  total_fits = add-fits binary32 y (fin false 1 (pos 23))

  total_unsigned : T (unsigned (total y))
  unfolding add
  total_unsigned = round_unsigned (m * up e * 1 + 1 * 2 ^ 23 * down e) (down e * 1)

  above : (j : ℕ) → j * down e ≤ m * up e → T (le (raised j) (total y))
  unfolding add raised
  above j h = round_mono binary32 (2 ^ 23 + j) 1 (m * up e * 1 + 1 * 2 ^ 23 * down e) (down e * 1) (zero-lt-suc 0)
      (omega (arith, down_pos e)) (omega (arith, h))

  under : (j : ℕ) → m * up e ≤ j * down e → T (le (total y) (raised j))
  unfolding add raised
  under j h = round_mono binary32 (m * up e * 1 + 1 * 2 ^ 23 * down e) (down e * 1) (2 ^ 23 + j) 1
      (omega (arith, down_pos e)) (zero-lt-suc 0) (omega (arith, h))

  lowest : part * down e ≤ m * up e
  lowest = omega (arith, parts)

  number : T (not (is_nan (total y)))
  number = le_right (raised part) (total y) (above part lowest)

  -- below 32
  module _ (most : m * up e < 32 * down e) where
    few : part < 32
    few = (div-lt_iff_lt-mul (down_pos e)).1 most

    either : (bits y ≡ base + part) ⊎ (bits y ≡ base + (part + 1))
    either =
        let l = from (total y) total_fits total_unsigned part (omega (arith, few)) (above part lowest) in
        let h = to (total y) total_fits total_unsigned (part + 1) (omega (arith, few)) number
        (under (part + 1) (omega (arith, parts))) in
        elim (cases_lt (base + part) (bits y)) [ inl g ↦ inr (omega (arith, g, h)) | inr g ↦ inl (omega (arith, g, l)) ]

    test : (j : ℕ) → j < 33 → bits y ≡ base + j → over y ≡ ltb (m * up e * 1) (j * down e)
    unfolding lowered plain
    test j h b =
        ap (λ (x : Float). lt y (sub binary32 x (fin false 1 (pos 23))))
        (sym (of_bits-to_bits binary32 (total y) total_fits) ∙ ap (of_bits binary32) b ∙ pattern_raised j h)
        ∙ ap (lt y) (lowered_is j h)
        ∙ lt_at y (plain j) (m * up e) (down e) j 1 (down_pos e) (zero-lt-suc 0) (refl, refl)
        (round_whole binary32 false j (omega (arith, h)))

    rounded_up : over y ≡ true → bits y ≡ base + (part + 1)
    rounded_up h = elim either [
      | inl b ↦ absurd (omega (arith, parts, ltb-true _ _ (sym (test part (omega (arith, few)) b) ∙ h)))
      | inr b ↦ b
    ]

    rounded_down : over y ≡ false → bits y ≡ base + part
    rounded_down h = elim either [
      | inl b ↦ b
      | inr b ↦ absurd (omega (arith, parts, ltb-false _ _ (sym (test (part + 1) (omega (arith, few)) b) ∙ h)))
    ]

-- ---- of any float with no sign: what is taken from its sum, limited, is its whole part
abbrev Taken : Float → Type 0
Taken z = (over z ≡ true → (base + 1 ≤ bits z) × (min (bits z - base - 1) 31 ≡ whole_part z))
    × (over z ≡ false → (base ≤ bits z) × (min (bits z - base - 0) 31 ≡ whole_part z))

many : (b n : ℕ) → base + 32 ≤ b → n ≤ 1 → min (b - base - n) 31 ≡ 31
many b n h l = omega arith

infinite : T (not (is_nan (total (inf false)))) × Taken (inf false)
unfolding is_nan whole_part add to_bits
infinite = (tt, (λ h. (lit≤ tt, refl), λ h. (lit≤ tt, refl)))

taken : (y : Float) → T (unsigned y) → T (not (is_nan y)) → T (not (is_nan (total y))) × Taken y
unfolding is_nan whole_part
taken nan u n = absurd n
taken (inf true) u n = absurd u
taken (inf false) u n = infinite
taken (fin true m e) u n = absurd u
taken (fin false m e) u n = (
  number m e,
  elim (cases_lt (m * up e) (32 * down e)) [
    | inl l ↦ (
      λ h. let b = rounded_up m e l h in (omega (arith, b), omega (arith, b)),
      λ h. let b = rounded_down m e l h in (omega (arith, b), omega (arith, b)),
    )
    | inr g ↦
        let b = from (total (fin false m e)) (total_fits m e) (total_unsigned m e) 32 (omega arith) (above m e 32 g) in
        let w = sym (most_of (m * up e / down e) ((le-div_iff_mul-le (down_pos e)).1 g)) in (
          λ h. (omega (arith, b), many (bits (fin false m e)) 1 b (omega arith) ∙ w),
          λ h. (omega (arith, b), many (bits (fin false m e)) 0 b (omega arith) ∙ w),
        )
  ],
)
  where
    most_of : (n : ℕ) → 32 ≤ n → min n 31 ≡ 31
    most_of n h = omega arith

-- ---- the limit below: y has no sign, and the whole part of x
pub record From (x y : Float) : Type 0 where
  pub plus : T (unsigned y)
  pub number : T (not (is_nan y))
  pub whole : whole_part y ≡ whole_part x

pub from_itself : (x : Float) → lt (fin false 0 (pos 0)) x ≡ true → From x x
unfolding lt is_nan
from_itself nan h = absurd (subst T (sym h) tt)
from_itself (inf true) h = absurd (subst T (sym h) tt)
from_itself (inf false) h = record { plus = tt; number = tt; whole = refl }
from_itself (fin true m e) h = absurd (subst T (sym h) tt)
from_itself (fin false m e) h = record { plus = tt; number = tt; whole = refl }

none : (x : Float) → lt (fin false 0 (pos 0)) x ≡ false → 0 ≡ whole_part x
unfolding lt whole_part
none nan h = refl
none (inf true) h = refl
none (inf false) h = absurd (subst T h tt)
none (fin true m e) h = refl
none (fin false m e) h = ap (λ (n : ℕ). min n 31)
    (sym (div-eq_of_lt (nothing (m * up e) (down e) (down_pos e) (ltb-false _ _ h))))
  where
    nothing : (a d : ℕ) → 0 < d → a * 1 ≤ 0 * 1 * d → a < d
    nothing a d p h = omega (arith, zero-mul d)

pub from_zero : (x : Float) → lt (fin false 0 (pos 0)) x ≡ false → From x (fin false 0 (pos 0))
unfolding is_nan whole_part
from_zero x h = record { plus = tt; number = tt; whole = none x h }

-- ---- as the code has it, 2 ^ 23 by its pattern
module _ (x y : Float) (f : From x y) where
  pub sum_number : T (not (is_nan (add binary32 y (of_bits binary32 0x4b00_0000))))
  unfolding of_bits
  sum_number = (taken y f.plus f.number).0

  pub part_over : lt y (sub binary32 (add binary32 y (of_bits binary32 0x4b00_0000)) (of_bits binary32 0x4b00_0000))
      ≡ true → (base + 1 ≤ to_bits binary32 (add binary32 y (of_bits binary32 0x4b00_0000)))
      × (min (to_bits binary32 (add binary32 y (of_bits binary32 0x4b00_0000)) - base - 1) 31 ≡ whole_part x)
  unfolding of_bits
  part_over h = let t = (taken y f.plus f.number).1.0 h in (t.0, t.1 ∙ f.whole)

  pub part_exact : lt y (sub binary32 (add binary32 y (of_bits binary32 0x4b00_0000)) (of_bits binary32 0x4b00_0000))
      ≡ false → (base ≤ to_bits binary32 (add binary32 y (of_bits binary32 0x4b00_0000)))
      × (min (to_bits binary32 (add binary32 y (of_bits binary32 0x4b00_0000)) - base - 0) 31 ≡ whole_part x)
  unfolding of_bits
  part_exact h = let t = (taken y f.plus f.number).1.1 h in (t.0, t.1 ∙ f.whole)
