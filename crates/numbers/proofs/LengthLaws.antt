-- The length of a number with no sign, limited to the last threshold. Assumes nothing.
use Rattle.std.proofs.Common.{◌≡◌, ℕ, ◌<◌, ◌≤◌, not, true, false, T, refl, ap, ◌∙◌, sym, subst, arith, inl, inr}
use lib.Ieee.{Float, nan, inf, fin, binary32, fits, is_nan, lt, of_bits, to_bits}
use lib.Ieee.Bits.{of_bits-to_bits}
use Rattle.std.proofs.lemmas.Bool.{cases_lt}
use Rattle.numbers.specs.Lengths.{length_of}
use Rattle.numbers.specs.Table.{thresholds}
use Rattle.numbers.proofs.Patterns.{unsigned}
use Rattle.numbers.proofs.Orders.{bits_lt, lt_bits, pattern_of}
use Rattle.numbers.proofs.TableLaws.{entry, length_is}

-- 65025, the last threshold
abbrev pub top : ℕ
top = 0x477e_0100

last : entry 255 ≡ top
unfolding thresholds
last = refl

number : (s : Float) → lt s (of_bits binary32 top) ≡ true → T (not (is_nan s))
unfolding lt is_nan
number nan h = absurd (subst T (sym h) tt)
number (inf s) h = tt
number (fin s m e) h = tt

-- the length of a pattern from it on
from_top : (b : ℕ) → top ≤ b → b ≤ 0x7f80_0000 → 255 ≡ length_of (of_bits binary32 b)
from_top b l h = length_is 255 b (omega arith) (omega (arith, h)) (omega (arith, l, last))
    (λ k. absurd (omega (arith, k)))

module _ (s : Float) (f : T (fits binary32 s)) (u : T (unsigned s)) where
  same : of_bits binary32 (to_bits binary32 s) ≡ s
  same = of_bits-to_bits binary32 s f

  pub below : lt s (of_bits binary32 top) ≡ true → to_bits binary32 s < top
  below h = lt_bits (to_bits binary32 s) top (pattern_of s f u (number s h)) (omega arith)
      (subst (λ (x : Float). T (lt x (of_bits binary32 top))) (sym same) (subst T (sym h) tt))

  number_from : T (not (is_nan s)) → lt s (of_bits binary32 top) ≡ false → 255 ≡ length_of s
  number_from n h = elim (cases_lt (to_bits binary32 s) top) [
    | inl l ↦ absurd (subst T h (subst (λ (x : Float). T (lt x (of_bits binary32 top))) same
        (bits_lt (to_bits binary32 s) top l (omega arith))))
    | inr g ↦ from_top (to_bits binary32 s) g (pattern_of s f u n) ∙ ap length_of same
  ]

-- what is not below it, a NaN too
pub from_255 : (s : Float) → T (fits binary32 s) → T (unsigned s) → lt s (of_bits binary32 top) ≡ false
    → 255 ≡ length_of s
unfolding length_of is_nan
from_255 nan f u h = refl
from_255 (inf s) f u h = number_from (inf s) f u tt h
from_255 (fin s m e) f u h = number_from (fin s m e) f u tt h

pub top_bits : to_bits binary32 (of_bits binary32 top) ≡ top
unfolding to_bits of_bits
top_bits = refl

pub at_top : length_of (of_bits binary32 (to_bits binary32 (of_bits binary32 top))) ≡ 255
at_top = ap (λ (b : ℕ). length_of (of_bits binary32 b)) top_bits ∙ sym (from_top top (omega arith) (omega arith))
