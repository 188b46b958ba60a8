-- The rule of STARTS, by one computed test over the slices: entry i is the number of the last threshold that is at most
-- the least pattern of slice i, and the next but one lies in no pattern of it. Assumes nothing.
use Rattle.std.proofs.Common.{◌≡◌, ℕ, suc, ◌+◌, ◌*◌, ◌/◌, ◌-◌, ◌<◌, ◌≤◌, max, Bool, true, ◌&&◌, ◌||◌, eqb, ltb, leb}
use Rattle.std.proofs.Common.{get_or, refl, ap, ◌∙◌, inl, inr, arith, ltb-true, eq-zero-or-pos, zero-le}
use Rattle.std.proofs.Common.{le_trans, le_of_eq}
use lib.Ieee.{binary32, of_bits}
use borrow.Author.Tests.{eqb-true, leb-true}
use Rattle.std.proofs.lemmas.Bool.{agree_below_at, and_parts, or_cases}
use Rattle.numbers.specs.Lengths.{length_of}
use Rattle.numbers.specs.Table.{thresholds}
use Rattle.numbers.specs.declared.starts.TheConstants.{STARTS}
use Rattle.numbers.proofs.TableLaws.{entry, length_is}

abbrev pub start : ℕ → ℕ
start i = get_or STARTS i 0

-- the least pattern of slice i: the first slice's upper 16 bits are 0x3f7f
abbrev least : ℕ → ℕ
least i = (i + 0x3f7f) * 65536

-- the test of entry i, which is k
unfoldable starts_slice : ℕ → ℕ → Bool
starts_slice i k = ltb k 255 && leb (entry k) (least i) && (eqb k 254 || leb (least (i + 1)) (entry (k + 2)))

test : (i : ℕ) → i < 2048 → starts_slice i (start i) ≡ true
unfolding thresholds starts_slice
test i h = agree_below_at (λ q. starts_slice q (start q)) (λ _. true) 2048 i refl h

-- ---- the rule
pub below_255 : (i : ℕ) → i < 2048 → start i < 255
unfolding starts_slice
below_255 i h = ltb-true (start i) 255 (and_parts _ _ (and_parts _ _ (test i h)).0).0

at_most : (i : ℕ) → i < 2048 → entry (start i) ≤ least i
unfolding starts_slice
at_most i h = leb-true (entry (start i)) (least i) (and_parts _ _ (and_parts _ _ (test i h)).0).1

no_third : (i : ℕ) → i < 2048 → start i + 2 < 256 → least (i + 1) ≤ entry (start i + 2)
unfolding starts_slice
no_third i h l = elim (or_cases _ _ (and_parts _ _ (test i h)).1) [
  | inl e ↦ let top : start i ≡ 254 = eqb-true (start i) 254 e in absurd (omega (arith, top, l))
  | inr e ↦ leb-true (least (i + 1)) (entry (start i + 2)) e
]

first : entry 0 ≡ 0
unfolding thresholds
first = refl

first_start : start 0 ≡ 0
first_start = refl

same : (n : ℕ) → entry (suc n) ≡ entry (n + 1)
same n = ap entry (omega arith)

same_next : (n : ℕ) → entry (suc (n + 1)) ≡ entry (n + 2)
same_next n = ap entry (omega arith)

-- ---- the slice of a pattern up to the last slice's greatest, and its length
abbrev pub slice : ℕ → ℕ
slice c = c / 65536 - 0x3f7f

pub slice_in : (b c : ℕ) → b ≤ 0x477e_ffff → c ≡ max b 0x3f7f_0000 → slice c < 2048
slice_in b c h e = omega (arith, h, e)

module _ (b c : ℕ) (h : b ≤ 0x477e_ffff) (e : c ≡ max b 0x3f7f_0000) where
  abbrev i : ℕ
  i = slice c

  within : i < 2048
  within = slice_in b c h e

  from_start : entry (start i) ≤ b
  from_start = elim (eq-zero-or-pos i) [
    | inl z ↦ le_trans (le_of_eq (ap (λ (n : ℕ). entry (start n)) z ∙ ap entry first_start ∙ first)) zero-le
    | inr p ↦ omega (arith, e, at_most i within, p)
  ]

  pub stays : b < entry (start i + 1) → start i ≡ length_of (of_bits binary32 b)
  stays l = length_is (start i) b (omega (arith, below_255 i within)) (omega (arith, h)) from_start
      (λ g. omega (arith, l, same (start i)))

  pub goes_on : entry (start i + 1) ≤ b → start i + 1 ≡ length_of (of_bits binary32 b)
  goes_on l = length_is (start i + 1) b (omega (arith, below_255 i within)) (omega (arith, h)) l
      (λ g. omega (arith, h, e, no_third i within (omega (arith, g)), same_next (start i)))
