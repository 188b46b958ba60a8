-- The table's rule: for every pattern from +0 to the infinity, its rounded root is k or more exactly where the
-- pattern is entry k or more. One computed test at the
-- entries, and that the rounded root grows with the pattern. Assumes nothing.
use Rattle.std.proofs.Common.{◌≡◌, ℕ, suc, ◌-◌, ◌*◌, ◌/◌, ◌^◌, ◌<◌, ◌≤◌, min, Bool, true, false, not, ◌&&◌}
use Rattle.std.proofs.Common.{◌||◌, T, eqb, ltb, leb, ◌⊎◌, get_or, sym, refl, ap, ◌∙◌, subst, inl}
use Rattle.std.proofs.Common.{inr, le_trans, le_of_eq, le_of_lt, mul-le-mul_right, zero-lt-suc, mul_assoc}
use Rattle.std.proofs.Common.{div-lt_iff_lt-mul, eq-or-lt_of_le, le-div_iff_mul-le, mul-one, mul_right_comm}
use Rattle.std.proofs.Common.{le_of_mul-le-mul_right, div-one, arith, le→leb, leb→le, T_not}
use lib.Dec.{nleb→lt, not_T}
use lib.Ieee.{Float, nan, inf, fin, binary32, up, down, of_bits, le}
use lib.Ieee.Fits.{down_pos}
use lib.Ieee.Exact.{HasValue}
use lib.Ieee.Nearest.{div_same}
use Rattle.numbers.specs.Lengths.{root_of, root, reaches, capped, length_of}
use Rattle.numbers.specs.Table.{thresholds, Least}
use borrow.Author.Tests.{eqb-true, ltb-true}
use Rattle.numbers.proofs.Patterns.{val, val_mono, unsigned}
use Rattle.numbers.proofs.Orders.{plain, lt_or_eq}
use Rattle.numbers.proofs.Roots.{root_of_mono, no_sign}
use Rattle.std.proofs.lemmas.Bool.{agree_below_at, and_parts, cases_lt, or_cases}
use Rattle.std.proofs.lemmas.Float.{T_from_true}

-- The test of entry k: it is a finite f32's, its own root reaches k, and that of the pattern before it does not.
unfoldable least : ℕ → ℕ → Bool
unfolding root reaches of_bits
least k t = ltb t 0x7f80_0000 && reaches k (root (of_bits binary32 t))
    && (eqb k 0 || not (reaches k (root (of_bits binary32 (t - 1)))))

abbrev pub entry : ℕ → ℕ
entry k = get_or thresholds k 0

test : (k : ℕ) → k < 256 → least k (entry k) ≡ true
unfolding thresholds least
test k h = agree_below_at (λ q. least q (entry q)) (λ _. true) 256 k refl h

-- ---- the root of a pattern
pub root_of_value : (x : Float) (v : ℕ) → HasValue x false v (2 ^ 149) → root x ≡ root_of (v * 2 ^ 149)
unfolding root
root_of_value nan v h = absurd h
root_of_value (inf s) v h = absurd h
root_of_value (fin true m e) v h = absurd (subst T h.0 tt)
root_of_value (fin false m e) v h =
    ap root_of (div_same (m * up e * 2 ^ 298) (down e) (v * 2 ^ 149) 1 (down_pos e) (zero-lt-suc 0)
    (mul-one (m * up e * 2 ^ 298) ∙ sym (mul_assoc (m * up e) (2 ^ 149) (2 ^ 149))
    ∙ ap (λ (n : ℕ). n * 2 ^ 149) h.1 ∙ mul_right_comm v (down e) (2 ^ 149)) ∙ div-one (v * 2 ^ 149))

pub root_at : (b : ℕ) → b < 2139095040 → root (of_bits binary32 b) ≡ root_of (val b * 2 ^ 149)
root_at b h = root_of_value (of_bits binary32 b) (val b) (plain b h)

-- ---- what is at least as large reaches what was reached
carry : (k : ℕ) (x y : Float) → T (unsigned y) → T (le x y) → T (reaches k x) → T (reaches k y)
unfolding le reaches
carry k nan y u h r = absurd r
carry k (inf true) y u h r = absurd r
carry k (inf false) nan u h r = absurd h
carry k (inf false) (inf true) u h r = absurd u
carry k (inf false) (inf false) u h r = tt
carry k (inf false) (fin t n d) u h r = absurd h
carry k (fin true m e) y u h r = absurd r
carry k (fin false m e) nan u h r = absurd h
carry k (fin false m e) (inf true) u h r = absurd u
carry k (fin false m e) (inf false) u h r = tt
carry k (fin false m e) (fin true n d) u h r = absurd u
carry k (fin false m e) (fin false n d) u h r =
    le→leb (k * down d) (n * up d) (cross k (down e) (down d) (m * up e) (n * up d) (down_pos e)
    (leb→le (k * down e) (m * up e) r) (lt_or_eq (m * up e * down d) (n * up d * down e) h))
  where
    cross : (k e d a b : ℕ) → 0 < e → k * e ≤ a → a * d ≤ b * e → k * d ≤ b
    cross k e d a b E p q = le_of_mul-le-mul_right
        (le_trans (le_of_eq (mul_right_comm k d e)) (le_trans (mul-le-mul_right d p) q)) E

at_infinity : (k : ℕ) → T (reaches k (root (of_bits binary32 2139095040)))
unfolding root reaches of_bits
at_infinity k = tt

pub reach_mono : (k b c : ℕ) → b ≤ c → c ≤ 2139095040 → T (reaches k (root (of_bits binary32 b)))
    → T (reaches k (root (of_bits binary32 c)))
reach_mono k b c h l r = elim (eq-or-lt_of_le l) [
  | inl e ↦ subst (λ (x : ℕ). T (reaches k (root (of_bits binary32 x)))) (sym e) (at_infinity k)
  | inr g ↦
      subst (λ (x : Float). T (reaches k x)) (sym (root_at c g))
      (carry k (root_of (val b * 2 ^ 149)) (root_of (val c * 2 ^ 149)) (no_sign (val c * 2 ^ 149))
      (root_of_mono (val b) (val c) (val_mono b c h (omega arith)))
      (subst (λ (x : Float). T (reaches k x)) (root_at b (omega arith)) r))
]

-- ---- the rule
pub finite : (k : ℕ) → k < 256 → entry k < 2139095040
unfolding least
finite k h = ltb-true (entry k) 2139095040 (and_parts _ _ (and_parts _ _ (test k h)).0).0

pub reached : (k b : ℕ) → k < 256 → b ≤ 2139095040 → entry k ≤ b → T (reaches k (root (of_bits binary32 b)))
unfolding least
reached k b h l e = reach_mono k (entry k) b e l (T_from_true _ (and_parts _ _ (and_parts _ _ (test k h)).0).1)

pub first : (b : ℕ) → b < entry 0 → ⊥
unfolding thresholds
first b h = omega arith

pub missed : (k b : ℕ) → k < 256 → b < entry k → T (not (reaches k (root (of_bits binary32 b))))
unfolding least
missed k b h l = elim (or_cases _ _ (and_parts _ _ (test k h)).1) [
  | inl z ↦ absurd (first b (subst (λ (x : ℕ). b < entry x) (eqb-true k 0 z) l))
  | inr n ↦ not_T (reaches k (root (of_bits binary32 b)))
      (λ (r : T (reaches k (root (of_bits binary32 b)))). T_not (reaches k (root (of_bits binary32 (entry k - 1))))
      (T_from_true _ n) (reach_mono k b (entry k - 1) (omega arith) (omega (arith, finite k h)) r))
]

-- ---- from the rule to the length
capped_is : (r : ℕ) (x : Float) → r < 256 → T (reaches r x) → (r ≡ 255) ⊎ T (not (reaches (suc r) x)) → r ≡ capped x
unfolding reaches capped
capped_is r nan h y n = absurd y
capped_is r (inf true) h y n = absurd y
capped_is r (inf false) h y (inl e) = e
capped_is r (inf false) h y (inr n) = absurd n
capped_is r (fin true m e) h y n = absurd y
capped_is r (fin false m e) h y n = top r (m * up e / down e) h
    ((le-div_iff_mul-le (down_pos e)).1 (leb→le (r * down e) (m * up e) y)) (side n)
  where
    side : (r ≡ 255) ⊎ T (not (leb (suc r * down e) (m * up e))) → (r ≡ 255) ⊎ (m * up e / down e < suc r)
    side (inl z) = inl z
    side (inr z) = inr ((div-lt_iff_lt-mul (down_pos e)).1 (nleb→lt (suc r * down e) (m * up e) z))

    top : (r a : ℕ) → r < 256 → r ≤ a → (r ≡ 255) ⊎ (a < suc r) → r ≡ min a 255
    top r a h l (inl e) = omega arith
    top r a h l (inr e) = omega arith

pub length_is : (r b : ℕ) → r < 256 → b ≤ 2139095040 → entry r ≤ b → (suc r < 256 → b < entry (suc r)) → r
    ≡ length_of (of_bits binary32 b)
unfolding length_of
length_is r b h l e n = capped_is r (root (of_bits binary32 b)) h (reached r b h l e) (side (cases_lt (suc r) 256))
  where
    side : (suc r < 256) ⊎ (256 ≤ suc r) → (r ≡ 255) ⊎ T (not (reaches (suc r) (root (of_bits binary32 b))))
    side (inl g) = inr (missed (suc r) b g (n g))
    side (inr g) = inl (omega arith)

-- ---- the rule, for all entries together
pub least_entry : (k : ℕ) → k < 256 → Least k (entry k)
least_entry k h = record {
  own = reached k (entry k) h (le_of_lt (finite k h)) (le_of_eq refl);
  none_below = λ b l.
      missed k b h l;
}
