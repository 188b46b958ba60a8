-- The thresholds by whole numbers: the comparison grows with the pattern and turns at the table's entry, one
-- computed test for all entries; a least pattern is the
-- table's entry, and there is no other. Assumes nothing.
use Rattle.std.proofs.Common.{◌≡◌, ℕ, zero, suc, ◌+◌, ◌-◌, ◌*◌, ◌/◌, ◌%◌, ◌^◌, ◌<◌, ◌≤◌, Bool, true, false, not}
use Rattle.std.proofs.Common.{◌&&◌, ◌||◌, eqb, ltb, leb, List, [], ◌∷◌, get_or, sym, ap, ◌∙◌, subst, inl, inr}
use Rattle.std.proofs.Common.{le_trans, le_of_eq, lt_of_lt_of_le, le_of_suc-le-suc, mul-le-mul_right, mod-eq_of_lt}
use Rattle.std.proofs.Common.{zero-lt-suc, div-lt_iff_lt-mul, le_antisymm, mul-lt-mul_of_pos_right, mul-pos}
use Rattle.std.proofs.Common.{pow-suc, lt_of_not-le, arith, refl, eqb-true, T_not, pow_pos, pow_mono, pow-add}
use native.Mathlib.Nat.{pow-succ'}
use lib.Ieee.{size, binary32, of_bits}
use lib.Ieee.Digits.{size-lt, size-le}
use Rattle.numbers.specs.Lengths.{root, reaches}
use Rattle.numbers.specs.Table.{thresholds, Least}
use Rattle.numbers.specs.ThresholdSearch.{whole_reaches, Searched, hex_digit, hex_value, hex_before, hex_read}
use Rattle.numbers.proofs.Patterns.{number, val, val_mono}
use Rattle.numbers.proofs.TableLaws.{entry, finite, least_entry}
use Rattle.std.proofs.lemmas.Bool.{agree_below_at, and_parts, both_ways, cases_lt, leb-true, le-leb, ltb-true}
use Rattle.std.proofs.lemmas.Bool.{not-true, or_cases}

-- ---- the digits of k - 1
pub digits_are : (k j : ℕ) → 0 < k → k ≤ 2 ^ j → 2 ^ j < 2 * k → j ≡ size (k - 1)
digits_are k j K h l =
    le_antisymm (le_of_suc-le-suc (lt_of_not-le (λ (g : suc (size (k - 1)) ≤ j).
    absurd (omega (arith, size-lt (k - 1), le_trans (le_of_eq (sym (pow-succ' 2 (size (k - 1))))) (pow_mono g))))))
    (size-le (k - 1) j (omega arith))

at_most : (k j : ℕ) → 0 < k → j ≡ size (k - 1) → k ≤ 2 ^ j
at_most k j K e = omega (arith, subst (λ (z : ℕ). k - 1 < 2 ^ z) (sym e) (size-lt (k - 1)))

pub few : (k j : ℕ) → k < 256 → j ≡ size (k - 1) → j ≤ 8
few k j h e = le_trans (le_of_eq e) (size-le (k - 1) 8 (omega arith))

-- ---- the comparison fits 64 bits
module _ (k j b : ℕ) (s : Searched k j b) where
  abbrev K : ℕ
  K = k * 2 ^ (25 - j)

  pub j_in : j ≤ 8
  j_in = few k j s.small s.digits

  powers : 2 ^ j * 2 ^ (25 - j) ≡ 2 ^ 25
  powers = sym (pow-add 2 j (25 - j)) ∙ ap (λ (x : ℕ). 2 ^ x) (sum j j_in)
    where
      sum : (j : ℕ) → j ≤ 8 → j + (25 - j) ≡ 25
      sum j h = omega arith

  k_most : K ≤ 2 ^ 25
  k_most = le_trans (mul-le-mul_right (2 ^ (25 - j)) (at_most k j s.some s.digits)) (le_of_eq powers)

  k_whole : K % 4294967296 ≡ K
  k_whole = mod-eq_of_lt (omega (arith, k_most))

  pub k_some : 0 < K % 4294967296
  k_some = lt_of_lt_of_le (mul-pos s.some (pow_pos (25 - j))) (le_of_eq (sym k_whole))

  abbrev e : ℕ
  e = b / 8388608 - 100 - 2 * j

  abbrev q : ℕ
  q = 8388608 + b % 8388608

  q_whole : q * 2 ^ e % 18446744073709551616 ≡ q * 2 ^ e
  q_whole =
      mod-eq_of_lt (lt_of_lt_of_le (mul-lt-mul_of_pos_right (omega arith) (pow_pos e))
      (le_trans (le_of_eq (sym (pow-add 2 24 e))) (pow_mono {j = 64} (omega arith))))

  pub compared : leb ((K % 4294967296 - 1) * (K % 4294967296 - 1)) (q * 2 ^ e % 18446744073709551616)
      ≡ whole_reaches k j b
  unfolding whole_reaches
  compared = ap (λ (x : ℕ). leb ((x - 1) * (x - 1)) (q * 2 ^ e % 18446744073709551616)) k_whole
      ∙ ap (leb ((K - 1) * (K - 1))) q_whole

-- ---- it grows with the pattern: as the value of the pattern whose field is 99 + 2 * j less
abbrev less : ℕ → ℕ → ℕ
less j b = b - (99 + 2 * j) * 8388608

at_field : (x y t : ℕ) → x ≡ suc y → number x t ≡ (8388608 + t) * 2 ^ y
at_field zero y t e = absurd (omega arith)
at_field (suc x) y t e = ap (λ (z : ℕ). (8388608 + t) * 2 ^ z) (same x y e)
  where
    same : (x y : ℕ) → suc x ≡ suc y → x ≡ y
    same x y e = omega arith

valued : (j b : ℕ) → j ≤ 8 → 125 + 2 * j ≤ b / 8388608 → b < 2147483648 → val (less j b)
    ≡ (8388608 + b % 8388608) * 2 ^ (b / 8388608 - 100 - 2 * j)
valued j b J h l = at_field (less j b % 2147483648 / 8388608) (b / 8388608 - 100 - 2 * j) (less j b % 8388608)
    (omega arith) ∙ ap (λ (t : ℕ). (8388608 + t) * 2 ^ (b / 8388608 - 100 - 2 * j)) (fractions j b J h l)
  where
    fractions : (j b : ℕ) → j ≤ 8 → 125 + 2 * j ≤ b / 8388608 → b < 2147483648 → less j b % 8388608 ≡ b % 8388608
    fractions j b J h l = omega arith

grows : (k j b c : ℕ) → j ≤ 8 → 125 + 2 * j ≤ b / 8388608 → b ≤ c → c < 2147483648 → whole_reaches k j b ≡ true
    → whole_reaches k j c ≡ true
unfolding whole_reaches
grows k j b c J h l m t =
    le-leb _ _
    (le_trans (leb-true _ _ t)
    (le_trans (le_of_eq (sym (valued j b J h (omega arith))))
    (le_trans (val_mono (less j b) (less j c) (omega arith) (omega arith)) (le_of_eq (valued j c J (omega arith) m)))))

-- ---- it turns at the entry, which lies where it is looked for: a test of every entry
inside : ℕ → ℕ → Bool
inside j t = ltb ((125 + 2 * j) * 8388608) t && leb t ((127 + 2 * j) * 8388608)

turns : ℕ → ℕ → Bool
unfolding size whole_reaches inside
turns k t = eqb k 0 || (inside (size (k - 1)) t && (whole_reaches k (size (k - 1)) t
    && not (whole_reaches k (size (k - 1)) (t - 1))))

turns_test : (k : ℕ) → k < 256 → turns k (entry k) ≡ true
unfolding thresholds turns
turns_test k h = agree_below_at (λ q. turns q (entry q)) (λ _. true) 256 k refl h

pub record Turning (k j : ℕ) : Type 0 where
  pub from : (125 + 2 * j) * 8388608 < entry k
  pub to : entry k ≤ (127 + 2 * j) * 8388608
  pub own : whole_reaches k j (entry k) ≡ true
  pub before : whole_reaches k j (entry k - 1) ≡ false

turning_at : (k : ℕ) → 0 < k → k < 256 → Turning k (size (k - 1))
unfolding turns inside
turning_at k K h = elim (or_cases _ _ (turns_test k h)) [
  | inl z ↦ absurd (omega (arith, eqb-true k 0 z))
  | inr t ↦
      let i = and_parts _ _ (and_parts _ _ t).0 in
      let w = and_parts _ _ (and_parts _ _ t).1 in
      record { from = ltb-true _ _ i.0; to = leb-true _ _ i.1; own = w.0; before = not-true _ w.1 }
]

pub turning : (k j : ℕ) → 0 < k → k < 256 → j ≡ size (k - 1) → Turning k j
turning k j K h e = subst (λ (z : ℕ). Turning k z) (sym e) (turning_at k K h)

-- what the comparison says of a pattern and the entry
pub at_or_above : (k j m : ℕ) → Turning k j → k < 256 → j ≤ 8 → 125 + 2 * j ≤ m / 8388608 → whole_reaches k j m
    ≡ true → entry k ≤ m
at_or_above k j m t h J f e = elim (cases_lt m (entry k)) [
  | inl l ↦ absurd (both_ways _ t.before (grows k j m (entry k - 1) J f (omega arith) (omega (arith, finite k h)) e))
  | inr g ↦ g
]

pub below_it : (k j m : ℕ) → Turning k j → j ≤ 8 → m < 2147483648 → whole_reaches k j m ≡ false → m < entry k
below_it k j m t J l e = elim (cases_lt m (entry k)) [
  | inl b ↦ b
  | inr g ↦ absurd (both_ways _ e (grows k j (entry k) m J (omega arith) g l t.own))
]

-- ---- the table's entry is the least, and there is no other: the constant table equals what is worked out
pub least_only : (k s t : ℕ) → Least k s → Least k t → s ≡ t
least_only k s t a b = le_antisymm (no_less t s b a) (no_less s t a b)
  where
    no_less : (x y : ℕ) → Least k x → Least k y → y ≤ x
    no_less x y p q = elim (cases_lt x y)
        [ inl l ↦ absurd (T_not (reaches k (root (of_bits binary32 x))) (q.none_below x l) p.own) | inr g ↦ g ]

pub the_table : (k : ℕ) → k < 256 → Least k (get_or thresholds k 0) × ((t : ℕ) → Least k t → t ≡ get_or thresholds k 0)
the_table k h = (least_entry k h, λ t l. least_only k t (entry k) l (least_entry k h))

-- ---- the line: its digits stand for the number
value_test : ℕ → Bool
value_test d = eqb (hex_value (hex_digit d)) d

value_back : (d : ℕ) → d < 16 → hex_value (hex_digit d) ≡ d
unfolding value_test
value_back d h = eqb-true (hex_value (hex_digit d)) d (agree_below_at value_test (λ _. true) 16 d refl h)

-- digits in front of others: the number above them, then they
read_before : (w n : ℕ) (rest : List ℕ) → n < 16 ^ w → hex_read 0 (hex_before w n rest) ≡ hex_read n rest
read_before zero n rest h = let none : 0 ≡ n = omega arith in ap (λ (x : ℕ). hex_read x rest) none
read_before (suc w) n rest h =
    let whole : n / 16 * 16 + n % 16 ≡ n = omega arith in
    read_before w (n / 16) (hex_digit (n % 16) ∷ rest)
    ((div-lt_iff_lt-mul (zero-lt-suc 15)).1 (lt_of_lt_of_le h (le_of_eq (pow-suc 16 w))))
    ∙ ap (λ (x : ℕ). hex_read (n / 16 * 16 + x) rest) (value_back (n % 16) (omega arith))
    ∙ ap (λ (x : ℕ). hex_read x rest) whole

pub digits_back : (n : ℕ) → n < 2 ^ 32 → hex_read 0 (hex_before 8 n []) ≡ n
digits_back n h = read_before 8 n [] h

-- for the functions
pub ruleset reach_laws = (j_in, k_some, compared)

pub ruleset turning_laws = (least_entry, turning, at_or_above, below_it)
