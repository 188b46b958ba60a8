-- Patterns without a sign are ordered as the f32s that they stand for. Assumes nothing.
use Rattle.std.proofs.Common.{◌≡◌, ℕ, ◌*◌, ◌^◌, ◌<◌, ◌≤◌, Bool, true, false, not, T, leb, sym, refl, ap}
use Rattle.std.proofs.Common.{◌∙◌, subst, inl, inr, lt_of_lt_of_le}
use Rattle.std.proofs.Common.{eq-or-lt_of_le, mul-lt-mul_of_pos_right, lt_of_not-le, not-le_of_lt, arith}
use Rattle.std.proofs.Common.{ltb→lt, lt→ltb, leb→le, pow_pos, ltb, eqb, ◌&&◌, ◌||◌}
use Rattle.std.proofs.lemmas.Bool.Decides.{nat_tests}
use Rattle.std.proofs.lemmas.Float as floats
use lib.Ieee.{Float, nan, inf, fin, binary32, up, down, lt, le, fits, is_nan, of_bits, to_bits}
use lib.Ieee.Bits.{of_bits-to_bits}
use lib.Ieee.Exact.{HasValue}
use lib.Ieee.Fits.{down_pos}
use lib.Ieee.Order.{transfer}
use Rattle.numbers.specs.Cases.{sign}
use Rattle.numbers.proofs.Patterns.{val, val_strict, finite_value, unsigned, pattern_in}
use Rattle.std.proofs.lemmas.Bool.{cases_lt}

-- ---- `<=` of two values with no sign, as their fractions
pub lt_or_eq : (a b : ℕ) → T (ltb a b || (eqb a b && true)) → a ≤ b
lt_or_eq a b t = grind (arith, nat_tests)

-- ---- a finite pattern without a sign
plus : (b : ℕ) → b < 2139095040 → sign b ≡ false
plus b h = no (leb 2147483648 b) (leb→le 2147483648 b)
  where
    no : (t : Bool) → (T t → 2147483648 ≤ b) → t ≡ false
    no true f = absurd (omega (arith, f tt))
    no false f = refl

pub plain : (b : ℕ) → b < 2139095040 → HasValue (of_bits binary32 b) false (val b) (2 ^ 149)
plain b h = subst (λ (s : Bool). HasValue (of_bits binary32 b) s (val b) (2 ^ 149)) (plus b h)
    (finite_value b (omega arith))

infinity : of_bits binary32 2139095040 ≡ inf false
unfolding of_bits
infinity = refl

value_unsigned : (x : Float) (a c : ℕ) → HasValue x false a c → T (unsigned x)
value_unsigned nan a c h = absurd h
value_unsigned (inf s) a c h = absurd h
value_unsigned (fin true m e) a c h = absurd (subst T h.0 tt)
value_unsigned (fin false m e) a c h = tt

pub bits_unsigned : (b : ℕ) → b ≤ 2139095040 → T (unsigned (of_bits binary32 b))
bits_unsigned b h = elim (eq-or-lt_of_le h) [
  | inl e ↦ subst (λ (x : Float). T (unsigned x)) (sym (ap (of_bits binary32) e ∙ infinity)) tt
  | inr l ↦ value_unsigned (of_bits binary32 b) (val b) (2 ^ 149) (plain b l)
]

-- ---- `<`
lt_of_values : (x y : Float) (a b c : ℕ) → 0 < c → HasValue x false a c → HasValue y false b c → a < b → T (lt x y)
unfolding lt
lt_of_values nan y a b c C p q h = absurd p
lt_of_values (inf s) y a b c C p q h = absurd p
lt_of_values (fin true m e) y a b c C p q h = absurd (subst T p.0 tt)
lt_of_values (fin false m e) nan a b c C p q h = absurd q
lt_of_values (fin false m e) (inf s) a b c C p q h = absurd q
lt_of_values (fin false m e) (fin true n d) a b c C p q h = absurd (subst T q.0 tt)
lt_of_values (fin false m e) (fin false n d) a b c C p q h =
    lt→ltb (m * up e * down d) (n * up d * down e)
    (lt_of_not-le (λ (g : n * up d * down e ≤ m * up e * down d). not-le_of_lt (mul-lt-mul_of_pos_right h C)
    (transfer b a c c (n * up d) (m * up e) (down d) (down e) (down_pos d) (down_pos e) (sym q.1) (sym p.1) g)))

lt_infinity : (x : Float) (a c : ℕ) → HasValue x false a c → T (lt x (inf false))
unfolding lt
lt_infinity nan a c p = absurd p
lt_infinity (inf s) a c p = absurd p
lt_infinity (fin s m e) a c p = tt

pub bits_lt : (b c : ℕ) → b < c → c ≤ 2139095040 → T (lt (of_bits binary32 b) (of_bits binary32 c))
bits_lt b c h l = elim (eq-or-lt_of_le l) [
  | inl e ↦ subst (λ (x : Float). T (lt (of_bits binary32 b) x)) (sym (ap (of_bits binary32) e ∙ infinity))
      (lt_infinity (of_bits binary32 b) (val b) (2 ^ 149) (plain b (lt_of_lt_of_le h l)))
  | inr g ↦ lt_of_values (of_bits binary32 b) (of_bits binary32 c) (val b) (val c) (2 ^ 149) (pow_pos 149)
      (plain b (omega arith)) (plain c g) (val_strict b c h (omega arith))
]

-- not both `y < x` and `x <= y`
pub clash : (x y : Float) → T (unsigned x) → T (unsigned y) → T (lt y x) → T (le x y) → ⊥
unfolding lt le
clash nan y u v h l = l
clash (inf true) y u v h l = u
clash (inf false) nan u v h l = h
clash (inf false) (inf true) u v h l = v
clash (inf false) (inf false) u v h l = h
clash (inf false) (fin true n d) u v h l = v
clash (inf false) (fin false n d) u v h l = l
clash (fin true m e) y u v h l = u
clash (fin false m e) nan u v h l = h
clash (fin false m e) (inf true) u v h l = v
clash (fin false m e) (inf false) u v h l = h
clash (fin false m e) (fin true n d) u v h l = v
clash (fin false m e) (fin false n d) u v h l =
    not-le_of_lt (ltb→lt (n * up d * down e) (m * up e * down d) h)
    (lt_or_eq (m * up e * down d) (n * up d * down e) l)

pub lt_bits : (b c : ℕ) → b ≤ 2139095040 → c ≤ 2139095040 → T (lt (of_bits binary32 b) (of_bits binary32 c)) → b < c
lt_bits b c p q t = elim (cases_lt b c) [
  | inl h ↦ h
  | inr g ↦ absurd (elim (eq-or-lt_of_le g) [
    | inl e ↦ itself (subst (λ (x : ℕ). T (lt (of_bits binary32 b) (of_bits binary32 x))) e t)
    | inr l ↦ clash (of_bits binary32 b) (of_bits binary32 c) (bits_unsigned b p) (bits_unsigned c q)
        (bits_lt c b l p) (floats.le_of_lt (of_bits binary32 b) (of_bits binary32 c) t)
  ])
]
  where
    itself : T (lt (of_bits binary32 b) (of_bits binary32 b)) → ⊥
    itself s =
        clash (of_bits binary32 b) (of_bits binary32 b) (bits_unsigned b p) (bits_unsigned b p) s
        (floats.le_of_lt (of_bits binary32 b) (of_bits binary32 b) s)

-- ---- a pattern from its f32
pub pattern_of : (x : Float) → T (fits binary32 x) → T (unsigned x) → T (not (is_nan x)) → to_bits binary32 x
    ≤ 2139095040
pattern_of x f u n =
    pattern_in (to_bits binary32 x) (subst (λ (v : Float). T (unsigned v)) (sym (of_bits-to_bits binary32 x f)) u)
    (subst (λ (v : Float). T (not (is_nan v))) (sym (of_bits-to_bits binary32 x f)) n)
