-- The root that lengths are defined by is IEEE 754's, as the machine takes it (lib.Ieee `sqrt`, which is told 2271
-- binary places of it). Assumes nothing.
use Rattle.std.proofs.Common.{◌≡◌, ℕ, zero, suc, ◌+◌, ◌*◌, ◌/◌, ◌^◌, ◌≤◌, true, false, cond, T, eqb, leb, ℤ}
use Rattle.std.proofs.Common.{refl, ap, ◌∙◌, sym, add-one, le_trans, mul-le-mul_right, mul_assoc, mul_right_comm}
use Rattle.std.proofs.Common.{mul-one, div-one, zero-lt-suc, lit≤, pow_pos, arith, pos, ◌<◌, zero-mul, mul-pos}
use lib.Ieee.{Float, nan, inf, fin, binary32, up, down, size, fits, round, root_below, root_twice, sqrt}
use lib.Ieee.Fits.{down_pos}
use lib.Ieee.Nearest.{div_same}
use Rattle.numbers.specs.Lengths.{whole_root, root_of, root}
use Rattle.numbers.proofs.Patterns.{unsigned}
use Rattle.numbers.proofs.Units.{units_of}
use Rattle.numbers.proofs.Roots.{stick, root_scaled}
use Rattle.numbers.proofs.TableLaws.{root_of_value}

-- ---- twice the root, by either definition
below_is : (d n : ℕ) → root_below d n ≡ whole_root d n
unfolding root_below whole_root
below_is zero n = refl
below_is (suc d) n =
    ap (λ (r : ℕ). cond (leb ((2 * r + 1) * (2 * r + 1)) n) (2 * r + 1) (2 * r)) (below_is d (n / 4))
    ∙ ap (λ (s : ℕ). cond (leb (s * s) n) s (2 * whole_root d (n / 4))) (add-one (2 * whole_root d (n / 4)))

twice_is : (n : ℕ) → root_twice n ≡ stick n
unfolding root_twice
twice_is n = ap (λ (r : ℕ). 2 * r + cond (eqb (r * r) n) 0 1) (below_is (size n) n)

-- ---- v units of 2 ^ -149
many : (v : ℕ) → 2 ^ 48 ≤ suc v * 2 ^ 149
many v = le_trans (lit≤ tt) (mul-le-mul_right {m = 1} (2 ^ 149) (omega arith))

digits : (m : ℕ) (e : ℤ) (v : ℕ) → m * up e * 2 ^ 149 ≡ v * down e
    → m * up e * 2 ^ 4542 / down e ≡ v * 2 ^ 149 * (2 ^ 2122 * 2 ^ 2122)
digits m e v h =
    div_same (m * up e * 2 ^ 4542) (down e) (v * 2 ^ 149 * (2 ^ 2122 * 2 ^ 2122)) 1 (down_pos e) (zero-lt-suc 0)
    (mul-one (m * up e * 2 ^ 4542)
    ∙ sym (mul_assoc (m * up e) (2 ^ 149) (2 ^ 149 * (2 ^ 2122 * 2 ^ 2122)))
    ∙ ap (λ (x : ℕ). x * (2 ^ 149 * (2 ^ 2122 * 2 ^ 2122))) h
    ∙ mul_right_comm v (down e) (2 ^ 149 * (2 ^ 2122 * 2 ^ 2122))
    ∙ ap (λ (x : ℕ). x * down e) (sym (mul_assoc v (2 ^ 149) (2 ^ 2122 * 2 ^ 2122))))
    ∙ div-one (v * 2 ^ 149 * (2 ^ 2122 * 2 ^ 2122))

positive_root : (m : ℕ) (e : ℤ) (v : ℕ) → suc m * up e * 2 ^ 149 ≡ suc v * down e
    → sqrt binary32 (fin false (suc m) e) ≡ root (fin false (suc m) e)
unfolding sqrt
positive_root m e v h =
    ap (λ (n : ℕ). round binary32 false (root_twice n) (2 ^ 2272)) (digits (suc m) e (suc v) h)
    ∙ ap (λ (n : ℕ). round binary32 false n (2 ^ 2272)) (twice_is (suc v * 2 ^ 149 * (2 ^ 2122 * 2 ^ 2122)))
    ∙ sym (root_scaled (suc v * 2 ^ 149) (2 ^ 2122) (pow_pos 2122) (many v))
    ∙ sym (root_of_value (fin false (suc m) e) (suc v) (refl, h))

-- the unit's count is above zero
at_units : (m : ℕ) (e : ℤ) (v : ℕ) → suc m * up e * 2 ^ 149 ≡ v * down e → 0 < v
    → sqrt binary32 (fin false (suc m) e) ≡ root (fin false (suc m) e)
at_units m e zero h l = absurd (omega arith)
at_units m e (suc v) h l = positive_root m e v h

zero_root : (e : ℤ) → root (fin false 0 e) ≡ fin false 0 (pos 0)
unfolding root root_of whole_root
zero_root e = root_of_value (fin false 0 e) 0
    (refl, ap (λ (n : ℕ). n * 2 ^ 149) (zero-mul (up e)) ∙ sym (zero-mul (down e)))

pub root_is : (x : Float) → T (fits binary32 x) → T (unsigned x) → sqrt binary32 x ≡ root x
unfolding sqrt root
root_is nan f u = refl
root_is (inf false) f u = refl
root_is (inf true) f u = absurd u
root_is (fin true m e) f u = absurd u
root_is (fin false zero e) f u = sym (zero_root e)
root_is (fin false (suc m) e) f u =
    let p = units_of false (suc m) e f in
    at_units m e (suc m * 2 ^ p.j) p.value (mul-pos (zero-lt-suc m) (pow_pos p.j))
