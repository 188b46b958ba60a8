-- Counting labels below a bound, and adding labels up.
use Prim.Native.Nat.{ℕ, zero, suc, ◌+◌, ◌<◌, ◌≤◌}
use native.Mathlib.Omega.{arith}
use mathlib.Core.Path.{◌≡◌, refl}
use mathlib.Core.Bool.{Bool, true, false}
use mathlib.Core.Logic.{⊎_elim}
use lib.Dec.{ltb}
use borrow.Author.Tests.{ltb-true, lt-ltb, le-ltb}
use Rattle.std.proofs.lemmas.Bool.{cases_eq}
use Rattle.cells.specs.Order.{one_if}
use Rattle.paths.specs.Labels.{lower, total}

one_le : (t : Bool) (x : ℕ) → one_if t x ≤ x + 1
one_le true x = omega arith
one_le false x = omega arith

le_one : (t : Bool) (x : ℕ) → x ≤ one_if t x
le_one true x = omega arith
le_one false x = omega arith

pub lower_le : (d : ℕ → ℕ) (k n : ℕ) → lower d k n ≤ n
unfolding lower
lower_le d k zero = omega arith
lower_le d k (suc n) = omega (arith, one_le (ltb (d n) k) (lower d k n), lower_le d k n)

-- the place v itself is not below its label
pub lower_lt : (d : ℕ → ℕ) (k n v : ℕ) → v < n → k ≤ d v → lower d k n < n
unfolding lower
lower_lt d k zero v lt h = absurd (omega arith)
lower_lt d k (suc n) v lt h = ⊎_elim here (there (λ l. lower_lt d k n v l h)) (cases_eq v n)
  where
    here : v ≡ n → lower d k (suc n) < suc n
    here e = rw (le-ltb (d n) k (rw e at h)) (omega (arith, lower_le d k n))

    there : (v < n → lower d k n < n) → (v ≡ n → ⊥) → lower d k (suc n) < suc n
    there ih ne = omega (arith, one_le (ltb (d n) k) (lower d k n), ih (omega arith))

module _ (d e : ℕ → ℕ) (k l : ℕ) (kl : k ≤ l) where
  one_grows : (x : ℕ) (a b : ℕ) → e x ≤ d x → a ≤ b → one_if (ltb (d x) k) a ≤ one_if (ltb (e x) l) b
  one_grows x a b h ab = go (ltb (d x) k) refl
    where
      go : (t : Bool) → ltb (d x) k ≡ t → one_if t a ≤ one_if (ltb (e x) l) b
      go true q = rw (lt-ltb (e x) l (omega (arith, ltb-true (d x) k q))) (omega arith)
      go false q = omega (arith, le_one (ltb (e x) l) b)

  -- labels that fell, below a bound that did not: no fewer
  pub lower_grows : (n : ℕ) → ((x : ℕ) → x < n → e x ≤ d x) → lower d k n ≤ lower e l n
  unfolding lower
  lower_grows zero h = omega arith
  lower_grows (suc n) h = one_grows n (lower d k n) (lower e l n) (h n (omega arith))
      (lower_grows n (λ x lt. h x (omega arith)))

  -- and one more, if one that was not below is now
  pub lower_more : (n : ℕ) → ((x : ℕ) → x < n → e x ≤ d x) → (u : ℕ) → u < n → k ≤ d u → e u < l → lower d k n + 1
      ≤ lower e l n
  unfolding lower
  lower_more zero h u lt hk hl = absurd (omega arith)
  lower_more (suc n) h u lt hk hl = ⊎_elim here (there (λ l. lower_more n (λ x lt. h x (omega arith)) u l hk hl))
      (cases_eq u n)
    where
      here : u ≡ n → lower d k (suc n) + 1 ≤ lower e l (suc n)
      here q =
          rw (le-ltb (d n) k (rw q at hk), lt-ltb (e n) l (rw q at hl))
          (omega (arith, lower_grows n (λ x lt. h x (omega arith))))

      there : (u < n → lower d k n + 1 ≤ lower e l n) → (u ≡ n → ⊥) → lower d k (suc n) + 1 ≤ lower e l (suc n)
      there f ne = more (ltb (d n) k) refl
        where
          ih : lower d k n + 1 ≤ lower e l n
          ih = f (omega arith)

          more : (t : Bool) → ltb (d n) k ≡ t → one_if t (lower d k n) + 1 ≤ one_if (ltb (e n) l) (lower e l n)
          more true q = rw (lt-ltb (e n) l (omega (arith, ltb-true (d n) k q, h n (omega arith)))) (omega (arith, ih))
          more false q = omega (arith, ih, le_one (ltb (e n) l) (lower e l n))

module _ (d e : ℕ → ℕ) where
  pub total_le : (n : ℕ) → ((x : ℕ) → x < n → e x ≤ d x) → total e n ≤ total d n
  unfolding total
  total_le zero h = omega arith
  total_le (suc n) h = omega (arith, h n (omega arith), total_le n (λ x lt. h x (omega arith)))

  -- one label fell
  pub total_falls : (n : ℕ) → ((x : ℕ) → x < n → e x ≤ d x) → (v : ℕ) → v < n → e v < d v → total e n < total d n
  unfolding total
  total_falls zero h v lt f = absurd (omega arith)
  total_falls (suc n) h v lt f = ⊎_elim here (there (λ l. total_falls n (λ x lt. h x (omega arith)) v l f))
      (cases_eq v n)
    where
      here : v ≡ n → total e (suc n) < total d (suc n)
      here q = let g : e n < d n = rw q at f in omega (arith, total_le n (λ x lt. h x (omega arith)))

      there : (v < n → total e n < total d n) → (v ≡ n → ⊥) → total e (suc n) < total d (suc n)
      there ih ne = omega (arith, h n (omega arith), ih (omega arith))
