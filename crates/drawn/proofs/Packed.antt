-- Ranges that are inside a list of l and apart hold at most l entries: each entry is counted once.
-- Assumes nothing.
use Prim.Native.Nat.{ℕ, zero, suc, ◌+◌, ◌-◌, ◌≤◌, ◌<◌, min}
use native.Mathlib.Omega.{arith}
use mathlib.Core.Path.{◌≡◌, refl, sym}
use mathlib.Core.Bool.{cond}
use mathlib.Core.Logic.{◌⊎◌, inl, inr, ⊎_elim}
use lib.Dec.{ltb, leb}
use borrow.Author.Tests.{ltb-true, ltb-false, leb-true, leb-false}
use Rattle.cells.specs.Lists.{sum_to}
use Rattle.cells.proofs.Sequences.Tests.{by_test}
use Rattle.cells.proofs.WritingBack.BackCheck.{sum_same}
use Rattle.drawn.specs.Separate.{Separate}

-- ---- sums

sum_none : (f : ℕ → ℕ) (n : ℕ) → ((i : ℕ) → i < n → f i ≡ 0) → sum_to f n ≡ 0
unfolding sum_to
sum_none f zero h = refl
sum_none f (suc n) h = omega (arith, sum_none f n (λ i lt. h i (omega arith)), h n (omega arith))

pub sum_most : (f g : ℕ → ℕ) (n : ℕ) → ((i : ℕ) → i < n → f i ≤ g i) → sum_to f n ≤ sum_to g n
unfolding sum_to
sum_most f g zero h = omega arith
sum_most f g (suc n) h = omega (arith, sum_most f g n (λ i lt. h i (omega arith)), h n (omega arith))

sum_ones : (f : ℕ → ℕ) (n : ℕ) → ((i : ℕ) → f i ≤ 1) → sum_to f n ≤ n
unfolding sum_to
sum_ones f zero h = omega arith
sum_ones f (suc n) h = omega (arith, sum_ones f n h, h n)

sum_both : (f g : ℕ → ℕ) (n : ℕ) → sum_to (λ i. f i + g i) n ≡ sum_to f n + sum_to g n
unfolding sum_to
sum_both f g zero = refl
sum_both f g (suc n) = omega (arith, sum_both f g n)

sum_swap : (f : ℕ → ℕ → ℕ) (n l : ℕ) → sum_to (λ i. sum_to (f i) l) n ≡ sum_to (λ k. sum_to (λ i. f i k) n) l
unfolding sum_to
sum_swap f zero l = sym (sum_none (λ k. 0) l (λ i lt. refl))
sum_swap f (suc n) l = omega (arith, sum_swap f n l, sum_both (λ k. sum_to (λ i. f i k) n) (f n) l)

-- ---- an entry in a range

-- 1 if the entry k is one of c from s on
hit : ℕ → ℕ → ℕ → ℕ
hit s c k = cond (leb s k) (cond (ltb k (s + c)) 1 0) 0

hit_in : (s c k : ℕ) → s ≤ k → k < s + c → hit s c k ≡ 1
unfolding hit
hit_in s c k a b = by_test (leb s k)
    (λ t. by_test (ltb k (s + c)) (λ u. rw (t, u)) (λ u. absurd (omega (arith, ltb-false k (s + c) u))))
    (λ t. absurd (omega (arith, leb-false s k t)))

hit_out : (s c k : ℕ) → (k < s) ⊎ (s + c ≤ k) → hit s c k ≡ 0
unfolding hit
hit_out s c k h = by_test (leb s k)
    (λ t. by_test (ltb k (s + c)) (λ u. ⊎_elim (λ z. absurd (omega (arith, leb-true s k t)))
    (λ z. absurd (omega (arith, ltb-true k (s + c) u))) h) (λ u. rw (t, u)))
    (λ t. rw t)

-- by whether it is
by_hit : {P : Type 0} (s c k : ℕ) → (s ≤ k → k < s + c → P) → ((k < s) ⊎ (s + c ≤ k) → P) → P
by_hit s c k yes' no' = by_test (leb s k)
    (λ t. by_test (ltb k (s + c)) (λ u. yes' (leb-true s k t) (ltb-true k (s + c) u))
    (λ u. no' (inr (ltb-false k (s + c) u))))
    (λ t. no' (inl (leb-false s k t)))

hit_most : (s c k : ℕ) → hit s c k ≤ 1
hit_most s c k = by_hit s c k (λ a b. omega (arith, hit_in s c k a b)) (λ h. omega (arith, hit_out s c k h))

-- a range's entries among the first l
hits : (s c l : ℕ) → sum_to (hit s c) l ≡ min c (l - s)
unfolding sum_to
hits s c zero = omega arith
hits s c (suc l) = by_hit s c l
    (λ a b. omega (arith, hits s c l, hit_in s c l a b))
    (λ h. ⊎_elim (λ z. omega (arith, hits s c l, hit_out s c l (inl z)))
    (λ z. omega (arith, hits s c l, hit_out s c l (inr z))) h)

module _ (s c : ℕ → ℕ) (n l : ℕ) (h : Separate s c n l) where
  -- no entry is in two ranges
  one_hit : (k m : ℕ) → m ≤ n → sum_to (λ i. hit (s i) (c i) k) m ≤ 1
  unfolding sum_to
  one_hit k zero le = omega arith
  one_hit k (suc m) le = by_hit (s m) (c m) k
      (λ a b. omega (
        arith,
        hit_in (s m) (c m) k a b,
        sum_none (λ i. hit (s i) (c i) k) m (λ i lt.
            by_hit (s i) (c i) k
            (λ x y. absurd (⊎_elim (λ z. omega arith) (λ z. omega arith)
            (h.apart i m (omega arith) (omega arith) (λ e. absurd (omega (arith, e))) (omega arith)
            (omega arith))))
            (λ z. hit_out (s i) (c i) k z)),
      ))
      (λ z. omega (arith, hit_out (s m) (c m) k z, one_hit k m (omega arith)))

  all_hit : (i : ℕ) → i < n → c i ≡ sum_to (hit (s i) (c i)) l
  all_hit i lt = by_test (ltb 0 (c i))
      (λ t. omega (arith, hits (s i) (c i) l, h.inside i lt (ltb-true 0 (c i) t)))
      (λ f. omega (arith, hits (s i) (c i) l, ltb-false 0 (c i) f))

  pub packed : sum_to c n ≤ l
  packed = omega (
    arith,
    sum_same c (λ i. sum_to (hit (s i) (c i)) l) n all_hit,
    sum_swap (λ i. hit (s i) (c i)) n l,
    sum_ones (λ k. sum_to (λ i. hit (s i) (c i) k) n) l (λ k. one_hit k n (omega arith)),
  )
