-- How many elements before a place pass a test, and lists of what a function gives at each place.
-- Assumes nothing.
use Prim.Native.Nat.{ℕ, zero, suc, ◌+◌, ◌≤◌, ◌<◌}
use native.Mathlib.Omega.{arith}
use native.Mathlib.Numerals.{add-one}
use native.Mathlib.Nat.{add-suc, suc-add, add-zero}
use mathlib.Core.Path.{◌≡◌, refl, ap, ◌∙◌}
use mathlib.Core.Bool.{Bool, true, false}
use mathlib.Core.List.{List, [], ◌∷◌}
use lib.ListN.{length, get_or}
use Rattle.cells.specs.Order.{rank, one_if, listed}

module _ {A : Type 0} where
  pub rank_zero : (f : A → Bool) (l : List A) → rank f l 0 ≡ 0
  unfolding rank
  rank_zero f [] = refl
  rank_zero f (x ∷ xs) = refl

  -- one place more
  rank_suc : (f : A → Bool) (l : List A) (p : ℕ) (d : A) → p < length l → rank f l (suc p)
      ≡ one_if (f (get_or l p d)) (rank f l p)
  unfolding rank
  rank_suc f [] p d lt = absurd (omega arith)
  rank_suc f (x ∷ xs) zero d lt = ap (one_if (f x)) (rank_zero f xs)
  rank_suc f (x ∷ xs) (suc p) d lt = go (f x) (rank_suc f xs p d (omega arith))
    where
      go : (b : Bool) → rank f xs (suc p) ≡ one_if (f (get_or xs p d)) (rank f xs p) → one_if b (rank f xs (suc p))
          ≡ one_if (f (get_or xs p d)) (one_if b (rank f xs p))
      go false ih = ih
      go true ih = rw ih (swap (f (get_or xs p d)) (rank f xs p))
        where
          swap : (t : Bool) (n : ℕ) → suc (one_if t n) ≡ one_if t (suc n)
          swap true n = refl
          swap false n = refl

  rank_grows : (f : A → Bool) (l : List A) (p q : ℕ) → p ≤ q → rank f l p ≤ rank f l q
  unfolding rank
  rank_grows f [] p q le = omega arith
  rank_grows f (x ∷ xs) zero q le = omega arith
  rank_grows f (x ∷ xs) (suc p) zero le = absurd (omega arith)
  rank_grows f (x ∷ xs) (suc p) (suc q) le = go (f x) (rank_grows f xs p q (omega arith))
    where
      go : (b : Bool) → rank f xs p ≤ rank f xs q → one_if b (rank f xs p) ≤ one_if b (rank f xs q)
      go true ih = omega arith
      go false ih = ih

  -- an element that passes has a lower rank than any later place
  pub rank_less : (f : A → Bool) (l : List A) (p q : ℕ) (d : A) → p < q → p < length l → f (get_or l p d) ≡ true
      → rank f l p < rank f l q
  rank_less f l p q d lt inside t =
      omega (
        arith,
        rank_grows f l (suc p) q (omega arith),
        rank_suc f l p d inside
            ∙ ap (λ (b : Bool). one_if b (rank f l p)) t,
      )

module _ {A : Type 0} (f : A → Bool) (l : List A) (i : ℕ) (d : A) (h : i < length l) where
  pub rank_yes : f (get_or l i d) ≡ true → rank f l (i + 1) ≡ rank f l i + 1
  rank_yes t = rw (add-one, add-one) (rank_suc f l i d h ∙ ap (λ (b : Bool). one_if b (rank f l i)) t)

  pub rank_no : f (get_or l i d) ≡ false → rank f l (i + 1) ≡ rank f l i
  rank_no t = rw add-one (rank_suc f l i d h ∙ ap (λ (b : Bool). one_if b (rank f l i)) t)

module _ {A : Type 0} (f : ℕ → A) where
  pub listed_length : (k n : ℕ) → length (listed f k n) ≡ n
  unfolding listed
  listed_length k zero = refl
  listed_length k (suc n) = ap suc (listed_length (suc k) n)

  pub listed_at : (k n i : ℕ) (d : A) → i < n → get_or (listed f k n) i d ≡ f (k + i)
  unfolding listed
  listed_at k zero i d lt = absurd (omega arith)
  listed_at k (suc n) zero d lt = rw add-zero
  listed_at k (suc n) (suc i) d lt = listed_at (suc k) n i d (omega arith) ∙ rw (suc-add, add-suc)
