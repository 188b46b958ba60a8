-- Which element stands at a place of the order that renumbering gives: every place is some element's new place.
-- Assumes nothing.
use Prim.Native.Nat.{ℕ, zero, suc, ◌+◌, ◌-◌, ◌≤◌, ◌<◌}
use native.Mathlib.Omega.{arith}
use mathlib.Core.Path.{◌≡◌, refl, ap, sym, ◌∙◌}
use mathlib.Core.Bool.{Bool, true, false, not}
use mathlib.Core.List.{List, [], ◌∷◌, map}
use lib.Dec.{ltb}
use lib.ListN.{length, get_or}
use borrow.Author.Tests.{ltb-true, ltb-false}
use Rattle.cells.specs.Order.{keep, rank, new_place}
use Rattle.cells.proofs.Sequences.Tests.{by_test, keep_lengths}
use Rattle.cells.proofs.Renumbering.Parted.{new_place_law}

-- the i-th element that passes the test, by its place among all
pub record Kept {A : Type 0} (f : A → Bool) (l : List A) (i : ℕ) (d : A) : Type 0 where
  pub place : ℕ
  pub inside : place < length l
  pub passes : f (get_or l place d) ≡ true
  pub ranks : rank f l place ≡ i

module _ {A : Type 0} (f : A → Bool) (d : A) where
  one_on : (x : A) (xs : List A) (i : ℕ) → f x ≡ true → Kept f xs i d → Kept f (x ∷ xs) (suc i) d
  unfolding rank
  one_on x xs i t r = record {
    place = suc r.place;
    inside = omega (arith, r.inside);
    passes = r.passes;
    ranks = rw t
        (ap suc r.ranks);
  }

  passed : (x : A) (xs : List A) (i : ℕ) → f x ≡ false → Kept f xs i d → Kept f (x ∷ xs) i d
  unfolding rank
  passed x xs i t r = record {
    place = suc r.place;
    inside = omega
        (arith, r.inside);
    passes = r.passes;
    ranks = rw t r.ranks;
  }

  pub kept_from : (l : List A) (i : ℕ) → i < length (keep f l) → Kept f l i d
  unfolding keep rank
  kept_from [] i lt = absurd (omega arith)
  kept_from (x ∷ xs) zero lt = by_test (f x)
      (λ t. record { place = 0; inside = omega arith; passes = t; ranks = refl })
      (λ t. passed x xs 0 t (kept_from xs 0 (rw t at lt)))
  kept_from (x ∷ xs) (suc i) lt = by_test (f x)
      (λ t. one_on x xs i t (kept_from xs i (let z = rw t at lt in omega arith)))
      (λ t. passed x xs (suc i) t (kept_from xs (suc i) (rw t at lt)))

-- the element that goes to the place q
pub record Origin {A : Type 0} (f : A → Bool) (l : List A) (q : ℕ) : Type 0 where
  pub place : ℕ
  pub inside : place < length l
  pub back : new_place (map f l) place ≡ q

not_true : (b : Bool) → not b ≡ true → b ≡ false
not_true true e = sym e
not_true false e = refl

module _ {A : Type 0} (f : A → Bool) (d : A) (off : f d ≡ false) (l : List A) (q : ℕ) where
  abbrev others : A → Bool
  others x = not (f x)

  -- one that fails, and one that passes
  among_first : Kept others l q d → Origin f l q
  among_first r = record {
    place = r.place;
    inside = r.inside;
    back = new_place_law f d off l r.place ∙ rw
        (not_true (f (get_or l r.place d)) r.passes) r.ranks;
  }

  among_last : length (keep others l) ≤ q → Kept f l (q - length (keep others l)) d → Origin f l q
  among_last le r = record {
    place = r.place;
    inside = r.inside;
    back = new_place_law f d off l r.place ∙ rw r.passes
        (omega (arith, r.ranks));
  }

  pub origin : q < length l → Origin f l q
  origin lt = by_test (ltb q (length (keep others l)))
      (λ t. among_first (kept_from others d l q (ltb-true _ _ t)))
      (λ t. let le = ltb-false q (length (keep others l)) t in
      let all : length (keep others l) + length (keep f l) ≡ length l = keep_lengths f others (λ x. refl) l in
      among_last le (kept_from f d l (q - length (keep others l)) (omega arith)))
