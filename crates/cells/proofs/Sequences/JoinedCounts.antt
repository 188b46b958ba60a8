-- How many entries lists have, one after the other.
-- Assumes nothing.
use Prim.Native.Nat.{ℕ, zero, suc, ◌+◌}
use native.Mathlib.Omega.{arith}
use mathlib.Core.Path.{◌≡◌, refl}
use mathlib.Core.Bool.{Bool, true, false, not}
use mathlib.Core.List.{List, [], ◌∷◌, ◌++◌, map}
use lib.ListN.{length, length-append}
use Rattle.records.specs.Put.{joined}
use Rattle.cells.specs.Lists.{up_to, sum_to}
use Rattle.cells.specs.Order.{put_if, keep, parted}

module _ {A B : Type 0} (f : A → List B) where
  pub count_append : (xs ys : List A) → length (joined f (xs ++ ys)) ≡ length (joined f xs) + length (joined f ys)
  unfolding joined
  count_append [] ys = omega arith
  count_append (x ∷ xs) ys = omega (
    arith,
    count_append xs ys,
    length-append (f x) (joined f (xs ++ ys)),
    length-append (f x) (joined f xs),
  )

  -- of entries made by place
  pub count_up_to : (g : ℕ → A) (c : ℕ → ℕ) → ((i : ℕ) → length (f (g i)) ≡ c i) → (n : ℕ)
      → length (joined f (up_to g n)) ≡ sum_to c n
  unfolding up_to sum_to joined
  count_up_to g c e zero = refl
  count_up_to g c e (suc n) = omega (
    arith,
    count_append (up_to g n) (g n ∷ []),
    count_up_to g c e n,
    e n,
    length-append (f (g n)) [],
  )

  -- two groups hold as much as all
  pub count_parted : (t : A → Bool) (xs : List A) → length (joined f (parted t xs)) ≡ length (joined f xs)
  unfolding parted keep joined
  count_parted t xs = omega (arith, count_append (keep (λ x. not (t x)) xs) (keep t xs), both xs)
    where
      both : (xs : List A) → length (joined f (keep (λ x. not (t x)) xs)) + length (joined f (keep t xs))
          ≡ length (joined f xs)
      both [] = refl
      both (x ∷ xs) = omega (arith, go (t x), both xs, length-append (f x) (joined f xs))
        where
          go : (b : Bool)
              → length (joined f (put_if (not b) x (keep (λ x. not (t x)) xs)))
              + length (joined f (put_if b x (keep t xs)))
              ≡ length (f x) + (length (joined f (keep (λ x. not (t x)) xs)) + length (joined f (keep t xs)))
          go true = omega (arith, length-append (f x) (joined f (keep t xs)))
          go false = omega (arith, length-append (f x) (joined f (keep (λ x. not (t x)) xs)))

-- of entries made of others that hold as much
pub count_map : {A B C D : Type 0} (f : B → List C) (g : A → B) (h : A → List D)
    → ((x : A) → length (f (g x)) ≡ length (h x)) → (xs : List A) → length (joined f (map g xs))
    ≡ length (joined h xs)
unfolding joined
count_map f g h e [] = refl
count_map f g h e (x ∷ xs) = omega (
  arith,
  e x,
  count_map f g h e xs,
  length-append (f (g x)) (joined f (map g xs)),
  length-append (h x) (joined h xs),
)
