-- Lists joined one after the other, and records that carry where their own part of such a list starts.
use Prim.Native.Nat.{ℕ, zero, suc, ◌+◌, ◌*◌, ◌<◌}
use native.Mathlib.Omega.{arith}
use native.Mathlib.Nat.{mul-suc}
use mathlib.Core.Path.{◌≡◌, refl, ap, ◌∙◌}
use mathlib.Core.List.{List, [], ◌∷◌, ◌++◌, append_assoc}
use lib.ListN.{length, get_or, take, drop, length-append}
use lib.Seq.{take_at, take-append_seam, drop-append-add}
use Rattle.records.specs.Put.{joined}
use Rattle.cells.specs.Blocks.{laid}

-- ---- records of one width

module _ {A C : Type 0} (g : A → List C) (w : ℕ) (wide : (x : A) → length (g x) ≡ w) where
  pub joined_at : (xs : List A) (i : ℕ) (z : A) → i < length xs → take w (drop (w * i) (joined g xs))
      ≡ g (get_or xs i z)
  unfolding joined
  joined_at [] i z h = absurd (omega arith)
  joined_at (x ∷ xs) zero z h =
      let e : w * 0 ≡ 0 = omega arith in
      ap (λ (k : ℕ). take w (drop k (g x ++ joined g xs))) e ∙ take_at (g x) (joined g xs) w (wide x)
  joined_at (x ∷ xs) (suc i) z h =
      let e : w * suc i ≡ length (g x) + w * i = omega (arith, wide x, mul-suc w i) in
      ap (λ (k : ℕ). take w (drop k (g x ++ joined g xs))) e
      ∙ ap (take w) (drop-append-add (g x) (joined g xs) (w * i)) ∙ joined_at xs i z (omega arith)

module _ {A B C : Type 0} (f : A → List B) (g : ℕ → A → List C) (w : ℕ)
    (wide : (k : ℕ) (x : A) → length (g k x) ≡ w) where
  pub laid_length : (k : ℕ) (xs : List A) → length (laid f g k xs) ≡ w * length xs
  unfolding laid
  laid_length k [] = omega arith
  laid_length k (x ∷ xs) = length-append (g k x) (laid f g (k + length (f x)) xs)
      ∙ omega (arith, wide k x, laid_length (k + length (f x)) xs)

  -- record i carries how many entries stand before its own part
  pub laid_at : (k : ℕ) (xs : List A) (i : ℕ) (z : A) → i < length xs → take w (drop (w * i) (laid f g k xs))
      ≡ g (k + length (joined f (take i xs))) (get_or xs i z)
  unfolding laid joined
  laid_at k [] i z h = absurd (omega arith)
  laid_at k (x ∷ xs) zero z h =
      let e : w * 0 ≡ 0 = omega arith in
      let n : k ≡ k + 0 = omega arith in
      let rest = laid f g (k + length (f x)) xs in
      ap (λ (j : ℕ). take w (drop j (g k x ++ rest))) e ∙ take_at (g k x) rest w (wide k x) ∙ ap (λ (j : ℕ). g j x) n
  laid_at k (x ∷ xs) (suc i) z h =
      let e : w * suc i ≡ length (g k x) + w * i = omega (arith, wide k x, mul-suc w i) in
      let rest = laid f g (k + length (f x)) xs in
      let n : k + length (f x) + length (joined f (take i xs)) ≡ k
      + length (f x ++ joined f (take i xs)) = omega (arith, length-append (f x) (joined f (take i xs))) in
      ap (λ (j : ℕ). take w (drop j (g k x ++ rest))) e ∙ ap (take w) (drop-append-add (g k x) rest (w * i))
      ∙ laid_at (k + length (f x)) xs i z (omega arith)
      ∙ ap (λ (j : ℕ). g j (get_or xs i z)) n

-- the part that starts there, as long as its own, is its own
pub part_back : {A B : Type 0} (f : A → List B) (xs : List A) (i : ℕ) (z : A) → i < length xs
    → take (length (f (get_or xs i z))) (drop (length (joined f (take i xs))) (joined f xs)) ≡ f (get_or xs i z)
unfolding joined
part_back f [] i z h = absurd (omega arith)
part_back f (x ∷ xs) zero z h = take-append_seam (f x) (joined f xs)
part_back {B = B} f (x ∷ xs) (suc i) z h =
    let n = length (joined f (take i xs)) in
    ap (λ (k : ℕ). take (length (f (get_or xs i z))) (drop k (f x ++ joined f xs)))
    (length-append (f x) (joined f (take i xs)))
    ∙ ap (take (length (f (get_or xs i z)))) (drop-append-add (f x) (joined f xs) n)
    ∙ part_back f xs i z (omega arith)

-- entries in parts are entries in one list
pub joined_joined : {A B C : Type 0} (g : B → List C) (f : A → List B) (xs : List A)
    → joined (λ x. joined g (f x)) xs ≡ joined g (joined f xs)
unfolding joined
joined_joined g f [] = refl
joined_joined {C = C} g f (x ∷ xs) = ap (λ (r : List C). joined g (f x) ++ r) (joined_joined g f xs)
    ∙ apart (f x) (joined f xs)
  where
    apart : (a b : List _) → joined g a ++ joined g b ≡ joined g (a ++ b)
    apart [] b = refl
    apart (y ∷ ys) b = append_assoc (g y) (joined g ys) (joined g b) ∙ ap (λ (r : List C). g y ++ r) (apart ys b)
