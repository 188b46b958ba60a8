-- A test of each entry of a range, and a range of the first entries of a list.
use Prim.Native.Nat.{ℕ, ◌+◌, ◌-◌, ◌≤◌}
use native.Mathlib.Omega.{arith}
use mathlib.Core.Path.{◌≡◌, refl, ap, ◌∙◌}
use mathlib.Core.Bool.{Bool, ◌&&◌}
use mathlib.Core.List.{List, [], ◌∷◌, map}
use lib.ListN.{length, take, drop, length-drop}
use lib.Seq.{take_all, take-take, take-nil}
use Rattle.std.proofs.lemmas.List.{drop_all, drop-take, length-take}
use Rattle.std.specs.List.{list_all}
use Rattle.cells.specs.Lists.{every}

-- what `all` answers
pub all_is_every : {A : Type 0} (f : A → Bool) (l : List A) → list_all f l ≡ every f l
unfolding every
all_is_every f [] = refl
all_is_every f (x ∷ xs) = ap (λ (b : Bool). f x && b) (all_is_every f xs)

module _ {A B : Type 0} where
  pub every_mapped : (f : B → Bool) (g : A → B) (h : A → Bool) → ((x : A) → f (g x) ≡ h x) → (l : List A)
      → every f (map g l) ≡ every h l
  unfolding every
  every_mapped f g h e [] = refl
  every_mapped f g h e (x ∷ xs) = λ i. e x i && every_mapped f g h e xs i

-- ---- a range of the first l entries

cut_is : {A : Type 0} (l start : ℕ) (xs : List A) → start ≤ l → drop start (take l xs)
    ≡ take (l - start) (drop start xs)
cut_is l start xs h = let whole : l ≡ start
    + (l - start) = omega arith in ap (λ (k : ℕ). drop start (take k xs)) whole ∙ drop-take start (l - start) xs

pub cut_all : {A : Type 0} (l start count : ℕ) (xs : List A) → start + count ≤ l
    → take count (drop start (take l xs)) ≡ take count (drop start xs)
cut_all l start count xs h = ap (take count) (cut_is l start xs (omega arith))
    ∙ take-take count (l - start) (drop start xs) (omega arith)

pub cut_none : {A : Type 0} (l start count : ℕ) (xs : List A) → l ≤ start → take count (drop start (take l xs)) ≡ []
cut_none l start count xs h = ap (take count) (drop_all start (take l xs) (omega (arith, length-take l xs)))
    ∙ take-nil count

pub cut_part : {A : Type 0} (l start count : ℕ) (xs : List A) → l ≤ length xs → start ≤ l → l - start ≤ count
    → take count (drop start (take l xs)) ≡ take (l - start) (drop start xs)
cut_part l start count xs hl hs h =
    take_all count (drop start (take l xs)) (omega (arith, length-drop start (take l xs), length-take l xs))
    ∙ cut_is l start xs hs

pub every_same : {A : Type 0} (p q : A → Bool) → ((x : A) → p x ≡ q x) → (xs : List A) → every p xs ≡ every q xs
unfolding every
every_same p q h [] = refl
every_same p q h (x ∷ xs) = λ i. h x i && every_same p q h xs i
