-- Lists whose elements are changed and asked by their place.
use lib.Seq.{drop-cons}
use Prim.Native.Nat.{ℕ, zero, suc, ◌+◌, ◌<◌}
use native.Mathlib.Omega.{arith}
use native.Mathlib.Nat.{add-zero, suc-add, add-suc}
use mathlib.Core.Path.{◌≡◌, refl, ap, ◌∙◌, sym}
use mathlib.Core.Bool.{Bool, true}
use mathlib.Core.List.{List, [], ◌∷◌, map}
use lib.ListN.{length, get_or, take, drop, drop_of_length-le}
use Rattle.cells.specs.Lists.{every}
use Rattle.cells.proofs.Sequences.Tests.{and_left, and_right}
use Rattle.cells.specs.Renumber.{over}
use Rattle.sets.specs.Members.{map_from, every_from}

-- a list written out, from its place k on
unfoldable pub firsts : ℕ → ℕ → List ℕ → List ℕ
firsts zero k w = []
firsts (suc n) k w = get_or w k 0 ∷ firsts n (suc k) w

pub firsts_all : (n k : ℕ) (w : List ℕ) → k + n ≡ length w → firsts n k w ≡ drop k w
unfolding firsts
firsts_all zero k w e = sym (drop_of_length-le w {i = k} (omega (arith, e)))
firsts_all (suc n) k w e =
    ap {B = List ℕ} (λ t. get_or w k 0 ∷ t) (firsts_all n (suc k) w (omega (arith, e)))
    ∙ sym (drop-cons w k 0 (omega (arith, e)))

module _ {A : Type 0} where
  -- all, by place
  pub every_all : (f : A → Bool) (l : List A) (d : A) → ((i : ℕ) → i < length l → f (get_or l i d) ≡ true)
      → every f l ≡ true
  unfolding every
  every_all f [] d h = refl
  every_all f (x ∷ xs) d h = cc (h 0 (omega arith), every_all f xs d (λ i lt. h (suc i) (omega arith)))

  pub from_at : (f : ℕ → A → Bool) (k : ℕ) (l : List A) (i : ℕ) (d : A) → every_from f k l ≡ true → i < length l
      → f (k + i) (get_or l i d) ≡ true
  unfolding every_from
  from_at f k [] i d h lt = absurd (omega arith)
  from_at f k (x ∷ xs) zero d h lt = rw add-zero (and_left _ _ h)
  from_at f k (x ∷ xs) (suc i) d h lt =
      let r : f (suc k + i) (get_or xs i d) ≡ true = from_at f (suc k) xs i d (and_right (f k x) _ h) (omega arith) in
      rw add-suc (rw suc-add at r)

  pub from_all : (f : ℕ → A → Bool) (k : ℕ) (l : List A) (d : A)
      → ((i : ℕ) → i < length l → f (k + i) (get_or l i d) ≡ true) → every_from f k l ≡ true
  unfolding every_from
  from_all f k [] d h = refl
  from_all f k (x ∷ xs) d h =
      cc (
        rw add-zero at (h 0 (omega arith)),
        from_all f (suc k) xs d
            (λ i lt. let r : f (k + suc i) (get_or xs i d)
            ≡ true = h (suc i) (omega arith) in rw suc-add (rw add-suc at r)),
      )

  -- the front of what is stored over the front, however short the list is
  pub front_over : (f : A → A) (n : ℕ) (l : List A) → take n (over (map f) n l) ≡ map f (take n l)
  front_over f zero l = refl
  front_over f (suc n) [] = refl
  front_over f (suc n) (x ∷ xs) = ap {B = List A} (λ r. f x ∷ r) (front_over f n xs)

  pub over_same : (f : A → A) → ((x : A) → f x ≡ x) → (n : ℕ) (l : List A) → over (map f) n l ≡ l
  over_same f e zero l = refl
  over_same f e (suc n) [] = refl
  over_same f e (suc n) (x ∷ xs) = λ i. e x i ∷ over_same f e n xs i

  pub over_long : (f : A → A) (n : ℕ) (l : List A) → length (over (map f) n l) ≡ length l
  over_long f zero l = refl
  over_long f (suc n) [] = refl
  over_long f (suc n) (x ∷ xs) = ap suc (over_long f n xs)

module _ {A B : Type 0} where
  pub length_from : (f : ℕ → A → B) (k : ℕ) (l : List A) → length (map_from f k l) ≡ length l
  unfolding map_from
  length_from f k [] = refl
  length_from f k (x ∷ xs) = ap suc (length_from f (suc k) xs)

  pub from_map : (f : ℕ → A → B) (k : ℕ) (l : List A) (i : ℕ) (d : A) (e : B) → i < length l
      → get_or (map_from f k l) i e ≡ f (k + i) (get_or l i d)
  unfolding map_from
  from_map f k [] i d e lt = absurd (omega arith)
  from_map f k (x ∷ xs) zero d e lt = rw add-zero
  from_map f k (x ∷ xs) (suc i) d e lt = from_map f (suc k) xs i d e (omega arith) ∙ rw (suc-add, add-suc)

  -- what a function makes of changed elements, where it makes the same of each
  pub map_from_same : (h : A → B) (f : ℕ → A → A) → ((i : ℕ) (x : A) → h (f i x) ≡ h x) → (k : ℕ) (l : List A)
      → map h (map_from f k l) ≡ map h l
  unfolding map_from
  map_from_same h f e k [] = refl
  map_from_same h f e k (x ∷ xs) = λ i. e k x i ∷ map_from_same h f e (suc k) xs i

  -- what a function makes of changed elements, where the change is one of what it makes
  pub map_from_law : (h : A → B) (f : ℕ → A → A) (g : ℕ → B → B) → ((i : ℕ) (x : A) → h (f i x) ≡ g i (h x))
      → (k : ℕ) (l : List A) → map h (map_from f k l) ≡ map_from g k (map h l)
  unfolding map_from
  map_from_law h f g e k [] = refl
  map_from_law h f g e k (x ∷ xs) = λ i. e k x i ∷ map_from_law h f g e (suc k) xs i
