-- What was parted once is in its order.
-- Assumes nothing.
use Prim.Native.Nat.{ℕ, zero, suc, ◌+◌, ◌-◌, ◌≤◌, ◌<◌}
use native.Mathlib.Omega.{arith}
use native.Mathlib.Nat.{zero-add, suc-add}
use mathlib.Core.Path.{◌≡◌, refl, ap, sym, subst, ◌∙◌}
use mathlib.Core.Bool.{Bool, true, false, not}
use mathlib.Core.List.{List, [], ◌∷◌, ◌++◌, map, append-nil}
use lib.Dec.{ltb}
use lib.ListN.{length, get_or, get_or-append}
use lib.Seq.{get_or-append-add, ext_get_or}
use borrow.Author.Tests.{ltb-true, ltb-false, not-true}
use Rattle.cells.specs.Order.{keep, rank, put_if, one_if, parted, new_place}
use Rattle.cells.specs.Lists.{every}
use Rattle.cells.proofs.Sequences.Tests.{and_left, and_right, by_test, every_at, keep_lengths}
use Rattle.cells.proofs.Renumbering.Parted.{new_place_law, new_at, parted_length}

module _ {A : Type 0} where
  kept_pass : (g : A → Bool) (l : List A) → every g (keep g l) ≡ true
  unfolding every keep
  kept_pass g [] = refl
  kept_pass g (x ∷ xs) = go (g x) refl (kept_pass g xs)
    where
      go : (b : Bool) → g x ≡ b → every g (keep g xs) ≡ true → every g (put_if b x (keep g xs)) ≡ true
      go true e ih = rw (e, ih)
      go false e ih = ih

  keep_all : (g : A → Bool) (l : List A) → every g l ≡ true → keep g l ≡ l
  unfolding every keep
  keep_all g [] h = refl
  keep_all g (x ∷ xs) h = rw (and_left (g x) _ h) (ap (λ (t : List A). x ∷ t) (keep_all g xs (and_right (g x) _ h)))

  keep_none : (f g : A → Bool) → ((x : A) → f x ≡ true → g x ≡ false) → (l : List A) → every f l ≡ true → keep g l ≡ []
  unfolding every keep
  keep_none f g off [] h = refl
  keep_none f g off (x ∷ xs) h = rw (off x (and_left (f x) _ h)) (keep_none f g off xs (and_right (f x) _ h))

  keep_append : (g : A → Bool) (l m : List A) → keep g (l ++ m) ≡ keep g l ++ keep g m
  unfolding keep
  keep_append g [] m = refl
  keep_append g (x ∷ xs) m = go (g x) (keep_append g xs m)
    where
      go : (b : Bool) → keep g (xs ++ m) ≡ keep g xs ++ keep g m → put_if b x (keep g (xs ++ m))
          ≡ put_if b x (keep g xs) ++ keep g m
      go true ih = ap (λ (t : List A). x ∷ t) ih
      go false ih = ih

  -- where all before pass
  rank_front : (g : A → Bool) (l m : List A) (q : ℕ) → every g l ≡ true → q ≤ length l → rank g (l ++ m) q ≡ q
  unfolding every rank
  rank_front g [] [] q h le = omega arith
  rank_front g [] (y ∷ ys) zero h le = refl
  rank_front g [] (y ∷ ys) (suc q) h le = absurd (omega arith)
  rank_front g (x ∷ xs) m zero h le = refl
  rank_front g (x ∷ xs) m (suc q) h le = rw (and_left (g x) _ h)
      (ap suc (rank_front g xs m q (and_right (g x) _ h) (omega arith)))

  rank_back : (g : A → Bool) (l m : List A) (j : ℕ) → rank g (l ++ m) (length l + j) ≡ length (keep g l) + rank g m j
  unfolding keep rank
  rank_back g [] m j = rw (zero-add, zero-add)
  rank_back g (x ∷ xs) m j = rw suc-add (go (g x) (rank_back g xs m j))
    where
      go : (b : Bool) → rank g (xs ++ m) (length xs + j) ≡ length (keep g xs) + rank g m j
          → one_if b (rank g (xs ++ m) (length xs + j)) ≡ length (put_if b x (keep g xs)) + rank g m j
      go true ih = omega arith
      go false ih = ih

module _ {A : Type 0} (f : A → Bool) where
  abbrev others : A → Bool
  others x = not (f x)

  pub others_again : (l : List A) → keep others (parted f l) ≡ keep others l
  unfolding parted
  others_again l =
      keep_append others (keep others l) (keep f l)
      ∙ (λ i. keep_all others (keep others l) (kept_pass others l) i
      ++ keep_none f others (λ x t. ap not t) (keep f l) (kept_pass f l) i)
      ∙ append-nil (keep others l)

  pub passing_again : (l : List A) → keep f (parted f l) ≡ keep f l
  unfolding parted
  passing_again l =
      keep_append f (keep others l) (keep f l)
      ∙ (λ i. keep_none others f (λ x t. not-true (f x) t) (keep others l) (kept_pass others l) i
      ++ keep_all f (keep f l) (kept_pass f l) i)

  module _ (d : A) (off : f d ≡ false) where
    -- a place among those that fail
    front : (l : List A) (q : ℕ) → q < length (keep others l) → get_or (parted f l) q d ≡ get_or (keep others l) q d
    unfolding parted
    front l q lt = get_or-append (keep others l) (keep f l) d q lt

    front_rank : (l : List A) (q : ℕ) → q < length (keep others l) → rank others (parted f l) q ≡ q
    unfolding parted
    front_rank l q lt = rank_front others (keep others l) (keep f l) q (kept_pass others l) (omega arith)

    front_stays : (l : List A) (q : ℕ) → q < length (keep others l) → new_place (map f (parted f l)) q ≡ q
    front_stays l q lt =
        let fails : f (get_or (parted f l) q d) ≡ false = ap f (front l q lt)
        ∙ not-true _ (every_at others (keep others l) q d (kept_pass others l) lt) in
        new_place_law f d off (parted f l) q ∙ rw fails (front_rank l q lt)

    -- a place among those that pass
    back : (l : List A) (j : ℕ) → get_or (parted f l) (length (keep others l) + j) d ≡ get_or (keep f l) j d
    unfolding parted
    back l j = get_or-append-add (keep others l) (keep f l) j d

    back_rank : (l : List A) (j : ℕ) → j < length (keep f l) → rank f (parted f l) (length (keep others l) + j) ≡ j
    unfolding parted
    back_rank l j lt =
        rank_back f (keep others l) (keep f l) j
        ∙ (λ i. length (keep_none others f (λ x t. not-true (f x) t) (keep others l) (kept_pass others l) i)
        + rank f (keep f l) j)
        ∙ zero-add (rank f (keep f l) j)
        ∙ ap (λ (x : List A). rank f x j) (sym (append-nil (keep f l)))
        ∙ rank_front f (keep f l) [] j (kept_pass f l) (omega arith)

    back_stays : (l : List A) (j : ℕ) → j < length (keep f l)
        → new_place (map f (parted f l)) (length (keep others l) + j) ≡ length (keep others l) + j
    back_stays l j lt =
        let passes : f (get_or (parted f l) (length (keep others l) + j) d) ≡ true = ap f (back l j)
        ∙ every_at f (keep f l) j d (kept_pass f l) lt in
        new_place_law f d off (parted f l) (length (keep others l) + j)
        ∙ rw passes (λ i. length (others_again l i) + back_rank l j lt i)

    -- what is parted is in its order
    pub new_again : (l : List A) (q : ℕ) → q < length l → new_place (map f (parted f l)) q ≡ q
    new_again l q lt =
        let all : length (keep others l) + length (keep f l) ≡ length l = keep_lengths f others (λ x. refl) l in
        by_test (ltb q (length (keep others l)))
        (λ t. front_stays l q (ltb-true _ _ t))
        (λ t.
        let le : length (keep others l) ≤ q = ltb-false _ _ t in
        let e : length (keep others l) + (q - length (keep others l)) ≡ q = omega arith in
        subst (λ (x : ℕ). new_place (map f (parted f l)) x ≡ x) e
        (back_stays l (q - length (keep others l)) (omega arith)))

    -- where each element is at its new place, the list is parted
    pub parted_same : (l : List A) → ((q : ℕ) → q < length l → new_place (map f l) q ≡ q) → parted f l ≡ l
    parted_same l h =
        ext_get_or d (parted f l) l (parted_length f l) (λ q lt.
        let below : q < length l = omega (arith, parted_length f l) in
        ap (λ (x : ℕ). get_or (parted f l) x d) (sym (h q below)) ∙ (new_at f d off l q below).1)
