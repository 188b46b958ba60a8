-- How often a place stands in the list: once if its node is within reach, else not at all. Assumes nothing.
use Prim.Native.Nat.{ℕ, zero, suc, ◌+◌, ◌*◌, ◌<◌, ◌≤◌}
use native.Mathlib.Nat.{zero-add, add-zero}
use native.Mathlib.Omega.{arith}
use mathlib.Core.Path.{◌≡◌, refl, ap, sym, ◌∙◌}
use mathlib.Core.Bool.{Bool, true, false, cond, ◌&&◌}
use mathlib.Core.Logic.{⊎_elim}
use mathlib.Core.List.{List, [], ◌∷◌, ◌++◌}
use lib.Dec.{leb, ltb, eqb}
use lib.ListN.{length}
use borrow.Author.Tests.{lt-ltb, le-ltb, eq-eqb, ne_eqb}
use Rattle.std.proofs.lemmas.Bool.{cases_eq, cases_lt}
use Rattle.std.proofs.lemmas.Bool.Decides.{nat_tests}
use Rattle.cells.specs.Order.{one_if}
use Rattle.reach.specs.Reach.{only_if, within, times}
use Rattle.reach.proofs.TurnLaws.{within_none, within_next}

-- ---- how often

pub times_more : (p : ℕ) (l : List ℕ) → times p (p ∷ l) ≡ suc (times p l)
unfolding times
times_more p l = rw (eq-eqb p p refl)

pub times_other : (p x : ℕ) (l : List ℕ) → (x ≡ p → ⊥) → times p (x ∷ l) ≡ times p l
unfolding times
times_other p x l ne = rw (ne_eqb x p ne)

pub times_none : (p : ℕ) → times p [] ≡ 0
unfolding times
times_none p = refl

times_join : (p : ℕ) (l r : List ℕ) → times p (l ++ r) ≡ times p l + times p r
unfolding times
times_join p [] r = omega arith
times_join p (x ∷ xs) r = go (eqb x p) (times_join p xs r)
  where
    go : (t : Bool) → times p (xs ++ r) ≡ times p xs + times p r
        → one_if t (times p (xs ++ r)) ≡ one_if t (times p xs) + times p r
    go true ih = omega arith
    go false ih = ih

-- what is listed, and what is not, of a list that is empty or not
pub some_listed : (l : List ℕ) (p : ℕ) → 0 < times p l → 0 < length l
some_listed [] p h = absurd (omega (arith, times_none p))
some_listed (x ∷ xs) p h = omega arith

pub first_listed : {P : Type 0} (l : List ℕ) → 0 < length l → ((p : ℕ) → 0 < times p l → P) → P
first_listed [] h f = absurd (omega arith)
first_listed (x ∷ xs) h f = f x (omega (arith, times_more x xs))

-- ---- the places within reach

module _ (d : ℕ → ℕ) (radius : ℕ) where
  here : (p : ℕ) (t : Bool) → times p (only_if t p) ≡ cond t 1 0
  here p true = times_more p [] ∙ ap suc (times_none p)
  here p false = times_none p

  elsewhere : (p n : ℕ) (t : Bool) → (n ≡ p → ⊥) → times p (only_if t n) ≡ 0
  elsewhere p n true ne = times_other p n [] ne ∙ times_none p
  elsewhere p n false ne = times_none p

  at_last : (n p : ℕ) → times p (within d radius n) ≡ cond (ltb p n && leb (d p) (radius * radius)) 1 0 → n ≡ p
      → times p (within d radius n) + times p (only_if (leb (d n) (radius * radius)) n)
      ≡ cond (ltb p (suc n) && leb (d p) (radius * radius)) 1 0
  at_last n p ih e =
      let before : times p (within d radius n) ≡ 0 = ih ∙ rw (le-ltb p n (omega arith)) refl in
      let near = leb (d p) (radius * radius) in
      (λ i. before i + times p (only_if (leb (d (e i)) (radius * radius)) (e i)))
      ∙ zero-add (times p (only_if near p))
      ∙ here p near
      ∙ rw (lt-ltb p (suc n) (omega arith)) refl

  not_last : (n p : ℕ) → times p (within d radius n) ≡ cond (ltb p n && leb (d p) (radius * radius)) 1 0 → (n ≡ p → ⊥)
      → times p (within d radius n) + times p (only_if (leb (d n) (radius * radius)) n)
      ≡ cond (ltb p (suc n) && leb (d p) (radius * radius)) 1 0
  not_last n p ih ne =
      let test : ltb p n ≡ ltb p (suc n) = ⊎_elim
      (λ less. lt-ltb p n less ∙ sym (lt-ltb p (suc n) (omega arith)))
      (λ le. le-ltb p n le ∙ sym (le-ltb p (suc n) (omega arith)))
      (cases_lt p n) in
      ap (λ (x : ℕ). times p (within d radius n) + x) (elsewhere p n (leb (d n) (radius * radius)) ne)
      ∙ add-zero (times p (within d radius n))
      ∙ ih
      ∙ ap (λ (t : Bool). cond (t && leb (d p) (radius * radius)) 1 0) test

  -- once if it is a node's place and within reach, else not at all
  pub within_once : (n p : ℕ) → times p (within d radius n) ≡ cond (ltb p n && leb (d p) (radius * radius)) 1 0
  within_once zero p = ap (times p) (within_none d radius) ∙ times_none p ∙ rw (le-ltb p 0 (omega arith)) refl
  within_once (suc n) p =
      ap (times p) (within_next d radius n)
      ∙ times_join p (within d radius n) (only_if (leb (d n) (radius * radius)) n)
      ∙ ⊎_elim (at_last n p (within_once n p)) (not_last n p (within_once n p)) (cases_eq n p)

-- what a count of one or none says
pub once_is : (a b : ℕ) (c e : ℕ) → 0 < cond (ltb a b && leb c e) 1 0 → (a < b) × (c ≤ e)
once_is a b c e h = grind (arith, nat_tests)

pub once_if : (a b : ℕ) (c e : ℕ) → a < b → c ≤ e → ◌≡◌ {A = ℕ} (cond (ltb a b && leb c e) 1 0) 1
once_if a b c e lt le = grind (arith, nat_tests)
