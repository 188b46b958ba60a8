-- The order that renumbering gives, over any elements and any test: what stands at a new place, and that no two are
-- the same.
-- Assumes nothing.
use Prim.Native.Nat.{ℕ, ◌+◌, ◌<◌}
use native.Mathlib.Omega.{arith}
use native.Mathlib.Nat.{zero-add}
use mathlib.Core.Path.{◌≡◌, refl, ap, sym, ◌∙◌}
use mathlib.Core.Bool.{Bool, true, false, not, cond}
use mathlib.Core.List.{List, map}
use lib.Dec.{ltb}
use lib.ListN.{length, get_or, length-append, length-map, get_or-append, get_or-map}
use lib.Seq.{get_or-append-add}
use borrow.Author.Tests.{ltb-true, ltb-false}
use Rattle.cells.specs.Order.{keep, rank, parted, new_place, new_places}
use Rattle.cells.proofs.Sequences.Tests.{by_test, keep_at, keep_lengths, map_keep, rank_map}
use Rattle.cells.proofs.Sequences.Ranks.{rank_less, listed_length, listed_at}

-- two places of one group that go to one place are one
one_group : {A : Type 0} (g : A → Bool) (l : List A) (p q : ℕ) (d : A) → p < length l → q < length l
    → g (get_or l p d) ≡ true → g (get_or l q d) ≡ true
    → rank g l p ≡ rank g l q → p ≡ q
one_group g l p q d hp hq tp tq e = by_test (ltb p q)
    (λ t. absurd (omega (arith, rank_less g l p q d (ltb-true _ _ t) hp tp)))
    (λ t. by_test (ltb q p)
    (λ u. absurd (omega (arith, rank_less g l q p d (ltb-true _ _ u) hq tq)))
    (λ u. omega (arith, ltb-false p q t, ltb-false q p u)))

module _ {A : Type 0} (f : A → Bool) where
  -- those that fail
  abbrev others : A → Bool
  others x = not (f x)

  pub parted_length : (l : List A) → length (parted f l) ≡ length l
  unfolding parted
  parted_length l = length-append (keep others l) (keep f l) ∙ keep_lengths f others (λ x. refl) l

  -- d stands for what is past the end
  module _ (d : A) (off : f d ≡ false) where
    flag_at : (l : List A) (p : ℕ) → get_or (map f l) p false ≡ f (get_or l p d)
    flag_at l p = ap (get_or (map f l) p) (sym off) ∙ get_or-map f l p d

    -- the new place, by the elements themselves
    pub new_place_law : (l : List A) (p : ℕ) → new_place (map f l) p
        ≡ cond (f (get_or l p d)) (length (keep others l) + rank f l p) (rank others l p)
    unfolding new_place
    new_place_law l p = rw (flag_at, rank_map, rank_map, map_keep, length-map)

    -- the element first at place p stands at its new place
    pub new_at : (l : List A) (p : ℕ) → p < length l → (new_place (map f l) p < length l)
        × (get_or (parted f l) (new_place (map f l) p) d ≡ get_or l p d)
    unfolding parted
    new_at l p lt =
        let all : length (keep others l) + length (keep f l) ≡ length l = keep_lengths f others (λ x. refl) l in
        rw (new_place_law l p) (by_test (f (get_or l p d))
        (λ t. let k = keep_at f l p d lt t in rw t
        (omega (arith, k.0), get_or-append-add (keep others l) (keep f l) (rank f l p) d ∙ k.1))
        (λ u. let k = keep_at others l p d lt (ap not u) in rw u
        (omega (arith, k.0), get_or-append (keep others l) (keep f l) d (rank others l p) k.0 ∙ k.1)))

    -- no two elements have one new place
    pub new_apart : (l : List A) (p q : ℕ) → p < length l → q < length l → new_place (map f l) p
        ≡ new_place (map f l) q → p ≡ q
    new_apart l p q hp hq same =
        let e : cond (f (get_or l p d)) (length (keep others l) + rank f l p) (rank others l p)
        ≡ cond (f (get_or l q d)) (length (keep others l) + rank f l q) (rank others l q)
        = sym (new_place_law l p) ∙ same ∙ new_place_law l q in
        by_test (f (get_or l p d))
        (λ t. by_test (f (get_or l q d))
        (λ u. one_group f l p q d hp hq t u (let z = rw (t, u) at e in omega arith))
        (λ u. absurd (let z = rw (t, u) at e in omega (arith, (keep_at others l q d hq (ap not u)).0))))
        (λ t. by_test (f (get_or l q d))
        (λ u. absurd (let z = rw (t, u) at e in omega (arith, (keep_at others l p d hp (ap not t)).0)))
        (λ u. one_group others l p q d hp hq (ap not t) (ap not u) (rw (t, u) at e)))

-- ---- the list of new places

pub places_length : (ps : List Bool) → length (new_places ps) ≡ length ps
unfolding new_places
places_length ps = listed_length (new_place ps) 0 (length ps)

pub places_at : (ps : List Bool) (i : ℕ) → i < length ps → get_or (new_places ps) i 0 ≡ new_place ps i
unfolding new_places
places_at ps i lt = listed_at (new_place ps) 0 (length ps) i 0 lt ∙ rw zero-add
