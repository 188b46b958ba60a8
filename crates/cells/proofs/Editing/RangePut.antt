-- A part of a pool put in place of another: what was put is there, ranges that lie apart from it stay.
use Rattle.cells.proofs.Editing.CellAdded.{part_kept}
use Prim.Native.Nat.{ℕ, zero, suc, ◌+◌, ◌-◌, ◌≤◌, ◌<◌}
use native.Mathlib.Omega.{arith}
use native.Mathlib.Nat.{pos_of_ne-zero}
use Rattle.std.proofs.lemmas.Slice.{between_is, drop-append-drop}
use mathlib.Core.Path.{◌≡◌, refl, ap, sym, ◌∙◌}
use mathlib.Core.Logic.{⊎_elim}
use mathlib.Core.List.{List, [], ◌∷◌, ◌++◌, map, append_assoc}
use lib.Dec.{eqb, leb}
use lib.ListN.{length, get_or, set, take, drop, length-append, length-map, take-append-drop}
use lib.Seq.{take-take, take-append_seam, take-append-add}
use lib.Seq.{drop_at, length-take-le, get_or-take, set-set}
use borrow.Author.Tests.{leb-true, leb-false, eqb-true, eqb-false}
use Rattle.records.specs.Put.{put}
use Rattle.records.proofs.Puts.{put_nil}
use Rattle.cells.specs.Edit.{held_in}
use Rattle.cells.specs.Replace.{place_for, pool_after}
use Rattle.cells.proofs.Sequences.Tests.{by_test}
use Rattle.std.proofs.lemmas.List.{take-map, drop-map, map-append}
use Rattle.cells.proofs.Editing.EditLaws.{held_bound}
use Rattle.cells.proofs.Editing.CellStored.{set_held}
use Rattle.cells.proofs.Editing.PoolStored.{change_one}
use Rattle.cells.proofs.Editing.Replacing.{in_place, behind_all, same_pool, more_pool, placing}
use Rattle.cells.proofs.Editing.Conditions.{Beside}

module _ {A : Type 0} where
  -- the front, with what is put
  front_long : (P : List A) (at : ℕ) (X : List A) → at ≤ length P → length (take at P ++ X) ≡ at + length X
  front_long P at X h = length-append (take at P) X ∙ ap (λ (k : ℕ). k + length X) (length-take-le at P h)

  -- what was put is there
  put_own : (P : List A) (at : ℕ) (X : List A) → at ≤ length P → take (length X) (drop at (put P at X)) ≡ X
  unfolding put
  put_own P at X h =
      let rest = drop (at + length X) P in
      ap (λ (t : List A). take (length X) (drop at t)) (append_assoc (take at P) X rest)
      ∙ ap (take (length X)) (drop_at (take at P) (X ++ rest) at (length-take-le at P h))
      ∙ take-append_seam X rest

  -- a range before it
  put_before : (s c : ℕ) (P : List A) (at : ℕ) (X : List A) → at ≤ length P → s + c ≤ at
      → take c (drop s (put P at X)) ≡ take c (drop s P)
  unfolding put
  put_before s c P at X h before =
      let rest = drop (at + length X) P in
      let inside : s + c ≤ length (take at P) = omega (arith, length-take-le at P h) in
      ap (λ (t : List A). take c (drop s t)) (append_assoc (take at P) X rest)
      ∙ part_kept s c (take at P) (X ++ rest) (λ _. inside)
      ∙ sym (ap (λ (t : List A). take c (drop s t)) (sym (take-append-drop at P))
      ∙ part_kept s c (take at P) (drop at P) (λ _. inside))

  -- what lies behind it
  put_behind : (s : ℕ) (P : List A) (at : ℕ) (X : List A) → at ≤ length P → at + length X ≤ s → drop s (put P at X)
      ≡ drop s P
  unfolding put
  put_behind s P at X h behind = drop-append-drop (at + length X) P (take at P ++ X) s behind (front_long P at X h)

  -- of a list's first l entries: put into the list is put into them, and they are so many more as it ends behind them
  pub pool_put : (l after at : ℕ) (xs X : List A) → at ≤ l → l ≤ length xs → at + length X ≤ after
      → after - (at + length X) ≡ l - (at + length X)
      → take after (put xs at X) ≡ put (take l xs) at X
  unfolding put
  pool_put l after at xs X h fits ends same =
      let k = at + length X in
      let front = take at xs ++ X in
      let e : after ≡ length front + (l - k) = omega (arith, front_long xs at X (omega arith), same) in
      ap (λ (j : ℕ). take j (front ++ drop k xs)) e
      ∙ take-append-add front (drop k xs) (l - k)
      ∙ (λ i. (sym (take-take at l xs h) i ++ X) ++ between_is xs k l i)

  -- the same by where new entries go
  pub pool_replaced : (s e c l : ℕ) (xs X : List A) → e ≤ l - s → l ≤ length xs → length X ≡ c
      → take (pool_after e c l) (put xs (place_for s e c l) X) ≡ put (take l xs) (place_for s e c l) X
  pool_replaced s e c l xs X h fits many =
      let p = placing s e c l h in
      pool_put l (pool_after e c l) (place_for s e c l) xs X p.0 fits (omega (arith, p.1, many))
      (by_test (leb c e)
      (λ t. let q = same_pool e c l (leb-true c e t) in omega (arith, q))
      (λ f. let lt = leb-false c e f in
      omega (arith, many, more_pool e c l lt, behind_all s e c l lt)))

pub map_put : {A B : Type 0} (f : A → B) (xs : List A) (at : ℕ) (X : List A) → map f (put xs at X)
    ≡ put (map f xs) at (map f X)
unfolding put
map_put f xs at X =
    map-append f (take at xs ++ X) (drop (at + length X) xs)
    ∙ (λ i. map-append f (take at xs) X i ++ sym (drop-map f (at + length X) xs) i)
    ∙ (λ i. (sym (take-map f at xs) i ++ map f X) ++ drop (at + sym (length-map X f) i) (map f xs))

-- n owners, each with its part of the pool P, of l entries; the owner at p gets X
module _ {A B C : Type 0} (blank : A) (start count : A → ℕ) (make : A → List B → C) (n l p c : ℕ) (owners : List A)
    (P X : List B)
    (place : p < n) (fits : n ≤ length owners) (long : length P ≡ l) (many : length X ≡ c)
    (beside : Beside blank start count n l p owners) where
  abbrev owned : List B → A → C
  owned Q w = make w (take (count w) (drop (start w) Q))

  abbrev own : A
  own = get_or owners p blank

  abbrev held : ℕ
  held = held_in (record { start = start own; count = count own }) l

  abbrev at : ℕ
  at = place_for (start own) held c l

  inside : at ≤ length P
  inside = omega (
    arith,
    long,
    (placing (start own) held c l
        (held_bound (record { start = start own; count = count own }) l).0).0,
  )

  abbrev part : List B → ℕ → List B
  part Q q = take (count (get_or owners q blank)) (drop (start (get_or owners q blank)) Q)

  before : (q : ℕ) → start (get_or owners q blank) + count (get_or owners q blank) ≤ at → part (put P at X) q ≡ part P q
  before q h = put_before (start (get_or owners q blank)) (count (get_or owners q blank)) P at X inside h

  behind : (q : ℕ) → at + c ≤ start (get_or owners q blank) → part (put P at X) q ≡ part P q
  behind q h = ap (take (count (get_or owners q blank)))
      (put_behind (start (get_or owners q blank)) P at X inside (omega (arith, many)))

  nothing : (k : ℕ) (xs ys : List B) → k ≡ 0 → take k xs ≡ take k ys
  nothing zero xs ys e = refl
  nothing (suc k) xs ys e = absurd (omega arith)

  empty : (Y : List B) (a : ℕ) → length Y ≡ 0 → put P a Y ≡ P
  empty [] a e = put_nil P a
  empty (y ∷ ys) a e = absurd (omega arith)

  -- another owner's entries stay
  other : (q : ℕ) → q < n → (q ≡ p → ⊥) → part (put P at X) q ≡ part P q
  other q lt ne =
      by_test (eqb (count (get_or owners q blank)) 0)
      (λ z. nothing (count (get_or owners q blank)) _ _ (eqb-true _ 0 z))
      (λ nz. let some : 0 < count (get_or owners q blank) = pos_of_ne-zero (eqb-false _ 0 nz) in
      by_test (eqb c 0)
      (λ z. ap (λ (Q : List B). part Q q) (empty X at (many ∙ eqb-true c 0 z)))
      (λ nc. let more : 0 < c = pos_of_ne-zero (eqb-false c 0 nc) in
      by_test (leb c held)
      (λ t. let le = leb-true c held t in
      let is = in_place (start own) held c l more le in
      ⊎_elim (λ h. before q (omega (arith, is))) (λ h. behind q (omega (arith, is)))
      (beside.apart q lt ne some (omega arith)))
      (λ f. let is = behind_all (start own) held c l (leb-false c held f) in
      before q (omega (arith, is, beside.inside q lt ne some)))))

  -- the owner at p has X, and no other owner's entries are others
  pub replaced : (x : A) (z : C) → start x ≡ at → count x ≡ c → make x X ≡ z
      → map (owned (put P at X)) (take n (set owners p x)) ≡ set (map (owned P) (take n owners)) p z
  replaced x z st ct mk =
      let Q = put P at X in
      let L = take n owners in
      let all = length-take-le n owners fits in
      set_held (owned Q) n owners p x place
      ∙ ap (λ (t : List C). set t p (owned Q x))
      (change_one (owned P) (owned Q) L p blank (owned Q (get_or L p blank)) (omega (arith, all))
      (λ q h ne. let lt : q < n = omega (arith, all) in
      rw (get_or-take n owners q blank lt) (ap (make (get_or owners q blank)) (other q lt ne))) refl)
      ∙ set-set (map (owned P) L) p (owned Q (get_or L p blank)) (owned Q x)
      ∙ ap (set (map (owned P) L) p)
      ((λ i. make x (take ((ct ∙ sym many) i) (drop (st i) Q))) ∙ ap (make x) (put_own P at X inside) ∙ mk)
