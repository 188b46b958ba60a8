-- A loop that stores a list's elements over those of a slice, from the front.
-- Assumes nothing.
use Prim.Native.Nat.{ℕ, suc, ◌+◌, ◌≤◌, ◌<◌}
use native.Mathlib.Omega.{arith}
use native.Mathlib.Numerals.{add-one}
use mathlib.Core.Path.{◌≡◌, refl, ap, sym, ◌∙◌}
use mathlib.Core.List.{List, ◌++◌, map, append-nil}
use lib.ListN.{length, get_or, set, take, drop, length-append, length-map, length-drop}
use Rattle.std.proofs.lemmas.List.{drop_all, get_or_default}
use Rattle.std.proofs.lemmas.List.Edits.{map_over_more}
use lib.Seq.{drop-cons, set_at, append_snoc, take-suc, length-take-le, take_all, get_or_at}

module _ {A : Type 0} (l D : List A) (i : ℕ) where
  -- the element stored next
  pub fill_turn : (d x : A) → i < length l → i < length D → get_or D i d ≡ x → set (take i D ++ drop i l) i x
      ≡ take (i + 1) D ++ drop (i + 1) l
  fill_turn d x hl hD e =
      rw (drop-cons l i d hl, add-one, take-suc D i d hD, e)
      (set_at (take i D) (get_or l i d) (drop (suc i) l) x i (length-take-le i D (omega arith))
      ∙ sym (append_snoc (take i D) x (drop (suc i) l)))

  -- what is yet to be stored over
  pub fill_ahead : (d : A) → i < length l → i ≤ length D → get_or (take i D ++ drop i l) i d ≡ get_or l i d
  fill_ahead d hl hD = rw (drop-cons l i d hl)
      (get_or_at (take i D) (get_or l i d) (drop (suc i) l) d i (length-take-le i D hD))

-- an element that f is applied to, in a loop that does so from the front
pub mapped_turn : {A : Type 0} (f : A → A) (l : List A) (i : ℕ) (w d : A) → i < length l
    → w ≡ f (get_or (map f (take i l) ++ drop i l) i d) → set (map f (take i l) ++ drop i l) i w
    ≡ map f (take (i + 1) l) ++ drop (i + 1) l
mapped_turn f l i w d h e =
    let now = map f (take i l) ++ drop i l in
    let long : i < length now = omega (
      arith,
      length-append (map f (take i l)) (drop i l),
      length-map (take i l) f,
      length-take-le i l (omega arith),
      length-drop i l,
    ) in
    ap (set now i) e ∙ map_over_more f l now i (get_or now i d) h refl (get_or_default now i d _ long)

-- all stored
pub fill_all : {A : Type 0} (l D : List A) (i : ℕ) → length D ≡ length l → i ≡ length l → take i D ++ drop i l ≡ D
fill_all l D i e h = rw (take_all i D (omega arith), drop_all i l (omega arith), append-nil)
