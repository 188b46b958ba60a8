-- An entry put in at a place of the first l.
use Rattle.numbers.proofs.Refusing.{not_refused}
use Prim.Native.Nat.{ℕ, ◌+◌, ◌-◌, ◌≤◌, ◌<◌}
use native.Mathlib.Omega.{arith}
use native.Mathlib.Numerals.{add-one}
use mathlib.Core.Path.{◌≡◌, ap, sym, ◌∙◌}
use mathlib.Core.Bool.{Bool}
use mathlib.Core.List.{List, [], ◌∷◌, ◌++◌, append_assoc}
use lib.Dec.{eqb, ltb, leb}
use lib.ListN.{length, get_or, set, take, drop}
use lib.Seq.{paste, take-take, set_at, take-suc, length-take-le}
use borrow.Author.Rules.{rules}
use Rattle.std.proofs.lemmas.List.Edits.{length-insert}
use Rattle.std.proofs.lemmas.Slice.{between_is}
use borrow.Author.Tests.{ltb-false, leb-false, eqb-false}
use Rattle.cells.specs.Nodes.{no_entry}
use Rattle.cells.specs.Edit.{link_range}
use Rattle.cells.specs.AddLink.{inserted, held_at, behind, room_for_link, LinkRoom}
use Rattle.cells.proofs.Sequences.Tests.{by_test}
use Rattle.cells.proofs.Editing.EditLaws.{held_bound}
use Rattle.std.specs.Prelude.{Ok}
use Rattle.cells.specs.declared.node_entry.NodeEntry.{NodeEntry}

module _ {A : Type 0} (at l : ℕ) (x : A) (xs : List A) (d : A) (inside : at ≤ l) (fits : l < length xs) where
  -- the first l + 1 entries afterwards
  abbrev pub front : List A
  front = take at (take l xs) ++ (x ∷ drop at (take l xs))

  pub front_long : length front ≡ l + 1
  front_long =
      let n = length-take-le l xs (omega arith) in
      length-insert (take l xs) at x (omega (arith, n)) ∙ ap (λ (k : ℕ). k + 1) n

-- the entries from `at` to l, copied one place up, and the new one stored over the first of them
pub insert_moved : {A : Type 0} (at l : ℕ) (x : A) (xs : List A) (d : A) → at ≤ l → l < length xs
    → set (paste xs (at + 1) (drop at xs) (l - at)) at x ≡ inserted at l x xs
unfolding inserted
insert_moved {A = A} at l x xs d inside fits =
    let y = get_or xs at d in
    let M = drop at (take l xs) in
    let T = drop (l + 1) xs in
    let t : take (at + 1) xs ≡ take at xs ++ (y ∷ []) = rw add-one (take-suc xs at d (omega arith)) in
    let m : take (l - at) (drop at xs) ≡ M = search (rules, between_is) in
    let n : at + 1 + (l - at) ≡ l + 1 = omega arith in
    ap (λ (z : List A). set z at x)
    ((λ i. (t i ++ m i) ++ drop (n i) xs) ∙ append_assoc (take at xs ++ (y ∷ [])) M T
    ∙ append_assoc (take at xs) (y ∷ []) (M ++ T))
    ∙ set_at (take at xs) y (M ++ T) x at (length-take-le at xs (omega arith))
    ∙ sym (append_assoc (take at xs) (x ∷ M) T)
    ∙ ap (λ (z : List A). (z ++ (x ∷ M)) ++ T) (sym (take-take at l xs inside))

-- ---- where the new link goes, and the room that an accepted call has

pub behind_bound : (s e l : ℕ) → e ≤ l - s → (behind s e l ≤ l) × (e ≤ behind s e l)
unfolding behind
behind_bound s e l h = by_test (eqb e 0) (λ t. rw t (omega arith, omega arith))
    (λ f. let ne = eqb-false e 0 f in rw f (omega arith, omega arith))

-- an accepted call has room
pub accepted : (over : Bool) (n l p e a b : ℕ) → room_for_link over n l p e a b ≡ (Ok tt) → LinkRoom n l p e a b
unfolding room_for_link
accepted over n l p e a b d =
    by_test (leb n p) (λ t. not_refused (rw t at d)) (λ f₀.
    by_test over (λ t. not_refused (rw (f₀, t) at d)) (λ o.
    by_test (leb 4294967295 l) (λ t. not_refused (rw (f₀, o, t) at d)) (λ f₁.
    by_test (leb 255 e) (λ t. not_refused (rw (f₀, o, f₁, t) at d)) (λ f₂.
    by_test (ltb a n) (λ t. not_refused (rw (f₀, o, f₁, f₂, t) at d)) (λ f₃.
    by_test (leb b l) (λ t. not_refused (rw (f₀, o, f₁, f₂, f₃, t) at d)) (λ f₄.
    record {
      place = leb-false _ _ f₀;
      few = leb-false _ _ f₁;
      one_more = leb-false _ _ f₂;
      nodes_fit = ltb-false _
          _ f₃;
      links_fit = leb-false _ _ f₄;
    }))))))

pub held_few : (nodes : List NodeEntry) (p l : ℕ) → held_at nodes p l ≤ l - (get_or nodes p no_entry).link_id
held_few nodes p l = (held_bound (link_range nodes p) l).0
