-- In a cell whose numbers differ, the lookups find the one node that has the number.
use Prim.Native.Nat.{ℕ, zero, suc, ◌<◌}
use native.Mathlib.Omega.{arith}
use mathlib.Core.Path.{◌≡◌, refl, sym}
use mathlib.Core.Bool.{true, false, not, ◌&&◌}
use mathlib.Core.List.{List, [], ◌∷◌}
use mathlib.Core.Option.{Option, none, some}
use lib.Dec.{eqb, ltb}
use lib.ListN.{length, get_or}
use borrow.Author.Tests.{eqb-true, eq-eqb, ltb-true}
use Rattle.cells.specs.Order.{last_with, new_number, new_place, Old}
use Rattle.cells.specs.Lookup.{first_with, or_later, find, is_some}
use Rattle.walks.specs.Sound.{differing}
use Rattle.cells.proofs.Renumbering.Named.{first_last}
use Rattle.cells.proofs.Sequences.Tests.{and_left, and_right, by_test, true_false}

-- the number at place p is k
pub record Has (ns : List ℕ) (k p : ℕ) : Type 0 where
  pub inside : p < length ns
  pub number : get_or ns p 0 ≡ k

next_some : (r : Option ℕ) → is_some (or_later false r) ≡ is_some r
next_some (some i) = refl
next_some none = refl

-- the node that has the number, where there is one
pub named_has : (ns : List ℕ) (k : ℕ) → is_some (first_with ns k) ≡ true → (p : ℕ) × Has ns k p
unfolding first_with
named_has [] k h = true_false (sym h)
named_has (n ∷ ns) k h = by_test (eqb n k)
    (λ t. (0, record { inside = omega arith; number = eqb-true _ _ t }))
    (λ f. let r = named_has ns k (rw (f, next_some) at h) in
    (suc r.0, record { inside = omega (arith, r.1.inside); number = r.1.number }))

-- no node before a place with the number k has it
pub first_is : (ns : List ℕ) (k p : ℕ) → differing ns ≡ true → Has ns k p → first_with ns k ≡ some p
unfolding first_with differing
first_is [] k p d h = absurd (omega arith)
first_is (n ∷ ns) k zero d h = simp (eq-eqb _ _ h.number)
first_is (n ∷ ns) k (suc p) d h =
    let ih : first_with ns k ≡ some p = first_is ns k p (and_right (not (is_some (first_with ns n))) _ d)
    (record { inside = omega arith; number = h.number }) in
    by_test (eqb n k)
    (λ t. true_false (cc (ih, eqb-true n k t, and_left (not (is_some (first_with ns n))) _ d)))
    (λ f. cc)

none_is : (r : Option ℕ) → not (is_some r) ≡ true → r ≡ none
none_is (some i) h = true_false (sym h)
none_is none h = refl

pub last_is : (ns : List ℕ) (k p : ℕ) → differing ns ≡ true → Has ns k p → last_with ns k ≡ some p
unfolding last_with differing
last_is [] k p d h = absurd (omega arith)
last_is (n ∷ ns) k zero d h =
    let e : last_with ns k ≡ none = none_is (last_with ns k) (rw (first_last ns k, ← h.number)
    (and_left (not (is_some (first_with ns n))) _ d)) in
    cc (eq-eqb _ _ h.number)
last_is (n ∷ ns) k (suc p) d h =
    simp (last_is ns k p (and_right (not (is_some (first_with ns n))) _ d)
    (record { inside = omega arith; number = h.number }))

pub find_is : (ns : List ℕ) (k p : ℕ) → differing ns ≡ true → Has ns k p → find ns k ≡ some p
unfolding find
find_is ns k p d h = by_test (ltb k (length ns) && eqb (get_or ns k 0) k)
    (λ t.
    let h' : Has ns k k = record {
      inside = ltb-true _ _ (and_left _ _ t);
      number = eqb-true _ _
          (and_right (ltb k (length ns)) _ t);
    } in
    cc (first_is ns k p d h, first_is ns k k d h'))
    (λ f. cc (first_is ns k p d h))

pub same_place : (ns : List ℕ) (k p q : ℕ) → differing ns ≡ true → Has ns k p → Has ns k q → p ≡ q
same_place ns k p q d h h' = cc (first_is ns k p d h, first_is ns k q d h')

pub new_is : (o : Old) (k p : ℕ) → differing o.numbers ≡ true → Has o.numbers k p → new_number o k ≡ new_place o.peds p
unfolding new_number
new_is o k p d h = simp (last_is o.numbers k p d h)
