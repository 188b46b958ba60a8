-- The loops' turns: one more node, near or not. Assumes nothing.
use Prim.Native.Nat.{ℕ, zero, suc, ◌+◌, ◌-◌, ◌*◌, ◌<◌, ◌≤◌}
use native.Mathlib.Nat.{zero-add, suc-add, sub-add_cancel}
use native.Mathlib.Numerals.{add-one}
use native.Mathlib.Omega.{arith}
use mathlib.Core.Path.{◌≡◌, refl, ap, sym, ◌∙◌}
use mathlib.Core.Bool.{Bool, true, false, cond}
use mathlib.Core.List.{List, [], ◌∷◌, ◌++◌, append-nil}
use mathlib.Core.Option.{some}
use lib.Dec.{leb, ltb}
use lib.Ieee.{binary32, of_bits}
use lib.ListN.{get_or, length, take, drop, set, length-append}
use lib.Seq.{drop-cons, set_at, append_snoc}
use borrow.Author.Tests.{le-leb, lt-leb, lt-ltb, le-ltb, ltb-true, ltb-false}
use Rattle.std.specs.List.{filter}
use Rattle.std.proofs.Math.Seq.{take-length}
use Rattle.std.proofs.lemmas.List.{get_or-drop, get_or-take, length-drop, length-take-le}
use Rattle.std.proofs.lemmas.List.Filters.{length-filter_more}
use Rattle.std.proofs.lemmas.Bool.Decides.{nat_tests}
use Rattle.numbers.specs.Steps.{step_of}
use Rattle.cells.specs.Lists.{join_to}
use Rattle.reach.specs.Reach.{stored, only_if, within, nearest_of}
use Rattle.reach.specs.Parts.{bounded, far, far_from, square_apart, raised_step}
use Rattle.cells.specs.declared.node_entry.NodeEntry.{NodeEntry}
use Rattle.cells.specs.Nodes.{no_entry}

-- ---- a distance as far as a limit

-- of a number r that was compared with the limit
module _ (r limit d : ℕ) (e : r ≡ bounded limit d) where
  pub below_limit : r < limit → (d < limit) × (r ≡ d)
  below_limit h = grind (arith, nat_tests)

  pub not_below : limit ≤ r → limit ≤ d
  not_below h = grind (arith, nat_tests)

pub bounded_under : (limit d : ℕ) → d < limit → bounded limit d ≡ d
bounded_under limit d h = rw (lt-ltb d limit h) refl

pub bounded_over : (limit d : ℕ) → limit ≤ d → bounded limit d ≡ limit
bounded_over limit d h = rw (le-ltb d limit h) refl

-- ---- the places within reach

module _ (d : ℕ → ℕ) (radius : ℕ) where
  pub within_none : within d radius 0 ≡ []
  unfolding within join_to
  within_none = refl

  pub within_next : (i : ℕ) → within d radius (suc i) ≡ within d radius i ++ only_if (leb (d i) (radius * radius)) i
  unfolding within join_to
  within_next i = refl

  pub within_near : (i : ℕ) → d i ≤ radius * radius → within d radius (i + 1) ≡ within d radius i ++ (i ∷ [])
  within_near i h = rw (add-one, within_next i, le-leb _ _ h)

  pub within_not : (i : ℕ) → radius * radius < d i → within d radius (i + 1) ≡ within d radius i
  within_not i h = rw (add-one, within_next i, lt-leb _ _ h) (append-nil (within d radius i))

  one_more : (b : Bool) (l : List ℕ) (p : ℕ) → length l ≤ length (l ++ only_if b p)
  one_more b l p = rw length-append (omega arith)

  at_most_one : (b : Bool) (l : List ℕ) (p : ℕ) → length (l ++ only_if b p) ≤ suc (length l)
  at_most_one true l p = rw length-append (omega arith)
  at_most_one false l p = rw length-append (omega arith)

  -- no more places than nodes
  pub within_few : (n : ℕ) → length (within d radius n) ≤ n
  within_few zero = rw within_none (omega arith)
  within_few (suc n) =
      rw (within_next n) (omega (arith, within_few n, at_most_one (leb (d n) (radius * radius)) (within d radius n) n))

  later : (i k : ℕ) → length (within d radius i) ≤ length (within d radius (k + i))
  later i zero = rw zero-add (omega arith)
  later i (suc k) =
      let near = leb (d (k + i)) (radius * radius) in
      rw (suc-add, within_next (k + i)) (omega (arith, later i k, one_more near (within d radius (k + i)) (k + i)))

  -- fewer nodes list no more places
  pub within_more : (i n : ℕ) → i ≤ n → length (within d radius i) ≤ length (within d radius n)
  within_more i n h = rw (sub-add_cancel h) at (later i (n - i))

-- the next of a list that goes over the first entries of another
pub filled_more : (l s : List ℕ) (k v : ℕ) → k ≡ length l → k < length s
    → set (l ++ drop k s) k v ≡ (l ++ (v ∷ [])) ++ drop (k + 1) s
filled_more l s k v e h =
    rw (drop-cons s k 0 h, set_at l _ _ v k (sym e), add-one) (sym (append_snoc l v (drop (suc k) s)))

-- one node more, by the number r that was compared with the limit
module _ (d : ℕ → ℕ) (radius i r limit : ℕ) (e : r ≡ bounded limit (d i)) (l : limit ≡ radius * radius + 1) where
  pub listed_near : r < limit → within d radius (i + 1) ≡ within d radius i ++ (i ∷ [])
  listed_near h = within_near d radius i (omega (arith, (below_limit r limit (d i) e h).0))

  pub listed_not : limit ≤ r → within d radius (i + 1) ≡ within d radius i
  listed_not h = within_not d radius i (omega (arith, not_below r limit (d i) e h))

  pub room_near : (n room : ℕ) → r < limit → i < n → length (within d radius n) ≤ room → length (within d radius i)
      < room
  room_near n room h lt le =
      omega (
        arith,
        ap length (listed_near h),
        length-append (within d radius i) (i ∷ []),
        within_more d radius
            (i + 1) n (omega arith),
      )

  pub filled_near : (before places : List ℕ) (k : ℕ) → r < limit → k ≡ length (within d radius i) → k < length before
      → places ≡ within d radius i ++ drop k before → set places k i ≡ within d radius (i + 1) ++ drop (k + 1) before
  filled_near before places k h long room is =
      ap (λ (p : List ℕ). set p k i) is ∙ filled_more (within d radius i) before k i long room
      ∙ ap (λ (p : List ℕ). p ++ drop (k + 1) before) (sym (listed_near h))

-- they are as many as the nodes that pass the test
module _ (x y radius limit : ℕ) (l : limit ≡ radius * radius + 1) (nodes : List NodeEntry) where
  abbrev d : ℕ → ℕ
  d = far x y nodes

  abbrev pub near : NodeEntry → Bool
  near w = ltb (bounded limit (far_from x y w)) limit

  one_counted : (i : ℕ) (b : Bool) → near (get_or nodes i no_entry) ≡ b
      → length (within d radius i) + cond b 1 0 ≡ length (within d radius (i + 1))
  unfolding far
  one_counted i true t = omega (
    arith,
    ap length (listed_near d radius i _ limit refl l (ltb-true _ limit t)),
    length-append (within d radius i) (i ∷ []),
  )
  one_counted i false f = omega (arith, ap length (listed_not d radius i _ limit refl l (ltb-false _ limit f)))

  counted_to : (i : ℕ) → i ≤ length nodes → length (filter near (take i nodes)) ≡ length (within d radius i)
  counted_to zero le = ap length (sym (within_none d radius))
  counted_to (suc i) le =
      ap (λ (k : ℕ). length (filter near (take k nodes))) (sym (add-one i))
      ∙ length-filter_more near nodes i no_entry (omega arith)
      ∙ ap (λ (n : ℕ). n + cond (near (get_or nodes i no_entry)) 1 0) (counted_to i (omega arith))
      ∙ one_counted i (near (get_or nodes i no_entry)) refl
      ∙ ap (λ (k : ℕ). length (within d radius k)) (add-one i)

  pub all_counted : length (filter near nodes) ≡ length (within d radius (length nodes))
  all_counted = ap (λ (q : List NodeEntry). length (filter near q)) (sym (take-length nodes))
      ∙ counted_to (length nodes) (omega arith)

-- ---- the nearest

module _ (d : ℕ → ℕ) where
  pub nearest_here : (i q : ℕ) → nearest_of d i ≡ some q → d i < d q → nearest_of d (i + 1) ≡ some i
  unfolding nearest_of
  nearest_here i q e h = rw (add-one, e, lt-ltb _ _ h)

  pub nearest_there : (i q : ℕ) → nearest_of d i ≡ some q → d q ≤ d i → nearest_of d (i + 1) ≡ some q
  unfolding nearest_of
  nearest_there i q e h = rw (add-one, e, le-ltb _ _ h)

  pub nearest_one : nearest_of d 1 ≡ some 0
  unfolding nearest_of
  nearest_one = refl

-- a node behind the first
pub nearest_rest : (x y i : ℕ) (nodes : List NodeEntry) → i < length (take (length nodes - 1) (drop 1 nodes))
    → far_from x y (get_or (take (length nodes - 1) (drop 1 nodes)) i no_entry) ≡ far x y nodes (i + 1)
unfolding far
nearest_rest x y i nodes h = ap (far_from x y) (get_or-take (length nodes - 1) (drop 1 nodes) i no_entry
    (omega (arith, length-take-le (length nodes - 1) (drop 1 nodes) (omega (arith, length-drop 1 nodes))))
    ∙ get_or-drop 1 nodes i no_entry
    ∙ ap (λ (k : ℕ). get_or nodes k no_entry) (swap i))
  where
    swap : (i : ℕ) → 1 + i ≡ i + 1
    swap i = omega arith

-- ---- the laws that each function goes by, for the check

-- the steps of a node as the code reads them
pub far_read : (x y : ℕ) (w : NodeEntry) → far_from x y w
    ≡ square_apart x (raised_step (step_of 2 (of_bits binary32 w.position.x)))
    + square_apart y (raised_step (step_of 2 (of_bits binary32 w.position.y)))
unfolding far_from stored
far_read x y w = refl

pub ruleset bounded_laws = (bounded_under, bounded_over, far_read)

pub ruleset nearest_laws = (below_limit, not_below, nearest_here, nearest_there, nearest_one)
