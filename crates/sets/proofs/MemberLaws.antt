-- Which member a link names, and the step of a crossing walk by it.
use Prim.Native.Nat.{ℕ, suc, ◌<◌}
use native.Mathlib.Omega.{arith}
use mathlib.Core.Path.{◌≡◌, refl, ap, sym, ◌∙◌}
use mathlib.Core.Bool.{Bool, true, false, cond}
use mathlib.Core.List.{List, [], ◌∷◌}
use mathlib.Core.Option.{Option, none, some}
use lib.Dec.{eqb}
use lib.ListN.{length, get_or, get_or-map}
use borrow.Author.Tests.{eqb-true, eq-eqb, ne_eqb}
use Rattle.cells.specs.Area.{belongs}
use Rattle.cells.proofs.Lookups.AreaLaws.{belongs_own}
use Rattle.cells.specs.Cell.{Cell, numbers}
use Rattle.cells.specs.Lookup.{first_with, or_later, find}
use Rattle.cells.proofs.Sequences.Tests.{by_test, true_false}
use Rattle.walks.specs.Walk.{Next, stop, next, link_at, take_link, arrive}
use Rattle.walks.specs.declared.walk.End.TheVariants.{NoLink}
use Rattle.sets.specs.Members.{no_cell, cell_at, area_of, areas, member_for}
use Rattle.sets.specs.Crossing.{Location, arrive_in, enter, on_from, next_in}
use Rattle.sets.specs.SetRenumber.{is_member}
use Rattle.cells.specs.declared.link.PathLink.{PathLink}

never : {P : Type 0} {i : ℕ} → ◌≡◌ {A = Option ℕ} none (some i) → P
never e = let z : ◌≡◌ {A = ℕ} 0 1 = cc in absurd (omega arith)

-- the first with a number has it
pub first_has : (xs : List ℕ) (k q : ℕ) → first_with xs k ≡ some q → (q < length xs) × (get_or xs q 0 ≡ k)
unfolding first_with
first_has [] k q e = never e
first_has (x ∷ xs) k q e = go (eqb x k) refl (first_with xs k) (first_has xs k) e
  where
    go : (b : Bool) → eqb x k ≡ b → (r : Option ℕ) → ((j : ℕ) → r ≡ some j → (j < length xs) × (get_or xs j 0 ≡ k))
        → or_later b r ≡ some q → (q < suc (length xs)) × (get_or (x ∷ xs) q 0 ≡ k)
    go true t r h e = let z : 0 ≡ q = cc in rw (← z) (omega arith, eqb-true x k t)
    go false t (some j) h e = let z : suc j ≡ q = cc in let r = h j refl in rw (← z) (omega (arith, r.0), r.1)
    go false t none h e = never e

module _ (all : List ℕ) (i a : ℕ) where
  -- a member that a link names is there
  pub member_inside : (k : ℕ) → i < length all → member_for all i a ≡ some k → k < length all
  unfolding member_for
  member_inside k lt e = go (belongs (get_or all i 0) a) e
    where
      go : (b : Bool) → cond b (some i) (first_with all a) ≡ some k → k < length all
      go true e = let z : i ≡ k = cc in omega arith
      go false e = (first_has all a k e).0

  pub member_own : belongs (get_or all i 0) a ≡ true → member_for all i a ≡ some i
  unfolding member_for
  member_own b = rw b

  pub member_other : belongs (get_or all i 0) a ≡ false → member_for all i a ≡ first_with all a
  unfolding member_for
  member_other f = rw f

  -- a link names its own member exactly where the own rule claims it
  pub names_own : is_member i (member_for all i a) ≡ belongs (get_or all i 0) a
  unfolding member_for
  names_own = by_test (belongs (get_or all i 0) a)
      (λ b. rw b (eq-eqb i i refl))
      (λ f. rw f (go (first_with all a) (first_has all a) f))
    where
      go : (r : Option ℕ) → ((q : ℕ) → r ≡ some q → (q < length all) × (get_or all q 0 ≡ a))
          → belongs (get_or all i 0) a ≡ false → is_member i r ≡ false
      go none h f = refl
      go (some q) h f = ne_eqb q i (λ e. true_false (sym (belongs_own a)
          ∙ (ap (λ (x : ℕ). belongs x a) (sym (h q refl).1 ∙ ap (λ (x : ℕ). get_or all x 0) e) ∙ f)))

-- ---- the step

-- a link leads into the member that it names, and out of the set if it names none
abbrev pub take_in : List Cell → ℕ → Option PathLink → Next Location
take_in cs i (some l) = enter cs l.area_id l.node_id (member_for (areas cs) i l.area_id)
take_in cs i none = stop NoLink

pub area_at : (cs : List Cell) (i : ℕ) → get_or (areas cs) i 0 ≡ area_of (cell_at cs i)
area_at cs i = get_or-map area_of cs i no_cell

pub next_is : (cs : List Cell) (s : Location) (b : ℕ) → next_in cs s b
    ≡ take_in cs s.member (link_at (cell_at cs s.member).nodes s.place b)
unfolding next_in next member_for
next_is cs s b = go (link_at (cell_at cs s.member).nodes s.place b)
  where
    i : ℕ
    i = s.member

    arrives : (j : ℕ) (r : Option ℕ) → on_from cs j (arrive r) ≡ arrive_in j r
    arrives j (some q) = refl
    arrives j none = refl

    go : (l : Option PathLink) → on_from cs i (take_link (cell_at cs i).nodes l) ≡ take_in cs i l
    go none = refl
    go (some l) = rw (area_at cs i) (by_test (belongs (area_of (cell_at cs i)) l.area_id)
        (λ t. rw t (arrives i (find (numbers (cell_at cs i).nodes) l.node_id)))
        (λ f. rw f))

-- for the check
pub ruleset member_laws = (member_own, member_other)
