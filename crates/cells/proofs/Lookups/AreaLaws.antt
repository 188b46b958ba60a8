-- The own area, and what belongs to it. Only this file, the two functions' proofs and closed examples open
-- `belongs` and
-- `ref_for`. Assumes nothing.
use Prim.Native.Nat.{ℕ, zero, suc, ◌<◌}
use native.Mathlib.Omega.{arith}
use mathlib.Core.Path.{◌≡◌, refl, ap, sym, ◌∙◌}
use mathlib.Core.Bool.{true, false}
use Rattle.std.proofs.Math.Bool.{or-false}
use mathlib.Core.List.{List, [], ◌∷◌}
use lib.Dec.{eqb}
use lib.ListN.{length, get_or, take}
use borrow.Author.Tests.{eqb-true, eq-eqb}
use Rattle.numbers.specs.Grid.{is_island_area}
use Rattle.cells.specs.Area.{belongs, ref_for}
use Rattle.cells.specs.Order.{Old}
use Rattle.cells.specs.Nodes.{area_of, first_area, relinked, rereffed}
use Rattle.cells.specs.declared.link.PathLink.{PathLink}
use Rattle.records.specs.declared.junction_ref.NodeJunctionRef.{NodeJunctionRef}
use Rattle.cells.proofs.Sequences.Tests.{by_test, true_false}
use Rattle.cells.specs.declared.node_entry.NodeEntry.{NodeEntry}

pub own_first : (n : ℕ) (nodes : List NodeEntry) (z : NodeEntry) → 0 < n → 0 < length nodes → first_area (take n nodes)
    ≡ area_of (get_or nodes 0 z)
unfolding first_area
own_first zero nodes z h k = absurd (omega arith)
own_first (suc n) [] z h k = absurd (omega arith)
own_first (suc n) (w ∷ ws) z h k = refl

pub own_none : (n : ℕ) (nodes : List NodeEntry) → n ≡ 0 → 0 ≡ first_area (take n nodes)
unfolding first_area
own_none zero nodes e = refl
own_none (suc n) nodes e = absurd (omega arith)

pub own_of_none : (n : ℕ) (nodes : List NodeEntry) → length nodes ≡ 0 → 0 ≡ first_area (take n nodes)
unfolding first_area
own_of_none zero nodes e = refl
own_of_none (suc n) [] e = refl
own_of_none (suc n) (w ∷ ws) e = absurd (omega arith)

pub ruleset own_areas = (own_first, own_none, own_of_none)

-- ---- what belongs

-- the own area always does
pub belongs_own : (own : ℕ) → belongs own own ≡ true
unfolding belongs
belongs_own own = rw (eq-eqb own own refl)

-- what does not belong is another area
other_area : (own x : ℕ) → belongs own x ≡ false → eqb x own ≡ false
unfolding belongs
other_area own x f = by_test (eqb x own) (λ t. t ∙ (rw t at f)) (λ e. e)

-- in a cell, a ref for the cell's own area is one that belongs to the cell
pub ref_own : (own x : ℕ) → ref_for own x own ≡ belongs own x
unfolding ref_for
ref_own own x = by_test (belongs own x) (λ t. rw t (eq-eqb own own refl)) (λ f. rw f (other_area own x f))

-- T-07: in a cell without the bit both definitions give what they gave before it
module _ (own : ℕ) (bare : is_island_area own ≡ false) where
  pub belongs_mainland : (x : ℕ) → belongs own x ≡ eqb x own
  unfolding belongs
  belongs_mainland x = rw bare (or-false (eqb x own))

  pub ref_mainland : (x a : ℕ) → ref_for own x a ≡ eqb x a
  unfolding ref_for
  ref_mainland x a = by_test (eqb x own)
      (λ t. rw (belongs_mainland x, t, eqb-true x own t))
      (λ f. rw (belongs_mainland x, f))

  pub mainland : ((x : ℕ) → belongs own x ≡ eqb x own) × ((x a : ℕ) → ref_for own x a ≡ eqb x a)
  mainland = (belongs_mainland, ref_mainland)

  -- so it never claims a link with the bit
  pub never_claimed : (x : ℕ) → is_island_area x ≡ true → belongs own x ≡ false
  never_claimed x i =
      by_test (eqb x own)
      (λ t. true_false (sym i ∙ ap is_island_area (eqb-true x own t) ∙ bare))
      (λ f. belongs_mainland x ∙ f)

-- T-07: a claimed link or ref is given another number, never another area
module _ (o : Old) where
  pub link_area : (l : PathLink) → (relinked o l).area_id ≡ l.area_id
  link_area l = refl

  pub ref_area : (r : NodeJunctionRef) → (rereffed o r).area_id ≡ r.area_id
  ref_area r = refl
