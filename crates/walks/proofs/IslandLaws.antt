-- On an island a link or a ref of the cell's area without the bit 1024 belongs to the cell, as one of its area in full
-- does; nothing else does (docs/FORMAT.md, Islands).
-- Assumes nothing.
use Rattle.std.proofs.Common.{◌≡◌, ℕ, ◌-◌, List, refl, ◌∙◌, eqb}
use Rattle.std.specs.Prelude.{true, ◌&&◌}
use mathlib.Core.Logic.{◌⊎◌, inl, inr}
use borrow.Author.Tests.{eqb-true, eq-eqb}
use Rattle.numbers.specs.Grid.{is_island_area}
use Rattle.cells.specs.Area.{belongs, ref_for}
use Rattle.cells.specs.Cell.{Node, numbers, first_of}
use Rattle.cells.specs.Lookup.{find}
use Rattle.cells.specs.declared.link.PathLink.{PathLink}
use Rattle.cells.proofs.Lookups.AreaLaws.{ref_own}
use Rattle.cells.proofs.Sequences.Tests.{by_test, and_left, and_right}
use Rattle.walks.specs.Walk.{arrive, leads}

-- the area without the bit
pub bare_belongs : (own : ℕ) → is_island_area own ≡ true → belongs own (own - 1024) ≡ true
unfolding belongs
bare_belongs own i =
    by_test (eqb (own - 1024) own) (λ t. rw t refl) (λ f. rw (f, i, eq-eqb (own - 1024) (own - 1024) refl) refl)

-- that area and the own one alone
pub belongs_only : (own x : ℕ) → belongs own x ≡ true → (x ≡ own) ⊎ ((is_island_area own ≡ true) × (x ≡ own - 1024))
unfolding belongs
belongs_only own x h =
    by_test (eqb x own) (λ t. inl (eqb-true x own t)) (λ f.
    let r : is_island_area own && eqb x (own - 1024) ≡ true = rw f at h in
    inr (and_left _ _ r, eqb-true _ _ (and_right (is_island_area own) _ r)))

-- so a walk goes on by such a link to what `node` finds
pub bare_link : (ns : List Node) (l : PathLink) → is_island_area (first_of ns) ≡ true
    → l.area_id ≡ first_of ns - 1024 → leads ns l ≡ arrive (find (numbers ns) l.node_id)
bare_link ns l i e = rw (e, bare_belongs (first_of ns) i) refl

-- and such a ref is one for the cell's area
pub bare_ref : (own : ℕ) → is_island_area own ≡ true → ref_for own (own - 1024) own ≡ true
bare_ref own i = ref_own own (own - 1024) ∙ bare_belongs own i
