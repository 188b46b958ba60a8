-- Section 4: the own area is the first node's, and a link or a ref whose area equals it in full is the cell's own.
-- T-07: so is, on an island, one whose area equals it without the bit 1024.
-- The only definitions that compare the area of a link or a ref.
use Rattle.std.specs.Prelude.{ℕ, ◌-◌, Bool, ◌&&◌, ◌||◌, cond, List, [], ◌∷◌, eqb}
use Rattle.numbers.specs.Grid.{is_island_area}

-- the first node's area, 0 if there is no node
abbrev pub own_area : {A : Type 0} → (A → ℕ) → List A → ℕ
own_area area [] = 0
own_area area (n ∷ ns) = area n

-- a link or a ref that names the area x belongs to a cell of the area own: in full or, T-07, if own carries the bit
-- 1024, without the bit
unfoldable pub belongs : ℕ → ℕ → Bool
belongs own x = eqb x own || (is_island_area own && eqb x (own - 1024))

-- in a cell of the area own, a ref of the area x is one for the area a. T-07: a ref that belongs to the cell names the
-- cell's area
unfoldable pub ref_for : ℕ → ℕ → ℕ → Bool
ref_for own x a = eqb (cond (belongs own x) own x) a
