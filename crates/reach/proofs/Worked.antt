-- Closed facts, each worked out. A wrong definition is refused here.
use Prim.Native.Nat.{ℕ}
use mathlib.Core.Path.{◌≡◌, refl}
use mathlib.Core.List.{[], ◌∷◌}
use mathlib.Core.Option.{some}
use lib.IntN.{pos, negsuc}
use lib.ListN.{get_or}
use Rattle.cells.specs.Lists.{join_to}
use Rattle.reach.specs.Reach.{square, square_distance, within, near_first, ordered, nearest_of}
use Rattle.reach.specs.Sorted.{insert, sorted}

-- the squared distances of five nodes
abbrev five : ℕ → ℕ
five p = get_or (25 ∷ 26 ∷ 9 ∷ 25 ∷ 9 ∷ []) p 0

-- 25 is on the circle of radius 5, 26 one step beyond it
on_circle : within five 5 5 ≡ 0 ∷ 2 ∷ 3 ∷ 4 ∷ []
unfolding within join_to
on_circle = refl

-- T-08: the two at 9 before the two at 25, each pair by place
nearest_first : ordered five (within five 5 5) ≡ 2 ∷ 4 ∷ 0 ∷ 3 ∷ []
unfolding within join_to ordered sorted insert near_first
nearest_first = refl

-- of equal distances the lowest place
lowest : nearest_of five 5 ≡ some 2
unfolding nearest_of
lowest = refl

-- from the lowest step to the highest on both axes: past 32 bits
corner : square_distance (negsuc 32767) (negsuc 32767) (pos 32767) (pos 32767) ≡ 8589672450
unfolding square_distance square
corner = refl
