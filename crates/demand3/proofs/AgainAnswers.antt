-- The answer at a named input, where a believable slip would give another one.
-- Assumes nothing.
use mathlib.Core.Path.{◌≡◌, refl}
use mathlib.Core.List.{[], ◌∷◌}
use Rattle.demand3.specs.Again.{place_after}
use Rattle.std.specs.Prelude.{Ok}

-- numbers 7, 3 (ped), 9: the node at place 1 stands at 2 after the renumbering
pub start_moves : place_after (Ok tt) (0 ∷ 2 ∷ 1 ∷ []) 1 ≡ 2
start_moves = refl
