-- T-02: a yard not drawn yet is sound, so that demand 3 speaks of it too.
use Prim.Native.Nat.{ℕ}
use mathlib.Core.Path.{◌≡◌, ap}
use mathlib.Core.Bool.{true}
use mathlib.Core.List.{List, []}
use Rattle.cells.specs.Lists.{every}
use Rattle.cells.specs.FileCell.{file_cell}
use Rattle.cells.proofs.Reading.UndrawnCell.{undrawn_cell}
use Rattle.walks.specs.Sound.{differing, sound}

pub undrawn_sound : (g : List ℕ) → sound (file_cell [] g) ≡ true
unfolding sound differing every
undrawn_sound g = ap sound (undrawn_cell g)
