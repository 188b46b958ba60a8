-- T-02: the root that reading goes by, of a section that is not drawn yet and of one that is.
-- Assumes nothing.
use Prim.Native.Nat.{ℕ, ◌<◌}
use native.Mathlib.Omega.{arith}
use mathlib.Core.Path.{◌≡◌, refl}
use mathlib.Core.List.{List, [], ◌∷◌}
use lib.ListN.{length}
use Rattle.records.specs.Root.{root_of}
use Rattle.cells.specs.NewYnd.{new_root}
use Rattle.cells.specs.Checks.{root_read}

pub root_undrawn : (s : List ℕ) → length s ≡ 0 → root_read s ≡ new_root
root_undrawn [] h = refl
root_undrawn (b ∷ bs) h = absurd (omega arith)

pub root_drawn : (s : List ℕ) → 0 < length s → root_read s ≡ root_of s
root_drawn [] h = absurd (omega arith)
root_drawn (b ∷ bs) h = refl
