-- Links whose fields fit the types of the struct's fields, which is what comes back from a link's record; and steps
-- that an f32 stands for. No demand names this.
use Prim.Native.Nat.{ℕ, suc, ◌<◌, ◌^◌}
use mathlib.Core.Bool.{true, false}
use lib.Dec.{T}
use lib.IntN.{ℤ, pos, negsuc}
use lib.Ieee.{binary32, fits}
use lib.Ieee.Fits.{round-fits}
use Rattle.numbers.specs.Steps.{unstep}
use Rattle.cells.specs.declared.link.PathLink.{PathLink}

pub record LinkFits (l : PathLink) : Type 0 where
  pub area_id : l.area_id < 65536
  pub node_id : l.node_id < 65536
  pub flags0 : l.flags0 < 256
  pub flags1 : l.flags1 < 256
  pub flags2 : l.flags2 < 256
  pub length : l.length < 256

pub unstep_fits : (k : ℕ) (z : ℤ) → T (fits binary32 (unstep k z))
unfolding unstep
unstep_fits k (pos n) = round-fits binary32 false n (2 ^ k)
unstep_fits k (negsuc n) = round-fits binary32 true (suc n) (2 ^ k)
