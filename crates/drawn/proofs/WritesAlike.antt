-- Whatever list of calls a cell has been through since it was read, write-then-read is refused exactly as writing is:
-- every such cell is a made one. Assumes nothing.
use Rattle.drawn.proofs.RawDemand.{made_after}
use Prim.Native.Nat.{ℕ}
use mathlib.Core.Path.{◌≡◌}
use mathlib.Core.List.{List, [], ◌∷◌}
use Rattle.std.specs.Prelude.{Ok}
use Rattle.cells.specs.Memory.{Memory}
use Rattle.cells.specs.Read.{read_of}
use Rattle.walks.specs.Calls.{Call, after, run}
use Rattle.walks.specs.Writing.{WritesAlike}
use Rattle.drawn.specs.Changes as drawn
use Rattle.drawn.specs.Fits.{AllFit}
use Rattle.drawn.specs.Made.{Made}
use Rattle.drawn.proofs.Made.{drawn_read}
use Rattle.drawn.proofs.DrawnDemand.{made_writes_alike}

made_run : (m : Memory) (ks : List Call) → Made m → Made (run m ks)
unfolding run
made_run m [] h = h
made_run m (k ∷ ks) h = made_run (after m k) ks (made_after m k h)

made_read : (system graphics : List ℕ) (lent : Memory) → (read_of system graphics lent).answer ≡ Ok tt
    → Made (read_of system graphics lent).memory
unfolding drawn.run AllFit
made_read system graphics lent e = drawn_read system graphics lent e [] tt

pub writes_alike : WritesAlike
writes_alike system graphics lent e calls section =
    made_writes_alike (run (read_of system graphics lent).memory calls)
    (made_run (read_of system graphics lent).memory calls (made_read system graphics lent e)) section
