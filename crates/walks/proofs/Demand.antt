-- Demand 3, with no hypothesis but document 01's: the reading is accepted, and the cell is sound.
use Prim.Native.Nat.{ℕ, ◌<◌}
use native.Mathlib.Omega.{arith}
use mathlib.Core.Path.{◌≡◌, ap, sym, subst, ◌∙◌}
use mathlib.Core.Bool.{true}
use mathlib.Core.List.{List}
use lib.ListN.{length}
use Rattle.cells.specs.Memory.{Memory}
use Rattle.cells.specs.Read.{read_of}
use Rattle.cells.specs.Cell.{Cell}
use Rattle.cells.specs.CellOf.{cell_of}
use Rattle.cells.specs.FileCell.{file_cell}
use Rattle.cells.proofs.WritingBack.KeptCells.{Kept}
use Rattle.walks.specs.Sound.{sound}
use Rattle.walks.specs.Walk.{walk}
use Rattle.walks.specs.WalkCall.{route, walk_call}
use Rattle.walks.specs.Calls.{Call, run, moved}
use Rattle.walks.specs.Claim.{Unnoticed, Demand3}
use Rattle.cells.proofs.Reading.FileRead.{read_cell}
use Rattle.cells.proofs.WritingBack.Kept.{read_kept}
use Rattle.walks.proofs.CallLists.{Alike, Fit, run_alike, run_numbers}
use Rattle.walks.proofs.Routes.{same_walk, move_route}
use Rattle.walks.proofs.WalksAlike.{Lies, read_lies, run_lies, route_left, calls_alike, answers_alike}
use Rattle.std.specs.Prelude.{Ok}

-- of a sound cell that storing keeps, in lists that hold it, and of every list of calls
unnoticed : (m : Memory) → Fit (cell_of m) → Lies m → (calls : List Call) → Unnoticed (cell_of m) m calls
unnoticed m h l calls =
    let d = run m calls in
    let f = moved m calls in
    let a : Alike (cell_of m) (cell_of d) f = run_alike m calls h in
    record {
      still_there = λ p lt. omega (arith, a.inside p lt, a.same_count);
      same_walks = λ choices p lt. same_walk f (walk (cell_of m) choices p) (walk (cell_of d) choices (f p))
          (a.same_walks choices p lt);
      same_answers = λ choices p lt visited later e. answers_alike m d f l (run_lies m calls l) a choices p lt
          visited later e;
      numbered = run_numbers m calls h;
    }

module _ (system graphics : List ℕ) (lent : Memory) (e : (read_of system graphics lent).answer ≡ (Ok tt))
    (s : sound (file_cell system graphics) ≡ true) where
  abbrev first : Memory
  first = (read_of system graphics lent).memory

  same : cell_of first ≡ file_cell system graphics
  same = read_cell system graphics lent e

  fit : Fit (cell_of first)
  fit = record { is_sound = ap sound same ∙ s; is_kept = subst Kept (sym same) (read_kept system graphics) }

  lies : Lies first
  lies = read_lies system graphics lent e

pub demand_3 : Demand3
demand_3 system graphics lent e s calls =
    rw (same system graphics lent e s) at
    (unnoticed (first system graphics lent e s) (fit system graphics lent e s) (lies system graphics lent e s)
    calls)

-- the visited list too: after any list of calls `walk` leaves in it the places of the walk in the first cell, each
-- moved on
pub walks_unnoticed : (system graphics : List ℕ) (lent : Memory) → (read_of system graphics lent).answer ≡ (Ok tt)
    → sound (file_cell system graphics) ≡ true
    → (calls : List Call) (choices : List ℕ) (p : ℕ) → p < length (file_cell system graphics).nodes
    → (visited : List ℕ)
    → walk_call (run (read_of system graphics lent).memory calls) choices
    (moved (read_of system graphics lent).memory calls p) visited
    ≡ route_left (move_route (moved (read_of system graphics lent).memory calls)
    (route (file_cell system graphics).nodes choices p)) visited
walks_unnoticed system graphics lent e s calls choices p lt visited =
    let m = first system graphics lent e s in
    let h = lies system graphics lent e s in
    let c : cell_of m ≡ file_cell system graphics = same system graphics lent e s in
    calls_alike m (run m calls) (moved m calls) h (run_lies m calls h)
    (run_alike m calls (fit system graphics lent e s)) choices p
    (let q : p < length (cell_of m).nodes = rw c lt in q) visited
    ∙ ap (λ (x : Cell). route_left (move_route (moved m calls) (route x.nodes choices p)) visited) c
