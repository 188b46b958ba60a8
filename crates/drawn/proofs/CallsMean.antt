-- On made cells every call is one function of the cell, and so is every list of calls.
-- Assumes nothing but that the arguments fit their types.
use Prim.Native.Nat.{ℕ}
use mathlib.Core.Path.{◌≡◌, refl, ap, ◌∙◌}
use mathlib.Core.Bool.{cond}
use mathlib.Core.List.{List, [], ◌∷◌}
use lib.ListN.{length}
use Rattle.std.specs.Prelude.{Result, Ok, Err}
use Rattle.numbers.specs.Refusals.{Answer}
use Rattle.numbers.specs.declared.refusal.Refusal.{Refusal}
use Rattle.cells.specs.Memory.{Memory}
use Rattle.cells.specs.Cell.{renumber_cell}
use Rattle.cells.specs.CellOf.{cell_of}
use Rattle.cells.specs.FileCell.{file_cell}
use Rattle.cells.specs.Read.{read_of}
use Rattle.cells.specs.Renumber.{renumber}
use Rattle.cells.specs.WriteRead.{write_read_of}
use Rattle.cells.proofs.Reading.NewYnd.{new_empty}
use Rattle.cells.proofs.Reading.FileRead.{read_cell}
use Rattle.cells.proofs.Renumbering.CellRenumbered.{done_call, refused_call}
use Rattle.drawn.specs.Changes.{Change, new, reading, renumbering, write_read, edit, after, run}
use Rattle.drawn.specs.Settled.{settled}
use Rattle.std.specs.Result.{is_ok}
use Rattle.drawn.specs.Meaning.{change_cell, is_accepted, run_cell}
use Rattle.drawn.specs.Fits.{ChangeFits}
use Rattle.drawn.proofs.EditsMean.{edit_cell_law}
use Rattle.drawn.proofs.ReadRefused.{read_refused}
use Rattle.drawn.specs.Fits.{AllFit}
use Rattle.drawn.specs.Made.{Made}
use Rattle.drawn.proofs.Made.{change_made}
use Rattle.drawn.proofs.WriteSettles.{write_read_settles}
use Rattle.drawn.proofs.RawDemand.{write_read_refused}

pub change_means : (m : Memory) → Made m → (k : Change) → ChangeFits k → cell_of (after m k) ≡ cond (is_accepted m k)
    (change_cell k (cell_of m)) (cell_of m)
unfolding after is_accepted
change_means m h new a = new_empty m.nodes m.links m.junctions m.heights m.refs
change_means m h (reading s g) a = go (read_of s g m).answer refl
  where
    go : (x : Answer) → (read_of s g m).answer ≡ x → cell_of (read_of s g m).memory ≡ cond (is_ok x) (file_cell s g)
        (cell_of m)
    go (Ok tt) e = read_cell s g m e
    go (Err cause) e = ap cell_of (read_refused s g m cause e)
change_means m h (renumbering sc ps) a = go (renumber m (length sc) ps).answer refl
  where
    go : (x : Answer) → (renumber m (length sc) ps).answer ≡ x → cell_of (renumber m (length sc) ps).memory ≡ cond
        (is_ok x) (renumber_cell (cell_of m)) (cell_of m)
    go (Ok tt) e = done_call m ps (length sc) e
    go (Err cause) e = ap cell_of (refused_call m ps (length sc) cause e)
change_means m h (write_read s) a = go (write_read_of m s).answer refl
  where
    go : (x : Result ℕ Refusal) → (write_read_of m s).answer ≡ x → cell_of (write_read_of m s).memory ≡ cond (is_ok x)
        (settled (cell_of m)) (cell_of m)
    go (Ok n) e = write_read_settles m h s n e
    go (Err cause) e = ap cell_of (write_read_refused m s cause e)
change_means m h (edit e) a = edit_cell_law m h.tidy e a

-- every list of calls of every kind
pub calls_mean : (m : Memory) → Made m → (ks : List Change) → AllFit ks → cell_of (run m ks) ≡ run_cell m ks
    (cell_of m)
unfolding run run_cell AllFit
calls_mean m h [] a = refl
calls_mean m h (k ∷ ks) a = calls_mean (after m k) (change_made m h k a.0) ks a.1 ∙ ap (run_cell (after m k) ks)
    (change_means m h k a.0)
