-- Every cell that calls can make: tidy in memory, with numbers that fit their fields.
-- Assumes nothing but that the arguments fit their types.
use Prim.Native.Nat.{ℕ}
use mathlib.Core.Path.{◌≡◌, refl, sym, ◌∙◌, subst}
use mathlib.Core.List.{List, [], ◌∷◌}
use lib.ListN.{length, take}
use Rattle.std.specs.Prelude.{Result, Ok, Err}
use Rattle.numbers.specs.Refusals.{Answer}
use Rattle.numbers.specs.declared.refusal.Refusal.{Refusal}
use Rattle.cells.specs.CellOf.{cell_of}
use Rattle.cells.specs.Memory.{Memory, memory}
use Rattle.cells.specs.NewYnd.{new_ynd}
use Rattle.cells.specs.Read.{read_of}
use Rattle.cells.specs.Renumber.{renumber}
use Rattle.cells.specs.Write.{write_call}
use Rattle.cells.specs.WriteRead.{if_read, if_written, write_read_of}
use Rattle.cells.proofs.WritingBack.KeptCells.{Kept}
use Rattle.cells.proofs.WritingBack.Kept.{read_kept}
use Rattle.cells.proofs.Reading.FileRead.{read_cell}
use Rattle.cells.proofs.Renumbering.CellRenumbered.{done_call, refused_call, done_few}
use Rattle.drawn.specs.Changes.{edited, Change, new, reading, renumbering, write_read, edit, after, run}
use Rattle.drawn.specs.Fits.{ChangeFits}
use Rattle.drawn.proofs.EditsMean.{edit_means, edit_refused}
use Rattle.drawn.proofs.ReadRefused.{read_refused}
use Rattle.drawn.proofs.TidyCalls.{new_tidy, read_tidy}
use Rattle.drawn.specs.Fits.{AllFit}
use Rattle.drawn.proofs.Run.{change_tidy}
use Rattle.drawn.specs.Made.{Fitted}
use Rattle.cells.specs.FileCell.{file_cell}
use Rattle.cells.proofs.Reading.UndrawnCell.{undrawn_cell}
use Rattle.cells.proofs.Reading.NewYnd.{new_empty}
use Rattle.drawn.proofs.FittedCells.{kept_fitted}
use Rattle.drawn.proofs.Fitted.{edit_fitted, fitted_again}
use Rattle.drawn.specs.Made.{Made}
use Rattle.cells.specs.declared.node_entry.NodeEntry.{NodeEntry}
use Rattle.cells.specs.declared.link.PathLink.{PathLink}
use Rattle.cells.specs.declared.junction_entry.JunctionEntry.{JunctionEntry}
use Rattle.records.specs.declared.junction_ref.NodeJunctionRef.{NodeJunctionRef}

new_fitted : (nodes : List NodeEntry) (links : List PathLink) (junctions : List JunctionEntry) (heights : List ℕ)
    (refs : List NodeJunctionRef) → Fitted (cell_of (memory new_ynd nodes links junctions heights refs))
new_fitted nodes links junctions heights refs = subst Fitted
    (undrawn_cell [] ∙ sym (new_empty nodes links junctions heights refs))
    (kept_fitted (file_cell [] []) (read_kept [] []))

pub new_made : (nodes : List NodeEntry) (links : List PathLink) (junctions : List JunctionEntry) (heights : List ℕ)
    (refs : List NodeJunctionRef) → Made
    (memory new_ynd nodes links junctions heights refs)
new_made nodes links junctions heights refs =
    record { tidy = new_tidy nodes links junctions heights refs; fits = new_fitted nodes links junctions heights refs }

-- what reading leaves is kept by storing
pub kept_read : (s g : List ℕ) (m : Memory) → (read_of s g m).answer ≡ (Ok tt) → Kept (cell_of (read_of s g m).memory)
kept_read s g m e = rw (read_cell s g m e) (read_kept s g)

pub read_made : (s g : List ℕ) (m : Memory) → (read_of s g m).answer ≡ (Ok tt) → Made (read_of s g m).memory
read_made s g m e = record {
  tidy = read_tidy s g m e;
  fits = kept_fitted (cell_of (read_of s g m).memory)
      (kept_read s g m e);
}

change_fitted : (m : Memory) → Made m → (k : Change) → ChangeFits k → Fitted (cell_of (after m k))
unfolding after write_read_of
change_fitted m h new a = new_fitted m.nodes m.links m.junctions m.heights m.refs
change_fitted m h (reading s g) a = go (read_of s g m).answer refl
  where
    go : (x : Answer) → (read_of s g m).answer ≡ x → Fitted (cell_of (read_of s g m).memory)
    go (Ok tt) e = (read_made s g m e).fits
    go (Err cause) e = rw (read_refused s g m cause e) h.fits
change_fitted m h (renumbering scratch places) a = go (renumber m (length scratch) places).answer refl
  where
    go : (x : Answer) → (renumber m (length scratch) places).answer ≡ x → Fitted
        (cell_of (renumber m (length scratch) places).memory)
    go (Ok tt) e = rw (done_call m places (length scratch) e) (fitted_again (cell_of m)
        (done_few m places (length scratch) e) h.fits)
    go (Err cause) e = rw (refused_call m places (length scratch) cause e) h.fits
change_fitted m h (write_read s) a = go (write_call m s).answer
  where
    t : List ℕ
    t = (write_call m s).section

    back : (n : ℕ) (c : Answer) → (read_of (take n t) [] m).answer ≡ c → Fitted
        (cell_of (if_read n t c (read_of (take n t) [] m).memory m s).memory)
    back n (Err cause) e = h.fits
    back n (Ok tt) e = (read_made (take n t) [] m e).fits

    go : (x : Result ℕ Refusal) → Fitted (cell_of (if_written x t m s).memory)
    go (Err cause) = h.fits
    go (Ok n) = back n (read_of (take n t) [] m).answer refl
change_fitted m h (edit e) a =
    go (edited m e).answer refl
  where
    go : (x : Answer) → (edited m e).answer ≡ x → Fitted (cell_of (edited m e).memory)
    go (Ok tt) d = rw (edit_means m h.tidy e a d) (edit_fitted m h.tidy h.fits e a d)
    go (Err cause) d = rw (edit_refused m e cause d) h.fits

-- every call, accepted or refused
pub change_made : (m : Memory) → Made m → (k : Change) → ChangeFits k → Made (after m k)
change_made m h k a = record { tidy = change_tidy m h.tidy k a; fits = change_fitted m h k a }

-- every list of calls
pub run_made : (m : Memory) → Made m → (ks : List Change) → AllFit ks → Made (run m ks)
unfolding run AllFit
run_made m h [] a = h
run_made m h (k ∷ ks) a = run_made (after m k) (change_made m h k a.0) ks a.1

-- from a new cell, in whatever lists are lent; from an accepted reading, into whatever memory is lent
pub drawn_new : (lent : Memory) (ks : List Change) → AllFit ks → Made (run (after lent new) ks)
unfolding after
drawn_new lent ks a = run_made (after lent new)
    (new_made lent.nodes lent.links lent.junctions lent.heights lent.refs) ks a

pub drawn_read : (system graphics : List ℕ) (lent : Memory) → (read_of system graphics lent).answer ≡ (Ok tt)
    → (ks : List Change) → AllFit ks → Made (run (read_of system graphics lent).memory ks)
drawn_read system graphics lent e ks a = run_made (read_of system graphics lent).memory
    (read_made system graphics lent e) ks a
