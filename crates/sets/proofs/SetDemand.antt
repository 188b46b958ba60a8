-- The claim of T-09: a sound set, each of its members a cell as read.
use Prim.Native.Nat.{ℕ}
use mathlib.Core.Path.{◌≡◌, sym, subst, ◌∙◌}
use mathlib.Core.List.{List}
use lib.ListN.{length, length-map}
use Rattle.cells.specs.Memory.{Memory}
use Rattle.cells.specs.Read.{read_of}
use Rattle.cells.specs.CellOf.{cell_of}
use Rattle.cells.proofs.WritingBack.KeptCells.{Kept}
use Rattle.cells.proofs.Reading.FileRead.{read_cell}
use Rattle.cells.proofs.WritingBack.Kept.{read_kept}
use Rattle.walks.proofs.Routes.{same_walk}
use Rattle.walks.proofs.WalksAlike.{nodes_long, read_lies}
use Rattle.sets.specs.Members.{no_cell}
use Rattle.sets.specs.Crossing.{crossing}
use Rattle.sets.specs.MemberList.{member_at, cells_of, over_set}
use Rattle.sets.specs.SetCalls.{SetCall, run_in, moved_in}
use Rattle.sets.specs.SetClaim.{CellAsRead, SetUnnoticed, SetUnnoticedTheorem}
use Rattle.std.proofs.lemmas.List.Elements.{All-from_get_or}
use Rattle.sets.proofs.SetMemory.{cell_at_law}
use Rattle.sets.proofs.SetRuns.{Alike, Fit, run_alike, run_fit, run_numbers}
use Rattle.sets.proofs.CrossingAlike.{Held, same_over, answers_alike, run_held}
use Rattle.std.specs.Prelude.{Ok}

-- of a sound set that storing keeps, in lists that hold it, and of every list of calls
pub unnoticed : (ms : List Memory) → Fit (cells_of ms) → Held ms → (calls : List SetCall) → SetUnnoticed ms calls
unnoticed ms h l calls =
    let ds = run_in ms calls in
    let f = moved_in ms calls in
    let a : Alike (cells_of ms) (cells_of ds) f = run_alike ms calls h in
    let many : length ds ≡ length ms = sym (length-map ds cell_of) ∙ a.same_count ∙ length-map ms cell_of in
    let lies : Held ds = run_held ms calls l in
    let over : over_set ds ≡ over_set ms = same_over ms ds l lies many (λ i li.
    sym (nodes_long (member_at ds i) (lies i (rw many li)))
    ∙ (rw (cell_at_law ds i, cell_at_law ms i) at (a.same_nodes i (rw length-map li)))
    ∙ nodes_long (member_at ms i) (l i li)) in
    record {
      same_members = many;
      still_there = a.inside;
      same_member = a.same_member;
      still_sound = (run_fit ms calls h).is_sound;
      same_areas = a.same_areas;
      same_walks = λ choices s st.
          same_walk f (crossing (cells_of ms) choices s) (crossing (cells_of ds) choices (f s))
          (a.same_walks choices s st);
      same_answers = λ choices s st. answers_alike ms ds f l lies over choices s st (a.inside s st)
          (same_walk f (crossing (cells_of ms) choices s) (crossing (cells_of ds) choices (f s))
          (a.same_walks choices s st));
      numbered = λ i li. run_numbers ms calls h i (rw length-map li);
    }

pub set_unnoticed : SetUnnoticedTheorem
set_unnoticed ms r s calls =
    unnoticed ms
    (record {
      is_sound = s;
      is_kept = All-from_get_or Kept (cells_of ms) no_cell (λ i lt.
          let w = r i (rw length-map at lt) in
          subst Kept (sym (cell_at_law ms i ∙ w.same_cell)) (read_kept w.system w.graphics));
    })
    (λ i lt. let w = r i lt in record { within = w.within; nodes_lie = w.nodes_lie; links_lie = w.links_lie })
    calls

-- the memory that an accepted reading leaves is a member as read
pub as_read : (system graphics : List ℕ) (lent : Memory) → (read_of system graphics lent).answer ≡ (Ok tt)
    → CellAsRead (read_of system graphics lent).memory
as_read system graphics lent e =
    let l = read_lies system graphics lent e in
    record {
      system = system;
      graphics = graphics;
      lent = lent;
      accepted = e;
      same_cell = read_cell system graphics lent e;
      within = l.within;
      nodes_lie = l.nodes_lie;
      links_lie = l.links_lie;
    }
