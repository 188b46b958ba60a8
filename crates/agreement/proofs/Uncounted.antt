-- T-14 proved: all of it follows from the one equation of the two readings.
-- Assumes nothing.
use mathlib.Core.Path.{subst, ◌≡◌, sym, ap, ◌∙◌}
use mathlib.Core.List.{◌∷◌, ◌++◌}
use Rattle.cells.specs.Memory.{Memory, Left}
use Rattle.cells.specs.Read.{read_of}
use Rattle.cells.specs.Write.{write_call}
use Rattle.cells.specs.CellOf.{cell_of}
use Rattle.cells.proofs.Reading.FileRead.{read_cell}
use Rattle.walks.specs.Walk.{walk}
use Rattle.walks.specs.WalkCall.{walk_call}
use Rattle.walks.specs.Calls.{run, moved}
use Rattle.reach.specs.Reach.{within_call, nearest_call}
use Rattle.rounds.specs.Follow.{follow_round}
use Rattle.paths.specs.PathCall.{PathLeft}
use Rattle.sets.specs.Join.{join_cell}
use Rattle.sets.specs.Crossing.{crossing}
use Rattle.sets.specs.MemberList.{cells_of}
use Rattle.sets.specs.SetCalls.{run_in}
use Rattle.agreement.specs.Claim.{SameRounds, SameLater, BytesThatDontCount}
use Rattle.agreement.proofs.Agreed.{reads_same, counts_same}

pub rounds_same : (m m' : Memory) → m ≡ m' → SameRounds m m'
rounds_same m m' e = record {
  same_written = λ section i. write_call (e i) section;
  same_walks = λ calls choices p i. walk (cell_of (run (e i) calls)) choices p;
  same_walk_calls = λ calls choices p visited i. walk_call (run (e i) calls) choices p visited;
  same_moves = λ calls p i. moved (e i) calls p;
  same_written_after = λ calls section i. write_call (run (e i) calls) section;
}

pub later_same : (m m' : Memory) → m ≡ m' → SameLater m m'
later_same m m' e = record {
  same_listing = λ x y radius places i. within_call (e i).ynd (e i).nodes x y radius places;
  same_nearest = λ x y i. nearest_call (e i).ynd (e i).nodes x y;
  same_round = λ start choices visited i. follow_round (e i) start choices visited;
  same_path = λ p q scratch choices places a s c t.
      let P : Memory → Type 0 = λ x. PathLeft x p q scratch choices places a s c t in
      (subst P e, subst P (sym e));
  same_join = λ count y sizes i. join_cell count y (e i) sizes;
  same_crossing = λ first later calls choices s i. crossing (cells_of (run_in (first ++ (e i ∷ later)) calls))
      choices s;
}

pub bytes_that_don't_count : BytesThatDontCount
bytes_that_don't_count s g s' g' h lent =
    let e : read_of s g lent ≡ read_of s' g' lent = reads_same s g s' g' h lent in
    record {
      same_reading = e;
      same_cell = λ done.
          sym (read_cell s g lent done)
          ∙ (λ i. cell_of (e i).memory)
          ∙ read_cell s' g' lent (ap (λ (l : Left). l.answer) (sym e) ∙ done);
      same_count = counts_same s g s' g' h;
      same_rounds = rounds_same (read_of s g lent).memory (read_of s' g' lent).memory (λ i. (e i).memory);
      same_later = later_same (read_of s g lent).memory (read_of s' g' lent).memory (λ i. (e i).memory);
    }
