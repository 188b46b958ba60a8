-- What write-then-read answers, found before anything is stored: writing's checks, then those of reading back. No
-- public function's contract cites this.
use Rattle.std.specs.Prelude.{ℕ, ltb, length}
use Rattle.numbers.specs.Refusals.{refuse_if, unless, and_then}
use Rattle.cells.specs.Memory.{Memory, short_of}
use Rattle.cells.specs.Blocks.{written}
use Rattle.cells.specs.WriteCounts.{write_counts}
use Rattle.cells.specs.BackCheck.{back_check}
use Rattle.cells.specs.declared.counts.Counts.{Counts}
use Rattle.std.specs.Prelude.{Result, Ok}
use Rattle.numbers.specs.declared.refusal.Refusal.{Refusal}
use Rattle.numbers.specs.declared.refusal.Refusal.TheVariants.{TooShort}
use Rattle.numbers.specs.declared.refusal.Lent.TheVariants.{Section}

-- of the cell h, whose lists are cut from lists of so many entries, into a section of so many bytes
unfoldable pub back_answer : Memory → Counts → ℕ → Result Counts Refusal
back_answer h lent section =
    let lack = short_of h.ynd lent.nodes lent.links lent.junctions lent.heights lent.refs in
    and_then (write_counts h) λ k.
    unless lack
    (refuse_if (ltb section (length (written h))) (TooShort Section)
    (unless (back_check h lent) (Ok k)))
