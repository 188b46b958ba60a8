-- What write-then-read has to test before it writes: whether what is written has room in the cell's own lists, by
-- counts alone. Reading back refuses nothing else (proofs WritingBack BackCheck). No public function's contract cites
-- this.
use Rattle.cells.specs.RenumberParts.{lengths_of}
use Rattle.std.specs.Prelude.{length}
use Rattle.records.specs.Put.{joined}
use Rattle.cells.specs.Memory.{Memory, per_list}
use Rattle.cells.specs.Read.{room_check}
use Rattle.cells.specs.Entries.{links_in}
use Rattle.cells.specs.Blocks.{heights_block}
use Rattle.cells.specs.declared.counts.Counts.{Counts}
use Rattle.numbers.specs.Refusals.{Answer}

-- how much is written of the cell h
abbrev pub held_counts : Memory → Counts
held_counts h =
    per_list (length h.nodes) (length (joined (links_in h.links) h.nodes)) (length h.junctions)
    (length (heights_block h.heights h.junctions)) (length h.refs)

-- how many entries the lists have
abbrev pub lengths : Memory → Counts
lengths m = lengths_of m.nodes m.links m.junctions m.heights m.refs

-- 7: k entries, read into lists of so many
abbrev pub back_tests : Counts → Counts → Answer
back_tests k lent = room_check k lent.nodes lent.links lent.junctions lent.heights lent.refs

-- the cell h, written, read into lists of so many entries
unfoldable pub back_check : Memory → Counts → Answer
back_check h lent = back_tests (held_counts h) lent
