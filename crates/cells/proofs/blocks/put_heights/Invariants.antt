-- What is left to put makes the whole.
use Rattle.std.proofs.Common.{◌≡◌, ◌+◌, length, drop}
use Rattle.records.specs.Put.{put, joined}
use Rattle.cells.specs.Entries.{values_in}
use Rattle.cells.proofs.blocks.put_heights.Given as goal

abbrev pub invariant-loop-j : goal.invariant-loop-j
invariant-loop-j l =
    (l.p + length (joined (values_in l.heights) (drop l.j-index l.junctions)) ≡ l.at
    + length (joined (values_in l.heights) l.junctions))
    × (put l.section l.p (joined (values_in l.heights) (drop l.j-index l.junctions))
    ≡ put l.initial.section l.at (joined (values_in l.heights) l.junctions))
