-- What is left to put makes the whole, and the rest of the check accepts it.
use Rattle.std.proofs.Common.{◌≡◌, true, ◌+◌, ◌*◌, length, drop}
use Rattle.records.specs.Put.{put}
use Rattle.cells.specs.Entries.{values_in}
use Rattle.cells.specs.WriteChecks.{values_within, accepted, check_junctions}
use Rattle.cells.specs.Blocks.{laid, junction_record, junctions_block}
use Rattle.cells.proofs.blocks.put_junctions.Given as goal

abbrev pub invariant-loop-j : goal.invariant-loop-j
invariant-loop-j l =
    (l.p ≡ l.at + 12 * l.j-index) × (accepted (check_junctions (values_within (length l.heights)) l.j-index l.before
    (drop l.j-index l.junctions)) ≡ true)
    × (put l.section l.p (laid (values_in l.heights) junction_record l.before (drop l.j-index l.junctions))
    ≡ put l.initial.section l.at (junctions_block l.heights l.junctions))
