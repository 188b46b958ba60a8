-- What is left to check gives the whole answer.
use Rattle.std.proofs.Common.{◌≡◌, ◌≤◌, take, drop}
use Rattle.std.specs.List.{All}
use Rattle.cells.specs.WriteCounts.{Sized}
use Rattle.cells.specs.WriteChecks.{values_within, check_junctions}
use Rattle.cells.proofs.write_checks.check_junctions.Given as goal

abbrev pub invariant-loop-i : goal.invariant-loop-i
invariant-loop-i l =
    (l.before ≤ 131070) × All Sized (take l.i l.junctions)
    × (check_junctions (values_within l.pool) l.i l.before (drop l.i l.junctions)
    ≡ check_junctions (values_within l.pool) 0 0 l.junctions)
