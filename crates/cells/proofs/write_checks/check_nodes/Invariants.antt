-- What is left to check gives the whole answer.
use Rattle.std.proofs.Common.{◌≡◌, ◌≤◌, drop}
use Rattle.cells.specs.WriteChecks.{links_within, check_nodes}
use Rattle.cells.proofs.write_checks.check_nodes.Given as goal

abbrev pub invariant-loop-i : goal.invariant-loop-i
invariant-loop-i l =
    (l.before ≤ 65566)
    × (check_nodes (links_within l.pool) l.i l.before (drop l.i l.nodes)
    ≡ check_nodes (links_within l.pool) 0 0 l.nodes)
