use native.Mathlib.Omega.{arith}
use Rattle.cells.specs.Held.{memory_of}
use Rattle.cells.specs.WriteCounts.{write_counts}
use Rattle.cells.proofs.Rules.{counts_laws}
use Rattle.cells.proofs.Writing.WriteSteps.{ready}
use Rattle.cells.proofs.write_checks.write_counts.Goals as goal

pub returns-clause-ready : goal.returns-clause-ready
unfolding write_counts
returns-clause-ready c = ready
    (memory_of c.args.h) c.args.h.cut _ c.in_ok-heights.ensures.few c.in_ok-heights.ensures.sized (grind
    (arith, counts_laws))
