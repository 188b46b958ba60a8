use Rattle.std.proofs.Common.{◌≡◌, ◌*◌, ◌-◌, ◌≤◌}
use Rattle.cells.specs.Lists.{sum_to}
use Rattle.cells.specs.Checks.{scan}
use Rattle.cells.specs.RangedParts.{outside}
use Rattle.cells.proofs.checks.check_ranges.Given as goal

abbrev pub invariant-loop-i : goal.invariant-loop-i
invariant-loop-i g l =
    let bad = outside (g.R.Ranged.start l.records) (g.R.Ranged.count l.records) l.len in
    record {
      sum : l.sum ≡ sum_to (g.R.Ranged.count l.records) l.i;
      few : l.sum ≤ l.i * 65536;
      passed : scan g.R.Ranged.cause bad 0 l.count ≡ scan g.R.Ranged.cause bad l.i (l.count - l.i);
    }
