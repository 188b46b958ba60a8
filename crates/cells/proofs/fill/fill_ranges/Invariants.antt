use Rattle.std.proofs.Common.{◌≡◌, ◌*◌, ◌≤◌, ◌++◌, drop}
use Rattle.cells.specs.Lists.{up_to, join_to, sum_to}
use Rattle.cells.proofs.fill.fill_ranges.Given as goal

abbrev pub invariant-loop-i : goal.invariant-loop-i
invariant-loop-i g l =
    let r = l.records in
    record {
      held : l.held ≡ sum_to (g.R.Ranged.count r) l.i;
      few : l.held ≤ l.i * 65535;
      entries : l.entries ≡ up_to (λ i. g.R.Ranged.entry_at r i (sum_to (g.R.Ranged.count r) i)) l.i
          ++ drop l.i l.initial.entries;
      parts : l.parts ≡ join_to (g.R.Ranged.part r) l.i ++ drop l.held l.initial.parts;
    }
