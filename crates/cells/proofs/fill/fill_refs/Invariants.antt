use Rattle.std.proofs.Common.{◌≡◌, ◌++◌, drop}
use Rattle.cells.specs.Lists.{up_to}
use Rattle.cells.specs.Read.{ref_in}
use Rattle.cells.proofs.fill.fill_refs.Given as goal

abbrev pub invariant-loop-i : goal.invariant-loop-i
invariant-loop-i l = l.refs ≡ up_to (ref_in l.r) l.i ++ drop l.i l.initial.refs
