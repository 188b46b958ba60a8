use Rattle.std.proofs.Common.{◌≡◌, ◌++◌, drop}
use Rattle.cells.specs.Read.{links_from}
use Rattle.cells.proofs.copy.copy_links.Given as goal

abbrev pub invariant-loop-k : goal.invariant-loop-k
invariant-loop-k l = l.links ≡ links_from l.l l.from l.k ++ drop l.k l.initial.links
