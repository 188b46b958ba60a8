use Rattle.std.proofs.Common.{◌≡◌, ◌++◌, map, length, take, drop}
use Rattle.cells.specs.Nodes.{old_of}
use Rattle.cells.specs.Order.{renamed}
use Rattle.cells.proofs.relink.Old.relink_all.Given as goal

abbrev pub invariant-loop-x : goal.invariant-loop-x
invariant-loop-x g l =
    let nodes = l.self.numbers.nodes.now in
    let N = g.T.Named in
    l.list ≡ map (λ x. N.renumbered x (renamed (old_of (length nodes) nodes) (N.area x) (N.number x)))
    (take l.x-index l.initial.list) ++ drop l.x-index l.initial.list
