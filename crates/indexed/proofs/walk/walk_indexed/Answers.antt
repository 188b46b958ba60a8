use Rattle.std.proofs.Common.{arith}
use Rattle.cells.specs.Memory.{memory}
use Rattle.walks.specs.WalkParts.{lent_world}
use Rattle.indexed.proofs.WalkLaws.{walked_then, index_accepted}
use Rattle.indexed.proofs.walk.walk_indexed.Goals as goal

pub returns-clause-walked : goal.returns-clause-walked
returns-clause-walked c =
    let a = c.args in
    let p = c.in_ok-check_asked.ensures.passed in
    λ js hs rs.
    walked_then (memory a.ynd a.nodes.now a.links.now js hs rs) a.choices.now a.start _ a.visited.now
    c.in_ok-check_asked.ensures.value p.1 p.0 p.3 p.4 _ _ c.walk_from.ensures

pub returns-clause-index : goal.returns-clause-index
returns-clause-index c =
    let a = c.args in
    index_accepted (lent_world a.ynd a.nodes.now a.links.now) a.choices.now a.start a.visited.now (omega arith) _ _
    c.walk_from.ensures a.ynd a.nodes.now _ _ c.index_numbers-2.ensures.0
