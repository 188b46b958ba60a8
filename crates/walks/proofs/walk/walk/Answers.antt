use Rattle.cells.specs.Memory.{memory}
use Rattle.walks.proofs.WalkCases.{ends}
use Rattle.walks.proofs.walk.walk.Goals as goal

pub returns : goal.returns
returns c = λ js hs rs.
    ends (memory c.args.ynd c.args.nodes.now c.args.links.now js hs rs) c.args.choices.now c.args.start
    c.args.visited.now c.in_ok-check_place.ensures.value _ _ c.walk_from.ensures
