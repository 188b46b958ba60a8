use Rattle.std.proofs.Common.{ap, ◌∙◌, arith}
use Rattle.std.specs.Prelude.{Ok}
use Rattle.cells.specs.LookupCall.{Place}
use Rattle.walks.specs.WalkParts.{lent}
use Rattle.walks.proofs.StepLaws.{small}
use Rattle.walks.proofs.walk.Yard.arrive.Goals as goal

pub overflow_cast-result : goal.overflow_cast-result
overflow_cast-result c =
    let s = c.args.self.now in
    let few = small (lent s.ynd s.nodes.now s.links.now) s.within s.nodes_held c.args.number c.node.ensures
    c.in-Ok-Some.q
    (c.in-Ok-Some.is ∙ ap {B = Place} Ok c.in-Ok-Some.field-0-is) in
    omega (arith, few)
