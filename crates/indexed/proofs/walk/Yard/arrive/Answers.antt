use Rattle.std.proofs.Common.{◌≡◌, rules, ap, arith}
use Rattle.std.specs.Prelude.{Ok, Some}
use Rattle.cells.specs.LookupCall.{Place}
use Rattle.walks.specs.WalkParts.{lent}
use Rattle.walks.proofs.StepLaws.{small}
use Rattle.indexed.proofs.walk.Yard.arrive.Goals as goal

pub overflow_cast-result : goal.overflow_cast-result
overflow_cast-result c =
    let s = c.args.self.now in
    let is : c.find.result ≡ Some c.in_ok-q.q = search rules in
    let few = small (lent s.ynd s.nodes.now s.links.now) s.within s.nodes_held c.args.number c.find.ensures _
    (ap {B = Place} Ok is) in
    omega (arith, few)
