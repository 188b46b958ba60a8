use Rattle.std.proofs.Common.{ap, ◌∙◌, arith}
use Rattle.std.specs.Prelude.{Ok}
use Rattle.cells.specs.LookupCall.{Place}
use Rattle.sets.proofs.CrossLaws.{place_small}
use Rattle.sets.proofs.world.World.arrive_in.Goals as goal

pub overflow_cast-result-in-Ok-Some : goal.overflow_cast-result-in-Ok-Some
overflow_cast-result-in-Ok-Some c =
    let small = place_small c.args.self.now _ c.requires c.count_before-start.ensures c.ynd_of-ynd.ensures
    c.node.ensures c.in-Ok-Some.q (c.in-Ok-Some.is ∙ ap {B = Place} Ok c.in-Ok-Some.field-0-is) in
    omega (arith, small)
