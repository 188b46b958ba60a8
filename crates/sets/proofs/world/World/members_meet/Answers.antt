use Rattle.std.proofs.Common.{map, length, refl, arith, rules, tests, ◌∙◌}
use Rattle.std.proofs.lemmas.Iterator.{YieldsList-from_range}
use Rattle.std.proofs.lemmas.Iterator.Search.{all_from_yields_List}
use Rattle.cells.specs.Nodes.{number_of}
use Rattle.sets.proofs.ArrivalLaws.{meets_by, meets_all}
use Rattle.sets.proofs.world.World.members_meet.Goals as goal

pub returns : goal.returns
returns c =
    let x = c.args.self.now in
    let k = c.args.k in
    let own = c.own_entries-nodes in
    let n = length x.members.now in
    let f = meets_by x.areas.now x.members.now x.nodes.now x.links.now k
    (map number_of own.result.now) in
    all_from_yields_List f _ _ _ c.all.ensures.ran (YieldsList-from_range 0 n n refl (omega arith))
    (λ x b q h. search (rules, tests))
    ∙ meets_all x.areas.now x.members.now x.nodes.now x.links.now k own.result.now own.ensures.value
