use Rattle.std.proofs.Common.{rules, tests, ◌∙◌}
use Rattle.std.proofs.lemmas.Iterator.{YieldsList-from_slice}
use Rattle.std.proofs.lemmas.Iterator.Consumers.{YieldsList-at, YieldsList-from_filter, count_from_yields_List}
use Rattle.reach.proofs.TurnLaws.{near, all_counted}
use Rattle.reach.proofs.distance.Point.count_within.Goals as goal

pub returns : goal.returns
returns c =
    let s = c.args.self.now in
    let limit = c.beyond-limit in
    count_from_yields_List c.filter.result _ c.count.ensures.ran
    (YieldsList-from_filter _ (near s.x s.y c.args.radius limit.result limit.ensures s.nodes.now)
    (YieldsList-at c.filter.ensures.source (YieldsList-from_slice s.nodes.now cc)) c.filter.ensures.closure
    (λ x b q k. search (rules, tests)))
    ∙ all_counted s.x s.y c.args.radius limit.result limit.ensures s.nodes.now
