use Rattle.std.proofs.Common.{refl}
use Rattle.walks.specs.WalkParts.{lent}
use Rattle.paths.proofs.EdgeLaws.{edge_there}
use Rattle.paths.proofs.search.Search.follow.Goals as goal

pub returns : goal.returns
returns c =
    let s = c.args.self.now in
    edge_there (lent s.ynd s.nodes.now s.links.now) s.whole c.args.p c.args.b c.link_at.ensures _ c.in_ok-l.was
    c.own_area.ensures c.belongs_to.ensures c.if-not-belongs_to.false c.node_in.ensures _ c.in_ok-to.was
    _ refl
