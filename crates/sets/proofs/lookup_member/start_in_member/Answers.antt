use Rattle.sets.proofs.MemberAskLaws.{answered, apart, asks, found_not, found_there, lent, not_there, opens}
use Rattle.sets.proofs.lookup_member.start_in_member.Goals as goal

pub returns-in_err-p : goal.returns-in_err-p
returns-in_err-p c u =
    not_there _ (asks c.held-lens.ensures (lent _) (lent _) (apart _ u.junctions_lie) (apart _ u.heights_lie)
    (apart _ u.refs_lie))
    c.open_member.ensures.value _ c.in_err-p.was c.from_residual.ensures.1

pub returns-in_err-node : goal.returns-in_err-node
returns-in_err-node c u =
    found_not
    (answered _ _
    (opens _ (asks c.held-lens.ensures (lent _) (lent _) (apart _ u.junctions_lie) (apart _ u.heights_lie)
    (apart _ u.refs_lie)) c.open_member.ensures.value c.in_ok-p.was)
    c.node.ensures)
    c.in_err-node.was c.from_residual-in_err-node.ensures.1

pub returns : goal.returns
returns c u =
    found_there
    (answered _ _
    (opens _ (asks c.held-lens.ensures (lent _) (lent _) (apart _ u.junctions_lie) (apart _ u.heights_lie)
    (apart _ u.refs_lie)) c.open_member.ensures.value c.in_ok-p.was)
    c.node.ensures)
    c.in_ok-node.was c.ok_or.ensures.value
