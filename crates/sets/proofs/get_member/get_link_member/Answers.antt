use Rattle.sets.proofs.MemberAskLaws.{answered, apart, asks, lent, not_asked, opens}
use Rattle.sets.proofs.get_member.get_link_member.Goals as goal

pub returns-in_err-p : goal.returns-in_err-p
returns-in_err-p c u =
    not_asked _ (asks c.held-lens.ensures (lent _) (lent _) (apart _ u.junctions_lie) (apart _ u.heights_lie)
    (apart _ u.refs_lie))
    c.open_member.ensures.value _ c.in_err-p.was c.from_residual.ensures.1

pub returns : goal.returns
returns c u =
    answered _ _
    (opens _ (asks c.held-lens.ensures (lent _) (lent _) (apart _ u.junctions_lie) (apart _ u.heights_lie)
    (apart _ u.refs_lie)) c.open_member.ensures.value c.in_ok-p.was)
    c.get_link.ensures
