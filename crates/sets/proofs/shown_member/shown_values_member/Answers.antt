use Rattle.walks.specs.Shown.{values_left}
use Rattle.sets.proofs.MemberAskLaws.{answered, apart, asks, lent, not_told, opens}
use Rattle.sets.proofs.shown_member.shown_values_member.Goals as goal

pub returns-in_err-p : goal.returns-in_err-p
returns-in_err-p c u =
    not_told _ (asks c.held-lens.ensures (apart _ u.nodes_lie) (apart _ u.links_lie) (lent _) (lent _)
    (apart _ u.refs_lie))
    c.open_member.ensures.value (λ r. values_left r c.args.values.now) _ c.in_err-p.was c.from_residual.ensures.1

pub returns : goal.returns
returns c u =
    answered _ _
    (opens _ (asks c.held-lens.ensures (apart _ u.nodes_lie) (apart _ u.links_lie) (lent _) (lent _)
    (apart _ u.refs_lie)) c.open_member.ensures.value c.in_ok-p.was)
    (c.shown_values.ensures _ _ _)
