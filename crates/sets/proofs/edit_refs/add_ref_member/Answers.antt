use mathlib.Core.Path.{refl}
use Rattle.sets.proofs.EditsKept.{add_ref_kept}
use Rattle.sets.proofs.MemberAskLaws.{apart, asks, lent, opens}
use Rattle.sets.proofs.MemberEditLaws.{edited, not_edited, refused, stays, wrote}
use Rattle.sets.proofs.edit_refs.add_ref_member.Goals as goal

pub returns-in_err-p : goal.returns-in_err-p
returns-in_err-p c u =
    not_edited _ _ _ _ refl (asks c.held-lens.ensures (apart _ u.nodes_lie) (apart _ u.links_lie)
    (apart _ u.junctions_lie) (apart _ u.heights_lie) (lent _))
    c.open_member.ensures.value c.in_err-p.was c.from_residual.ensures.1

pub returns-in_err-next : goal.returns-in_err-next
returns-in_err-next c u =
    refused
    (opens _ (asks c.held-lens.ensures (apart _ u.nodes_lie) (apart _ u.links_lie) (apart _ u.junctions_lie)
    (apart _ u.heights_lie) (lent _)) c.open_member.ensures.value c.in_ok-p.was)
    c.told-members (add_ref_kept _) stays stays stays stays (wrote c.add_ref.auto.refs) _ refl
    (c.add_ref.ensures _ _ _ _) c.in_err-next.was c.from_residual-in_err-next.ensures.1

pub returns : goal.returns
returns c u =
    edited
    (opens _ (asks c.held-lens.ensures (apart _ u.nodes_lie) (apart _ u.links_lie) (apart _ u.junctions_lie)
    (apart _ u.heights_lie) (lent _)) c.open_member.ensures.value c.in_ok-p.was)
    c.told-members (add_ref_kept _) stays stays stays stays (wrote c.add_ref.auto.refs) _ refl
    (c.add_ref.ensures _ _ _ _) c.in_ok-next.was c.store_ynd.ensures
