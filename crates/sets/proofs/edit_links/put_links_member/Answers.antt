use mathlib.Core.Path.{refl}
use Rattle.sets.proofs.EditsKept.{put_links_kept}
use Rattle.sets.proofs.MemberAskLaws.{apart, asks, lent, opens}
use Rattle.sets.proofs.MemberEditLaws.{edited, not_edited, refused, stays, wrote}
use Rattle.sets.proofs.edit_links.put_links_member.Goals as goal

pub returns-in_err-p : goal.returns-in_err-p
returns-in_err-p c u =
    not_edited _ _ _ _ refl (asks c.held-lens.ensures (lent _) (lent _) (apart _ u.junctions_lie)
    (apart _ u.heights_lie) (apart _ u.refs_lie))
    c.open_member.ensures.value c.in_err-p.was c.from_residual.ensures.1

pub returns-in_err-next : goal.returns-in_err-next
returns-in_err-next c u =
    refused
    (opens _ (asks c.held-lens.ensures (lent _) (lent _) (apart _ u.junctions_lie) (apart _ u.heights_lie)
    (apart _ u.refs_lie)) c.open_member.ensures.value c.in_ok-p.was)
    c.told-members (put_links_kept _ _) (wrote c.put_links.auto.nodes) (wrote c.put_links.auto.links) stays stays
    stays _ refl (c.put_links.ensures _ _ _) c.in_err-next.was c.from_residual-in_err-next.ensures.1

pub returns : goal.returns
returns c u =
    edited
    (opens _ (asks c.held-lens.ensures (lent _) (lent _) (apart _ u.junctions_lie) (apart _ u.heights_lie)
    (apart _ u.refs_lie)) c.open_member.ensures.value c.in_ok-p.was)
    c.told-members (put_links_kept _ _) (wrote c.put_links.auto.nodes) (wrote c.put_links.auto.links) stays stays
    stays _ refl (c.put_links.ensures _ _ _) c.in_ok-next.was c.store_ynd.ensures
