use mathlib.Core.Path.{refl}
use Rattle.sets.proofs.EditsKept.{put_heightmap_kept}
use Rattle.sets.proofs.MemberAskLaws.{apart, asks, lent, opens}
use Rattle.sets.proofs.MemberEditLaws.{edited, not_edited, refused, stays, wrote}
use Rattle.sets.proofs.edit_junctions.put_heightmap_member.Goals as goal

pub returns-in_err-p : goal.returns-in_err-p
returns-in_err-p c u =
    not_edited _ _ _ _ refl (asks c.held-lens.ensures (apart _ u.nodes_lie) (apart _ u.links_lie) (lent _) (lent _)
    (apart _ u.refs_lie))
    c.open_member.ensures.value c.in_err-p.was c.from_residual.ensures.1

pub returns-in_err-next : goal.returns-in_err-next
returns-in_err-next c u =
    refused
    (opens _ (asks c.held-lens.ensures (apart _ u.nodes_lie) (apart _ u.links_lie) (lent _) (lent _)
    (apart _ u.refs_lie)) c.open_member.ensures.value c.in_ok-p.was)
    c.told-members (put_heightmap_kept _ _ _ _) stays stays (wrote c.put_heightmap.auto.junctions)
    (wrote c.put_heightmap.auto.heights) stays _ refl (c.put_heightmap.ensures _ _ _) c.in_err-next.was
    c.from_residual-in_err-next.ensures.1

pub returns : goal.returns
returns c u =
    edited
    (opens _ (asks c.held-lens.ensures (apart _ u.nodes_lie) (apart _ u.links_lie) (lent _) (lent _)
    (apart _ u.refs_lie)) c.open_member.ensures.value c.in_ok-p.was)
    c.told-members (put_heightmap_kept _ _ _ _) stays stays (wrote c.put_heightmap.auto.junctions)
    (wrote c.put_heightmap.auto.heights) stays _ refl (c.put_heightmap.ensures _ _ _) c.in_ok-next.was
    c.store_ynd.ensures
