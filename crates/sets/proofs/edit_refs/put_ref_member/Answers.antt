use mathlib.Core.List.{[]}
use mathlib.Core.Path.{ap, refl}
use Rattle.cells.specs.Memory.{memory}
use Rattle.sets.proofs.EditsKept.{put_ref_kept}
use Rattle.cells.specs.Edit.{refs_left}
use Rattle.sets.proofs.MemberAskLaws.{apart, asks, lent, opens}
use Rattle.sets.proofs.MemberEditLaws.{not_edited, stays, stored, wrote}
use Rattle.sets.proofs.edit_refs.put_ref_member.Goals as goal

pub returns-in_err-p : goal.returns-in_err-p
returns-in_err-p c u =
    not_edited _ _ _ _ refl (asks c.held-lens.ensures (apart _ u.nodes_lie) (apart _ u.links_lie)
    (apart _ u.junctions_lie) (apart _ u.heights_lie) (lent _))
    c.open_member.ensures.value c.in_err-p.was c.from_residual.ensures.1

pub returns : goal.returns
returns c u =
    stored
    (opens _ (asks c.held-lens.ensures (apart _ u.nodes_lie) (apart _ u.links_lie) (apart _ u.junctions_lie)
    (apart _ u.heights_lie) (lent _)) c.open_member.ensures.value c.in_ok-p.was)
    c.told-members (put_ref_kept _ _) stays stays stays stays (wrote c.put_ref.auto.refs)
    (ap (refs_left (memory _ _ _ _ _ [])) c.put_ref.ensures)
