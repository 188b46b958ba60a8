use mathlib.Core.List.{[]}
use mathlib.Core.Path.{ap, refl}
use Rattle.cells.specs.Memory.{memory}
use Rattle.sets.proofs.EditsKept.{put_junction_kept}
use Rattle.cells.specs.Edit.{junctions_left}
use Rattle.sets.proofs.MemberAskLaws.{apart, asks, lent, opens}
use Rattle.sets.proofs.MemberEditLaws.{not_edited, stays, stored, wrote}
use Rattle.sets.proofs.edit_junctions.put_junction_member.Goals as goal

pub returns-in_err-p : goal.returns-in_err-p
returns-in_err-p c u =
    not_edited _ _ _ _ refl (asks c.held-lens.ensures (apart _ u.nodes_lie) (apart _ u.links_lie) (lent _)
    (apart _ u.heights_lie) (apart _ u.refs_lie))
    c.open_member.ensures.value c.in_err-p.was c.from_residual.ensures.1

pub returns : goal.returns
returns c u =
    stored
    (opens _ (asks c.held-lens.ensures (apart _ u.nodes_lie) (apart _ u.links_lie) (lent _) (apart _ u.heights_lie)
    (apart _ u.refs_lie)) c.open_member.ensures.value c.in_ok-p.was)
    c.told-members (put_junction_kept _ _) stays stays (wrote c.put_junction.auto.junctions) stays stays
    (ap (junctions_left (memory _ _ _ [] _ _)) c.put_junction.ensures)
