use mathlib.Core.List.{[]}
use mathlib.Core.Path.{ap, refl}
use Rattle.cells.specs.Memory.{memory}
use Rattle.sets.proofs.EditsKept.{put_node_kept}
use Rattle.cells.specs.Edit.{nodes_left}
use Rattle.sets.proofs.MemberAskLaws.{apart, asks, lent, opens}
use Rattle.sets.proofs.MemberEditLaws.{not_edited, stays, stored, wrote}
use Rattle.sets.proofs.edit_nodes.put_node_member.Goals as goal

pub returns-in_err-p : goal.returns-in_err-p
returns-in_err-p c u =
    not_edited _ _ _ _ refl (asks c.held-lens.ensures (lent _) (apart _ u.links_lie) (apart _ u.junctions_lie)
    (apart _ u.heights_lie) (apart _ u.refs_lie))
    c.open_member.ensures.value c.in_err-p.was c.from_residual.ensures.1

pub returns : goal.returns
returns c u =
    stored
    (opens _ (asks c.held-lens.ensures (lent _) (apart _ u.links_lie) (apart _ u.junctions_lie)
    (apart _ u.heights_lie) (apart _ u.refs_lie)) c.open_member.ensures.value c.in_ok-p.was)
    c.told-members (put_node_kept _ _) (wrote c.put_node.auto.nodes) stays stays stays stays
    (ap (nodes_left (memory _ [] _ _ _ _)) c.put_node.ensures)
