use mathlib.Core.Path.{sym, ◌∙◌}
use Rattle.sets.proofs.EditsKept.{add_node_kept}
use Rattle.sets.proofs.MemberAskLaws.{apart, asks, lent, opens}
use Rattle.sets.proofs.MemberEditLaws.{edit_not, add_13, add_full, add_room, edited, not_edited, refused, stays, wrote}
use Rattle.sets.proofs.edit_nodes.add_node_member.Goals as goal

pub returns-then-members-member : goal.returns-then-members-member
returns-then-members-member c u =
    edit_not _ _ _ _ (add_13 _ _ c.if-members-member.true)

pub returns-then-set_full : goal.returns-then-set_full
returns-then-set_full c u =
    edit_not _ _ _ _ (add_full _ _ c.if-members-member.false (sym c.if-set_full.true ∙ c.set_full.ensures))

pub returns-in_err-p : goal.returns-in_err-p
returns-in_err-p c u =
    not_edited _ _ _ _ (add_room _ _ c.if-members-member.false (sym c.if-set_full.false ∙ c.set_full.ensures))
    (asks c.held-lens.ensures (lent _) (apart _ u.links_lie) (apart _ u.junctions_lie) (apart _ u.heights_lie)
    (apart _ u.refs_lie))
    c.open_member.ensures.value c.in_err-p.was c.from_residual.ensures.1

pub returns-in_err-next : goal.returns-in_err-next
returns-in_err-next c u =
    refused
    (opens _ (asks c.held-lens.ensures (lent _) (apart _ u.links_lie) (apart _ u.junctions_lie)
    (apart _ u.heights_lie) (apart _ u.refs_lie)) c.open_member.ensures.value c.in_ok-p.was)
    c.told-members (add_node_kept _ _) (wrote c.add_node.auto.nodes) stays stays stays stays _
    (add_room _ _ c.if-members-member.false (sym c.if-set_full.false ∙ c.set_full.ensures))
    (c.add_node.ensures _ _ _ _) c.in_err-next.was c.from_residual-in_err-next.ensures.1

pub returns : goal.returns
returns c u =
    edited
    (opens _ (asks c.held-lens.ensures (lent _) (apart _ u.links_lie) (apart _ u.junctions_lie)
    (apart _ u.heights_lie) (apart _ u.refs_lie)) c.open_member.ensures.value c.in_ok-p.was)
    c.told-members (add_node_kept _ _) (wrote c.add_node.auto.nodes) stays stays stays stays _
    (add_room _ _ c.if-members-member.false (sym c.if-set_full.false ∙ c.set_full.ensures))
    (c.add_node.ensures _ _ _ _) c.in_ok-next.was c.store_ynd.ensures
