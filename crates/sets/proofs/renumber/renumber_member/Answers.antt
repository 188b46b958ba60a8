use Rattle.std.proofs.Common.{length, ◌∙◌, rules}
use Rattle.sets.specs.CellSet.{cell_set}
use Rattle.sets.specs.RenumberMember.{member_renumbered, renumber_member}
use Rattle.sets.proofs.MemberAskLaws.{all_lent, opens, not_called}
use Rattle.sets.proofs.RenumberCall.{call_accepted, lent}
use Rattle.sets.proofs.renumber.renumber_member.Goals as goal

pub renumber_held-requires : goal.renumber_held-requires
renumber_held-requires c = lent (opens _ (all_lent c.lengths-lens.ensures) c.open_member.ensures.value c.in_ok-p.was)

pub returns-in_err-p-clause-called : goal.returns-in_err-p-clause-called
unfolding renumber_member
returns-in_err-p-clause-called c =
    let a = c.args in
    let y = cell_set a.members.now a.nodes.now a.links.now a.junctions.now a.heights.now a.refs.now in
    not_called _ (all_lent c.lengths-lens.ensures) c.open_member.ensures.value
    (λ r. member_renumbered r y a.places.now) _ c.in_err-p.was c.from_residual.ensures.1

pub returns-clause-called : goal.returns-clause-called
returns-clause-called c =
    let a = c.args in
    let y = cell_set a.members.now a.nodes.now a.links.now a.junctions.now a.heights.now a.refs.now in
    let k = opens _ (all_lent {y = y} c.lengths-lens.ensures) c.open_member.ensures.value c.in_ok-p.was in
    let h = c.renumber_held.ensures.called ∙ call_accepted k (length a.scratch.now) a.places.now in
    search (rules, h)
