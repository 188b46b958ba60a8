use Rattle.cells.specs.Write.{left, write_call}
use Rattle.sets.specs.WriteMember.{write_member}
use Rattle.sets.proofs.MemberAskLaws.{all_lent, opens, not_called, called}
use Rattle.sets.proofs.write_member.write_member.Goals as goal

pub returns-in_err-p : goal.returns-in_err-p
unfolding write_member
returns-in_err-p c =
    not_called _ (all_lent c.lengths-lens.ensures) c.open_member.ensures.value (λ r. left r c.args.section.now) _
    c.in_err-p.was c.from_residual.ensures.1

pub returns : goal.returns
unfolding write_member
returns c =
    called _ (λ m. write_call m c.args.section.now)
    (opens _ (all_lent c.lengths-lens.ensures) c.open_member.ensures.value c.in_ok-p.was) c.write_part.ensures
