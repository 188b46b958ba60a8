use Rattle.std.proofs.Common.{rules}
use Rattle.sets.specs.CellSet.{cell_set}
use Rattle.sets.specs.WriteMember.{set_written, write_read_member}
use Rattle.sets.proofs.MemberAskLaws.{all_lent, opens, not_called}
use Rattle.sets.proofs.WriteMemberLaws.{write_read_done, write_read_out}
use Rattle.sets.proofs.write_member.write_then_read_member.Goals as goal

pub returns-in_err-p : goal.returns-in_err-p
unfolding write_read_member
returns-in_err-p c =
    let x = c.args in
    let y = cell_set x.members.now x.nodes.now x.links.now x.junctions.now x.heights.now x.refs.now in
    not_called _ (all_lent c.lengths-lens.ensures) c.open_member.ensures.value (λ r. set_written r y x.section.now) _
    c.in_err-p.was c.from_residual.ensures.1

pub returns-in_err-r : goal.returns-in_err-r
returns-in_err-r c =
    let x = c.args in
    let y = cell_set x.members.now x.nodes.now x.links.now x.junctions.now x.heights.now x.refs.now in
    let k = opens _ (all_lent {y = y} c.lengths-lens.ensures) c.open_member.ensures.value c.in_ok-p.was in
    let h = write_read_out x.section.now k c.write_read_part.ensures.value c.in_err-r.was
    c.from_residual-in_err-r.ensures.1 in
    search (rules, h)

pub returns : goal.returns
returns c =
    let x = c.args in
    let y = cell_set x.members.now x.nodes.now x.links.now x.junctions.now x.heights.now x.refs.now in
    let k = opens _ (all_lent {y = y} c.lengths-lens.ensures) c.open_member.ensures.value c.in_ok-p.was in
    let h = write_read_done x.section.now k c.write_read_part.ensures.value c.in_ok-r.was c.store_ynd.ensures in
    search (rules, h)
