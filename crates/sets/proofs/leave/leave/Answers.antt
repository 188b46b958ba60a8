use Rattle.std.proofs.Common.{sym, ◌∙◌, arith, rules}
use Rattle.sets.specs.CellSet.{cell_set}
use Rattle.sets.proofs.RoomLaws.{accepted}
use Rattle.sets.proofs.LeaveLaws.{handed_on, checked, there, refused_leave, gone}
use Rattle.sets.proofs.leave.leave.Goals as goal

pub returns-in_err-check_set : goal.returns-in_err-check_set
returns-in_err-check_set c =
    refused_leave _ _ _ (handed_on c.ok_or.ensures.ok_part c.in_ok-j.was c.member_of_area.ensures.value) _
    (checked _ c.lengths.ensures c.check_set.ensures ∙ c.in_err-check_set.was)
    c.from_residual-in_err-check_set.ensures.1

pub take_out-requires : goal.take_out-requires
take_out-requires c =
    let a = c.args in
    let y = cell_set a.members.now a.nodes.now a.links.now a.junctions.now a.heights.now a.refs.now in
    let h = accepted y (sym (checked y c.lengths.ensures c.check_set.ensures ∙ c.in_ok-check_set.was)) in
    (there y a.area _ (handed_on c.ok_or.ensures.ok_part c.in_ok-j.was c.member_of_area.ensures.value), h.few, h.whole)

pub overflow_sub-result : goal.overflow_sub-result
overflow_sub-result c =
    let a = c.args in
    let y = cell_set a.members.now a.nodes.now a.links.now a.junctions.now a.heights.now a.refs.now in
    omega (arith, there y a.area _ (handed_on c.ok_or.ensures.ok_part c.in_ok-j.was c.member_of_area.ensures.value))

pub returns : goal.returns
returns c =
    let a = c.args in
    let y = cell_set a.members.now a.nodes.now a.links.now a.junctions.now a.heights.now a.refs.now in
    let h = gone y a.area _ (handed_on c.ok_or.ensures.ok_part c.in_ok-j.was c.member_of_area.ensures.value)
    (checked y c.lengths.ensures c.check_set.ensures ∙ c.in_ok-check_set.was) c.take_out.ensures.value in
    search (rules, h)
