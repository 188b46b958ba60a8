use Rattle.std.proofs.Common.{rules}
use mathlib.Core.Path.{◌∙◌}
use Rattle.cells.specs.Memory.{memory}
use Rattle.sets.specs.CellSet.{cell_set}
use Rattle.sets.proofs.MemberAskLaws.{all_lent, opens, shuts}
use Rattle.sets.proofs.LeaveLaws.{handed_on}
use Rattle.sets.proofs.HandBackLaws.{lack_told, hand_not, hand_short, hand_done, hand_fits}
use Rattle.sets.proofs.hand_back.hand_back.Goals as goal

pub returns-in_err-p : goal.returns-in_err-p
returns-in_err-p c =
    hand_not _ _ _ _ (handed_on c.ok_or.ensures.ok_part c.in_ok-j.was c.member_of_area.ensures.value) _
    (shuts _ (all_lent c.lengths-lens.ensures) c.open_member.ensures.value c.in_err-p.was)
    c.from_residual-in_err-p.ensures.1

pub returns-in_err-check_lent : goal.returns-in_err-check_lent
returns-in_err-check_lent c =
    hand_short _ _ _ _ (handed_on c.ok_or.ensures.ok_part c.in_ok-j.was c.member_of_area.ensures.value)
    (opens _ (all_lent c.lengths-lens.ensures) c.open_member.ensures.value c.in_ok-p.was) _
    (lack_told _ _ _ _ _ _ c.lengths.ensures c.check_lent.ensures ∙ c.in_err-check_lent.was)
    c.from_residual-in_err-check_lent.ensures.1

pub give_part-requires : goal.give_part-requires
give_part-requires c =
    let x = c.args in
    let y = cell_set x.members.now x.nodes.now x.links.now x.junctions.now x.heights.now x.refs.now in
    let m = memory x.ynd x.to_nodes.now x.to_links.now x.to_junctions.now x.to_heights.now x.to_refs.now in
    hand_fits y _ m _ (handed_on c.ok_or.ensures.ok_part c.in_ok-j.was c.member_of_area.ensures.value)
    (opens _ (all_lent c.lengths-lens.ensures) c.open_member.ensures.value c.in_ok-p.was)
    (lack_told _ _ _ _ _ _ c.lengths.ensures c.check_lent.ensures ∙ c.in_ok-check_lent.was)

pub returns : goal.returns
returns c =
    let x = c.args in
    let y = cell_set x.members.now x.nodes.now x.links.now x.junctions.now x.heights.now x.refs.now in
    let m = memory x.ynd x.to_nodes.now x.to_links.now x.to_junctions.now x.to_heights.now x.to_refs.now in
    let h = hand_done y _ m _ (handed_on c.ok_or.ensures.ok_part c.in_ok-j.was c.member_of_area.ensures.value)
    (opens _ (all_lent c.lengths-lens.ensures) c.open_member.ensures.value c.in_ok-p.was)
    (lack_told _ _ _ _ _ _ c.lengths.ensures c.check_lent.ensures ∙ c.in_ok-check_lent.was)
    c.give_part.ensures.value in
    search (rules, h)
