use mathlib.Core.Path.{ap, refl}
use Rattle.cells.specs.Memory.{memory}
use Rattle.cells.specs.Add.{done}
use Rattle.cells.specs.declared.ynd.Ynd.{Ynd}
use Rattle.sets.specs.CellSet.{cell_set}
use Rattle.sets.specs.MemberParts.{part_memory}
use Rattle.sets.proofs.EditsKept.{put_words_kept, words_put}
use Rattle.sets.proofs.MemberAskLaws.{apart, asks, opens}
use Rattle.sets.proofs.MemberEditLaws.{not_edited, stays, leaves}
use Rattle.sets.proofs.edit_counts.put_words_member.Goals as goal

pub returns-in_err-p : goal.returns-in_err-p
returns-in_err-p c u =
    not_edited _ _ _ _ refl (asks c.held-lens.ensures (apart _ u.nodes_lie) (apart _ u.links_lie)
    (apart _ u.junctions_lie) (apart _ u.heights_lie) (apart _ u.refs_lie))
    c.open_member.ensures.value c.in_err-p.was c.from_residual.ensures.1

pub returns : goal.returns
returns c u =
    let q = c.in_ok-p.p in
    let m = part_memory q.ynd q.a q.e (cell_set c.args.members.now u.nodes u.links u.junctions u.heights u.refs) in
    leaves
    (opens _ (asks c.held-lens.ensures (apart _ u.nodes_lie) (apart _ u.links_lie) (apart _ u.junctions_lie)
    (apart _ u.heights_lie) (apart _ u.refs_lie)) c.open_member.ensures.value c.in_ok-p.was)
    c.told-members (put_words_kept _ _ _ _) stays stays stays stays stays _ refl
    (ap (λ (v : Ynd). done (memory v m.nodes m.links m.junctions m.heights m.refs))
    (words_put _ _ _ _ _ _ _ _ _ c.set_vft-a.ensures
    c.set_vehicle_node_count-b.ensures c.set_ped_node_count-c.ensures c.set_unknowns-next.ensures))
    c.store_ynd.ensures
