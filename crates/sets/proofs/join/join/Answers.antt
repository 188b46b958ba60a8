use Rattle.std.proofs.Common.{rules}
use Rattle.cells.specs.Memory.{memory}
use Rattle.sets.specs.CellSet.{cell_set}
use Rattle.sets.proofs.JoinDone.{refused_join, append_fits, joined}
use Rattle.sets.proofs.join.join.Goals as goal

pub returns-in_err-join_answer : goal.returns-in_err-join_answer
returns-in_err-join_answer c =
    refused_join _ _ _ _ c.own_area-area.ensures c.min-held.ensures c.lengths-lens.ensures c.lengths-haves.ensures
    c.join_answer.ensures _ c.in_err-join_answer.was c.from_residual.ensures.1

pub append-requires : goal.append-requires
append-requires c =
    let a = c.args in
    let y = cell_set a.members.now a.nodes.now a.links.now a.junctions.now a.heights.now a.refs.now in
    let m = memory a.ynd a.new_nodes.now a.new_links.now a.new_junctions.now a.new_heights.now a.new_refs.now in
    append_fits a.count y m a.sizes c.own_area-area.ensures c.min-held.ensures c.lengths-lens.ensures
    c.lengths-haves.ensures c.join_answer.ensures c.in_ok-join_answer.was c.starts_of-at.ensures
    c.counts-counts.ensures

pub returns : goal.returns
returns c =
    let a = c.args in
    let y = cell_set a.members.now a.nodes.now a.links.now a.junctions.now a.heights.now a.refs.now in
    let m = memory a.ynd a.new_nodes.now a.new_links.now a.new_junctions.now a.new_heights.now a.new_refs.now in
    let h = joined a.count y m a.sizes c.own_area-area.ensures c.min-held.ensures c.lengths-lens.ensures
    c.lengths-haves.ensures c.join_answer.ensures c.in_ok-join_answer.was c.starts_of-at.ensures
    c.counts-counts.ensures
    c.entry_words.ensures.0 c.append.ensures.value in
    search (rules, h)
