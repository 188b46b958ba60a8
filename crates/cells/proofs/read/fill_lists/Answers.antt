use Rattle.std.proofs.Common.{◌++◌, drop, ap, ◌∙◌, length-take-le}
use Rattle.cells.specs.Lists.{up_to, join_to}
use Rattle.cells.specs.Memory.{memory}
use Rattle.cells.specs.Read.{node_in, links_in, junction_in, values_in, ref_in, filled}
use Rattle.cells.proofs.read.fill_lists.Goals as goal

pub returns : goal.returns
unfolding filled node_in junction_in
returns c ynd =
    let a = c.args in
    let k = a.k in
    let n = a.f.nodes in
    let j = a.f.junctions in
    let nodes = length-take-le k.nodes a.nodes.now c.requires.room.0 in
    let junctions = length-take-le k.junctions a.junctions.now c.requires.room.2 in
    let refs = length-take-le k.refs a.refs.now c.requires.room.4 in
    let fn = c.fill_ranges.ensures in
    let fj = c.fill_ranges-2.ensures in
    λ i. memory (c.ynd_of.ensures i)
    ((fn.0 ∙ ap (up_to (node_in n.n.now)) nodes) i ++ drop k.nodes a.nodes.now)
    ((fn.1 ∙ ap (join_to (links_in n.n.now n.l.now)) nodes) i ++ drop k.links a.links.now)
    ((fj.0 ∙ ap (up_to (junction_in j.j.now)) junctions) i ++ drop k.junctions a.junctions.now)
    ((fj.1 ∙ ap (join_to (values_in j.j.now j.h.now)) junctions) i ++ drop k.heights a.heights.now)
    ((c.fill_refs.ensures ∙ ap (up_to (ref_in a.f.refs.now)) refs) i ++ drop k.refs a.refs.now)
