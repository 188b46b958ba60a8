use native.Mathlib.Omega.{arith}
use mathlib.Core.Path.{sym, ◌∙◌}
use Rattle.cells.specs.Memory.{memory}
use Rattle.walks.proofs.ShownLaws.{node_answered}
use Rattle.walks.proofs.shown.shown_node.Goals as goal

pub returns : goal.returns
returns c = λ heights.
    let a = c.args in
    let m = memory a.ynd a.nodes.now a.links.now a.junctions.now heights a.refs.now in
    let p = c.in_ok-check_place.ensures.passed in
    node_answered m p.0 p.3 p.4 (omega arith) (omega arith) a.place p.1
    (sym c.in_ok-check_place.was ∙ c.check_place.ensures.value) _ _ _ c.seen_of.ensures
    c.cut-count.ensures
    (sym c.in_ok-junction.was ∙ c.junction_of.ensures)
