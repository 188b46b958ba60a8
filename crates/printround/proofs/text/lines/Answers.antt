-- `printround::text::lines`: a line more behind the lines so far.
use Rattle.std.proofs.Common.{map, string_bytes, ap, ◌∙◌}
use Rattle.std.proofs.Common.{◌++◌}
use Rattle.cells.specs.CellOf.{node_with}
use Rattle.printround.specs.Text.{lines_of}
use Rattle.printround.proofs.Lines.{line_more, lines_done}
use Rattle.printround.proofs.text.lines.Goals as goal

pub loop-k-preserved : goal.loop-k-preserved
loop-k-preserved c =
    let a = c.args in
    let text = string_bytes c.loop-k.text in
    let grown = c.in_ok-push_str.ensures.bytes ∙ ap (λ x. text ++ x) c.as_str.ensures.value in
    λ links.
    line_more links a.nodes.now a.places.now text (string_bytes c.in_ok-next.next)
    (string_bytes c.push_str.new.self) _ c.entry_at-n.result c.loop-k.k c.loop-k-test.true c.entry_at-n.ensures
    c.in_ok-next.ensures grown (c.loop-k.invariant links)

pub returns : goal.returns
returns c = λ links.
    let ns = map (node_with links) c.args.nodes.now in
    lines_done ns c.args.places.now (string_bytes c.loop-k.text) (lines_of ns 0 c.args.places.now) c.loop-k.k
    c.loop-k-test.false (c.loop-k.invariant links)
