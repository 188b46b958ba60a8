-- `printround::text::round`: the head, the lines, the end.
use Rattle.std.proofs.Common.{string_bytes, ap, ◌∙◌, ◌++◌}
use lib.Seq.{take-length}
use Rattle.cells.specs.Nodes.{first_area}
use Rattle.printround.proofs.Lines.{round_said}
use Rattle.printround.proofs.text.round.Goals as goal

pub returns : goal.returns
returns c =
    let a = c.args in
    let head = string_bytes c.in_ok-text.text in
    let first = c.in_ok-push_str.ensures.bytes ∙ ap (λ x. head ++ x) c.as_str.ensures.value in
    let second = c.in_ok-push_str-2.ensures.bytes
    ∙ ap (λ x. string_bytes c.push_str.new.self ++ x) c.as_str-2.ensures.value in
    λ links.
    round_said links a.nodes.now a.choices a.end a.places.now c.own_area-area.result head
    (string_bytes c.in_ok-visited.visited) (string_bytes c.in_ok-last.last) (string_bytes c.push_str.new.self)
    (string_bytes c.push_str-2.new.self) (c.own_area-area.ensures ∙ ap first_area (take-length a.nodes.now))
    c.in_ok-text.ensures
    (c.in_ok-visited.ensures links) c.in_ok-last.ensures first second
