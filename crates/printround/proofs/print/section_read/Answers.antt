-- `printround::print::section_read`: the cell's round, or reading's refusal.
use Rattle.std.proofs.Common.{rules, ◌≡◌, [], ◌∙◌, ap, length, arith}
use Rattle.std.proofs.lemmas.Result.{IfOk-weaker}
use Rattle.cells.specs.Memory.{memory}
use Rattle.cells.specs.Nodes.{no_entry, no_link, no_map, no_ref}
use Rattle.cells.specs.Read.{read_of}
use Rattle.rounds.specs.Round.{version_read}
use Rattle.printround.specs.Printed.{file_of, choices_lent}
use Rattle.printround.specs.Text.{refused_of}
use lib.ListN.{replicate}
use lib.Seq.{take_at}
use Rattle.printround.proofs.Zeros.{memory_lent}
use Rattle.printround.proofs.Cases.{section_held, section_refused}
use Rattle.printround.proofs.print.section_read.Goals as goal

pub returns-in-Ok : goal.returns-in-Ok
returns-in-Ok c =
    let a = c.args in
    let o = c.cell_read-read in
    let zeros = memory_lent _ _ _ _ _
    (c.as_mut_slice.ensures.value ∙ c.in_ok-nodes.ensures.items_if_clones_equal (λ y h. h)
    ∙ ap (replicate 1024) (let e : c.default.result ≡ no_entry = search rules in e))
    (c.as_mut_slice-2.ensures.value ∙ c.in_ok-links.ensures.items_if_clones_equal (λ y h. h)
    ∙ ap (replicate 8192) (let e : c.default-2.result ≡ no_link = search rules in e))
    (c.as_mut_slice-3.ensures.value ∙ c.in_ok-junctions.ensures.items_if_clones_equal (λ y h. h)
    ∙ ap (replicate 256) (let e : c.default-3.result ≡ no_map = search rules in e))
    (c.as_mut_slice-4.ensures.value ∙ c.in_ok-heights.ensures.items_if_clones_equal (λ y h. h))
    (c.as_mut_slice-5.ensures.value ∙ c.in_ok-refs.ensures.items_if_clones_equal (λ y h. h)
    ∙ ap (replicate 1024) (let e : c.default-4.result ≡ no_ref = search rules in e)) in
    let nodes_long : length o.new.nodes ≡ c.in_ok-nodes.nodes.len
    = omega (arith, o.auto.nodes, c.as_mut_slice.ensures.len) in
    let links_long : length o.new.links ≡ c.in_ok-links.links.len
    = omega (arith, o.auto.links, c.as_mut_slice-2.ensures.len) in
    let n = c.as_slice.ensures.value ∙ take_at o.new.nodes _ _ nodes_long in
    let l = c.as_slice-in-Ok.ensures.value ∙ take_at o.new.links _ _ links_long in
    let v = version_read a.file.now choices_lent in
    IfOk-weaker c.file_read.result _ _
    (λ text said.
    section_held a.section.now a.file.now _ c.in-Ok.ynd o.new.nodes o.new.links o.new.junctions o.new.heights
    o.new.refs
    (said o.new.junctions o.new.heights o.new.refs
    ∙ (λ i. file_of (memory c.in-Ok.ynd (n i) (l i) o.new.junctions o.new.heights o.new.refs) v))
    (c.in-Ok.ensures ∙ ap (read_of a.section.now []) zeros))
    c.file_read.ensures

pub returns : goal.returns
returns c =
    let a = c.args in
    let o = c.cell_read-read in
    let zeros = memory_lent _ _ _ _ _
    (c.as_mut_slice.ensures.value ∙ c.in_ok-nodes.ensures.items_if_clones_equal (λ y h. h)
    ∙ ap (replicate 1024) (let e : c.default.result ≡ no_entry = search rules in e))
    (c.as_mut_slice-2.ensures.value ∙ c.in_ok-links.ensures.items_if_clones_equal (λ y h. h)
    ∙ ap (replicate 8192) (let e : c.default-2.result ≡ no_link = search rules in e))
    (c.as_mut_slice-3.ensures.value ∙ c.in_ok-junctions.ensures.items_if_clones_equal (λ y h. h)
    ∙ ap (replicate 256) (let e : c.default-3.result ≡ no_map = search rules in e))
    (c.as_mut_slice-4.ensures.value ∙ c.in_ok-heights.ensures.items_if_clones_equal (λ y h. h))
    (c.as_mut_slice-5.ensures.value ∙ c.in_ok-refs.ensures.items_if_clones_equal (λ y h. h)
    ∙ ap (replicate 1024) (let e : c.default-4.result ≡ no_ref = search rules in e)) in
    IfOk-weaker c.refused.result _ _
    (λ text said.
    section_refused a.section.now a.file.now _ c.in-Err.refusal o.new.nodes o.new.links o.new.junctions
    o.new.heights o.new.refs (said ∙ ap refused_of c.number.ensures)
    (c.in-Err.ensures ∙ ap (read_of a.section.now []) zeros))
    c.refused.ensures
