-- `printround::print::file_read`: the round of the file, or its refusal.
use Rattle.std.proofs.Common.{◌≡◌, ◌∙◌, ap, take, length, arith}
use Rattle.std.proofs.lemmas.Result.{IfOk-weaker}
use Rattle.cells.specs.Memory.{memory}
use Rattle.rounds.specs.Round.{version_read}
use Rattle.printround.specs.Text.{refused_of}
use lib.Seq.{take_at}
use Rattle.printround.proofs.Zeros.{choices_lent_law}
use Rattle.printround.proofs.Cases.{file_held, file_refused}
use Rattle.printround.proofs.print.file_read.Goals as goal

-- what reading left stands in the vector
pub returns-in-Ok : goal.returns-in-Ok
returns-in-Ok c =
    let a = c.args in
    let r = c.in-Ok.round in
    let f = c.read_version-read in
    let zeros = choices_lent_law _ (c.as_mut_slice.ensures.value ∙ c.in_ok-choices.ensures.items_if_clones_equal
    (λ y h. h)) in
    let is = c.in-Ok.ensures ∙ ap (version_read a.file.now) zeros in
    let long : length f.new.choices ≡ c.in_ok-choices.choices.len
    = omega (arith, f.auto.choices, c.as_mut_slice.ensures.len) in
    let shown = c.as_slice.ensures.value ∙ c.truncate.ensures.items
    ∙ ap (take r.count) (take_at f.new.choices _ _ long) in
    IfOk-weaker c.followed.result _ _
    (λ text said js hs rs.
    file_held (memory a.ynd a.nodes.now a.links.now js hs rs) r.version r.start r.count f.new.choices _ _ _
    (said js hs rs) shown is)
    c.followed.ensures

pub returns : goal.returns
returns c =
    let a = c.args in
    let zeros = choices_lent_law _ (c.as_mut_slice.ensures.value ∙ c.in_ok-choices.ensures.items_if_clones_equal
    (λ y h. h)) in
    let is = c.in-Err.ensures ∙ ap (version_read a.file.now) zeros in
    IfOk-weaker c.refused.result _ _
    (λ text said js hs rs.
    file_refused (memory a.ynd a.nodes.now a.links.now js hs rs) c.in-Err.refusal _ _ _
    (said ∙ ap refused_of c.number.ensures) is)
    c.refused.ensures
