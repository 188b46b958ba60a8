-- `printround::print::followed`: the walk's end or refusal is printed.
use Rattle.std.proofs.Common.{◌≡◌, ◌∙◌, ap, take, length, arith, ℕ}
use Rattle.std.proofs.lemmas.List.{take_min}
use Rattle.std.proofs.lemmas.Result.{IfOk-weaker}
use Rattle.cells.specs.Memory.{memory}
use Rattle.rounds.specs.Follow.{follow_version}
use Rattle.printround.specs.Text.{refused_of}
use lib.Seq.{take_at}
use Rattle.printround.proofs.Zeros.{visited_lent_law}
use Rattle.printround.proofs.Cases.{ended, not_followed}
use Rattle.printround.proofs.print.followed.Goals as goal

-- what the walk left stands in the vector
pub returns-in-Ok : goal.returns-in-Ok
returns-in-Ok c =
    let a = c.args in
    let f = c.follow_version-walked in
    let zeros = visited_lent_law _ (c.as_mut_slice.ensures.value ∙ c.in_ok-visited.ensures.items_if_clones_equal
    (λ y h. h)) in
    let long : length f.new.visited ≡ c.in_ok-visited.visited.len
    = omega (arith, f.auto.visited, c.as_mut_slice.ensures.len) in
    let shown = c.as_slice.ensures.value ∙ c.truncate.ensures.items
    ∙ ap (take c.in-Ok.walk.count) (take_at f.new.visited _ _ long) in
    let own = ap (λ (k : ℕ). take k a.nodes.now) c.min.ensures ∙ take_min a.ynd.node_count a.nodes.now in
    IfOk-weaker c.round.result _ _
    (λ text said js hs rs.
    let m = memory a.ynd a.nodes.now a.links.now js hs rs in
    ended a.ynd a.nodes.now a.links.now js hs rs a.round_file.count c.in-Ok.walk.end c.in-Ok.walk.count
    f.new.visited _ _ _ said
    shown
    (c.in-Ok.ensures js hs rs ∙ ap (follow_version m a.round_file.version a.round_file.start a.choices.now) zeros))
    (rw own at c.round.ensures)

pub returns : goal.returns
returns c =
    let a = c.args in
    let zeros = visited_lent_law _ (c.as_mut_slice.ensures.value ∙ c.in_ok-visited.ensures.items_if_clones_equal
    (λ y h. h)) in
    IfOk-weaker c.refused.result _ _
    (λ text said js hs rs.
    let m = memory a.ynd a.nodes.now a.links.now js hs rs in
    not_followed m a.round_file.count c.in-Err.refusal _ _ _ (said ∙ ap refused_of c.number.ensures)
    (c.in-Err.ensures js hs rs ∙ ap (follow_version m a.round_file.version a.round_file.start a.choices.now) zeros))
    c.refused.ensures
