use mathlib.Core.Path.{refl, sym, ◌∙◌}
use native.Mathlib.Omega.{arith}
use lib.ListN.{length}
use Rattle.reach.specs.Reach.{within}
use Rattle.reach.specs.Parts.{distances_from}
use Rattle.reach.proofs.CutLaws.{cut_nodes}
use Rattle.reach.proofs.Answers.{within_short, within_fits}
use Rattle.reach.proofs.Sorting.PartLaws.{part_held, part_sorted}
use Rattle.reach.proofs.reach.within.Goals as goal

pub returns-then-not-has_room : goal.returns-then-not-has_room
returns-then-not-has_room c =
    let own = c.in_ok-own.ensures in
    let p = c.new-point in
    let cut = cut_nodes _ _ _ _ _ (distances_from p.result) _ c.ranges.x c.ranges.y own.passed.2 own.own
    p.ensures.0 p.ensures.1 in
    within_short _ _ _ _ own.passed.0 own.passed.2 _ _ cut c.args.radius
    c.args.places.now
    (sym c.has_room.ensures ∙ c.if-not-has_room.true)

pub sort-requires : goal.sort-requires
sort-requires c =
    let own = c.in_ok-own.ensures in
    let p = c.new-point in
    let f = c.fill_within-count in
    let d = distances_from p.result in
    let n = length p.result.nodes.now in
    let cut = cut_nodes _ _ _ _ _ d _ c.ranges.x c.ranges.y own.passed.2 own.own
    p.ensures.0 p.ensures.1 in
    part_held (within d c.args.radius n) _ _ _ f.ensures.0 f.ensures.1 d c.args.radius n n refl (omega arith)
    (omega (arith, cut.long, own.passed.1))

pub returns : goal.returns
returns c =
    let own = c.in_ok-own.ensures in
    let p = c.new-point in
    let f = c.fill_within-count in
    let d = distances_from p.result in
    let W = within d c.args.radius (length p.result.nodes.now) in
    let cut = cut_nodes _ _ _ _ _ d _ c.ranges.x c.ranges.y own.passed.2 own.own
    p.ensures.0 p.ensures.1 in
    within_fits _ _ _ _ own.passed.0 own.passed.2 _ _ cut c.args.radius
    c.args.places.now
    (sym c.has_room.ensures ∙ c.if-not-has_room.false) _ _ f.ensures.0
    (part_sorted W _ _ _ f.ensures.0 f.ensures.1 d c.sort.new.places c.sort.ensures)
