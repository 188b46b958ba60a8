use Rattle.std.proofs.Common.{◌+◌, ◌<◌, ◌≢◌, length, arith, sym, ◌∙◌, below_more, get_or-set_other, get_or-set_same}
use Rattle.sets.proofs.PartLaws.{start_next, start_none, part_inside}
use Rattle.sets.proofs.AreasFilled.{area_seen}
use Rattle.sets.proofs.areas.fill_areas.Goals as goal

pub loop-i-init : goal.loop-i-init
loop-i-init c = (sym (start_none 15 c.args.members.now), omega arith, λ j lt. absurd (omega arith))

pub loop-i-preserved : goal.loop-i-preserved
loop-i-preserved c =
    let i = c.loop-i.i in
    let ws = c.args.members.now in
    let nodes = c.args.nodes.now in
    let now = c.loop-i.areas in
    let lt : i < length ws = c.loop-i-test.true in
    let room : i < length now = omega (arith, c.loop-i.auto.areas, c.requires.0) in (
      (λ k. c.loop-i.invariant.0 k + c.size_in-start.ensures.0 k) ∙ sym (start_next 15 ws i lt),
      omega (
        arith,
        part_inside c.requires.1 i lt,
        c.size_in-start.ensures.0,
        c.loop-i.invariant.0,
      ),
      below_more _ _
          (λ j h. let ne : j ≢ i = omega arith in rw get_or-set_other (c.loop-i.invariant.2 j h))
          (rw get_or-set_same (c.own_area.ensures
          ∙ area_seen ws nodes i c.loop-i.start c.count_in.result lt c.requires.1 c.loop-i.invariant.0
          c.count_in.ensures.0)),
    )
