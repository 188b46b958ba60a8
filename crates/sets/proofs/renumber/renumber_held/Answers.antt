use Rattle.std.proofs.Common.{arith, ap, ◌∙◌, rules}
use Rattle.std.specs.Prelude.{Ok}
use Rattle.cells.specs.declared.counts.Counts.{Counts}
use Rattle.sets.specs.CellSet.{cell_set}
use Rattle.sets.specs.RenumberMember.{member_renumbered}
use Rattle.sets.proofs.PartLaws.{start_inside}
use Rattle.sets.proofs.RenumberedPart.{refused_at, tells, is_table, wide, never_refused, renumbered_at_law}
use Rattle.sets.proofs.renumber.renumber_held.Goals as goal

pub numbers_at-requires : goal.numbers_at-requires
numbers_at-requires c =
    omega (
      arith,
      ap (λ (z : Counts). z.nodes) c.requires.4,
      start_inside c.requires.5.nodes_hold c.args.j
          c.requires.0,
    )

pub returns-in_err-numbers_at-clause-called : goal.returns-in_err-numbers_at-clause-called
returns-in_err-numbers_at-clause-called c =
    (refused_at _ _ c.args.p c.requires _ _ _ _ _ c.numbers_at.ensures c.in_err-numbers_at.was
    c.from_residual.ensures.1).0

pub returns-in_err-numbers_at-clause-scratch_left : goal.returns-in_err-numbers_at-clause-scratch_left
returns-in_err-numbers_at-clause-scratch_left c =
    (refused_at _ _ c.args.p c.requires _ _ _ _ _ c.numbers_at.ensures c.in_err-numbers_at.was
    c.from_residual.ensures.1).1

pub correct_others-requires : goal.correct_others-requires
correct_others-requires c =
    let q = c.requires in
    let w = wide _ _ c.args.p q _ _ _ _ _ c.numbers_at.ensures c.in_ok-numbers_at.was in (
      q.0,
      q.1,
      q.5.nodes_hold,
      q.5.links_hold,
      omega (arith, w),
      is_table _ _ c.args.p q _ _ _ _ _ c.numbers_at.ensures c.in_ok-numbers_at.was,
    )

pub renumber_part-requires : goal.renumber_part-requires
renumber_part-requires c =
    let e = c.requires.4 in
    let h = c.requires.5 in (
      omega (arith, ap (λ (z : Counts). z.nodes) e, start_inside h.nodes_hold c.args.j c.requires.0),
      omega (arith, ap (λ (z : Counts). z.links) e, start_inside h.links_hold c.args.j c.requires.0),
      omega (arith, ap (λ (z : Counts). z.refs) e, start_inside h.refs_hold c.args.j c.requires.0),
    )

pub returns-in_err-next-clause-called : goal.returns-in_err-next-clause-called
returns-in_err-next-clause-called c =
    let t = tells _ _ c.args.p c.requires _ _ _ _ _ c.numbers_at.ensures c.in_ok-numbers_at.was in
    never_refused _ _ c.args.p c.requires _ _ _ _ _ c.numbers_at.ensures c.in_ok-numbers_at.was _
    (c.correct_others.ensures _ t) _ _ _ _ _ c.renumber_part.ensures.called c.renumber_part.ensures.before _
    c.in_err-next.was

pub returns-in_err-next-clause-scratch_left : goal.returns-in_err-next-clause-scratch_left
returns-in_err-next-clause-scratch_left c =
    let t = tells _ _ c.args.p c.requires _ _ _ _ _ c.numbers_at.ensures c.in_ok-numbers_at.was in
    never_refused _ _ c.args.p c.requires _ _ _ _ _ c.numbers_at.ensures c.in_ok-numbers_at.was _
    (c.correct_others.ensures _ t) _ _ _ _ _ c.renumber_part.ensures.called c.renumber_part.ensures.before _
    c.in_err-next.was

pub returns-clause-called : goal.returns-clause-called
returns-clause-called c =
    let a = c.args in
    let l = c.renumber_part.new.self in
    let t = tells _ _ c.args.p c.requires _ _ _ _ _ c.numbers_at.ensures c.in_ok-numbers_at.was in
    let done = renumbered_at_law _ _ c.args.p c.requires _ _ _ _ _ c.numbers_at.ensures c.in_ok-numbers_at.was _
    (c.correct_others.ensures _ t) _ _ _ _ _ c.renumber_part.ensures.called c.renumber_part.ensures.before
    _ c.in_ok-next.was in
    let h = (λ i. member_renumbered (Ok tt) (cell_set (c.store_ynd.ensures i) l.nodes.now l.links.now
    a.lists.junctions.now a.lists.heights.now l.refs.now) c.renumber_part.new.places) ∙ done in
    search (rules, h)
