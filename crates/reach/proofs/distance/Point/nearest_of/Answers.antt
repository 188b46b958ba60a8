use Rattle.std.proofs.Common.{◌≡◌, ℕ, ◌+◌, ◌<◌, ◌≤◌, sym, ap, ◌∙◌, subst}
use mathlib.Core.Option.{some}
use Rattle.reach.specs.Parts.{bounded, distances_from}
use Rattle.reach.proofs.TurnLaws.{below_limit, not_below, nearest_here, nearest_there, nearest_rest}
use Rattle.reach.proofs.distance.Point.nearest_of.Goals as goal

pub loop-i-preserved : goal.loop-i-preserved
loop-i-preserved c =
    let d = distances_from c.args.self.now in
    let i = c.loop-i.i in
    let r = c.distance_up_to-d.result in
    let e : r ≡ bounded c.loop-i.least (d (i + 1))
    = c.distance_up_to-d.ensures ∙ ap (bounded c.loop-i.least)
    (nearest_rest c.args.self.now.x c.args.self.now.y i c.args.self.now.nodes.now c.loop-i-test.true) in
    elim c.if-d-least.branch [
      | goal.then-d-least w ↦
          let b = below_limit r c.loop-i.least (d (i + 1)) e w.if-d-least.true in (
            w.least-is ∙ b.1 ∙ ap d (sym w.best-is),
            nearest_here d (i + 1) c.loop-i.best c.loop-i.invariant.1
                (subst (λ (t : ℕ). d (i + 1) < t) c.loop-i.invariant.0 b.0) ∙ ap some (sym w.best-is),
          )
      | goal.else-d-least w ↦ (
        w.least-is ∙ c.loop-i.invariant.0 ∙ ap d (sym w.best-is),
        nearest_there d (i + 1) c.loop-i.best c.loop-i.invariant.1
            (subst (λ (t : ℕ). t ≤ d (i + 1)) c.loop-i.invariant.0
            (not_below r c.loop-i.least (d (i + 1)) e w.if-d-least.false)) ∙ ap some (sym w.best-is),
      )
    ]
