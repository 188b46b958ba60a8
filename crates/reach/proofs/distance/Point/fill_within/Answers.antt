use Prim.Native.Nat.{◌+◌}
use native.Mathlib.Omega.{arith}
use mathlib.Core.Path.{ap, sym, ◌∙◌}
use mathlib.Core.List.{[], ◌∷◌, ◌++◌}
use lib.ListN.{length, length-append, drop}
use Rattle.reach.specs.Reach.{within}
use Rattle.reach.specs.Parts.{far, distances_from}
use Rattle.reach.proofs.TurnLaws.{listed_near, listed_not, room_near, filled_near}
use Rattle.reach.proofs.distance.Point.fill_within.Goals as goal
use Rattle.reach.proofs.distance.Point.fill_within.Goals.{then-distance_up_to-limit, else-distance_up_to-limit}

pub bounds-places-count : goal.bounds-places-count
unfolding far
bounds-places-count c =
    let s = c.args.self.now in
    omega (
      arith,
      room_near (distances_from s) c.args.radius c.loop-i.i _ _ c.distance_up_to.ensures c.beyond-limit.ensures
          (length s.nodes.now) (length c.args.places.now) c.if-distance_up_to-limit.true c.loop-i-test.true
          c.requires.1,
    )

pub loop-i-preserved : goal.loop-i-preserved
unfolding far
loop-i-preserved c =
    let s = c.args.self.now in
    let radius = c.args.radius in
    let k = c.loop-i in
    let before = c.args.places.now in
    let d = distances_from s in
    let r = c.distance_up_to.ensures in
    let l = c.beyond-limit.ensures in
    elim c.if-distance_up_to-limit.branch [
      | then-distance_up_to-limit w ↦
          let near = w.if-distance_up_to-limit.true in
          let room = room_near d radius k.i _ _ r l (length s.nodes.now) (length before) near c.loop-i-test.true
          c.requires.1 in (
            omega (
              arith,
              w.count-is,
              ap length (listed_near d radius k.i _ _ r l near),
              length-append
                  (within d radius k.i) (k.i ∷ []),
            ),
            w.places-is ∙ filled_near d radius k.i _ _ r l before k.places k.count near k.invariant.0 (omega arith)
                k.invariant.1
                ∙ (λ j. within d radius (k.i + 1) ++ drop (sym w.count-is j) before),
          )
      | else-distance_up_to-limit w ↦
          let same = listed_not d radius k.i _ _ r l w.if-distance_up_to-limit.false in (
            omega (arith, w.count-is, ap length same),
            w.places-is ∙ k.invariant.1 ∙ (λ j. sym same j ++ drop (sym w.count-is j) before),
          )
    ]
