use native.Mathlib.Omega.{arith}
use mathlib.Core.Path.{sym, ◌∙◌}
use Rattle.paths.proofs.RelaxLaws.{linked, link_fits, one_taken, one_stopped, still_ready}
use Rattle.paths.proofs.search.Search.relax_one.Goals as goal

pub overflow_mul-edge : goal.overflow_mul-edge
overflow_mul-edge c =
    let p = c.requires in
    let x = linked _ _ _ c.args.self.now.lent _ _ _ _ _ _ p.1.searching p.2 p.3 p.4 _
    (sym c.in-Some.is ∙ c.follow.ensures) in
    omega (arith, x.short)

pub overflow_add-key : goal.overflow_add-key
overflow_add-key c =
    let p = c.requires in
    let x = linked _ _ _ c.args.self.now.lent _ _ _ _ _ _ p.1.searching p.2 p.3 p.4 _
    (sym c.in-Some.is ∙ c.follow.ensures) in
    omega (arith, x.small)

pub overflow_add-key-in-Some : goal.overflow_add-key-in-Some
overflow_add-key-in-Some c =
    let p = c.requires in
    let x = linked _ _ _ c.args.self.now.lent _ _ _ _ _ _ p.1.searching p.2 p.3 p.4 _
    (sym c.in-Some.is ∙ c.follow.ensures) in
    omega (arith, x.small)

pub offer-requires : goal.offer-requires
offer-requires c =
    let p = c.requires in
    let e = sym c.in-Some.is ∙ c.follow.ensures in
    let x = linked _ _ _ c.args.self.now.lent _ _ _ _ _ _ p.1.searching p.2 p.3 p.4 _ e in (
      rw p.1.places p.1.searching.kept,
      rw p.1.places x.inside,
      rw p.1.places p.2,
      link_fits _ _ _ c.args.self.now.lent _ _ _ _ _ _ p.1.searching p.2 p.3 p.4 _ e,
    )

pub returns-in-Some : goal.returns-in-Some
returns-in-Some c =
    let s = c.args.self.now in
    let p = c.requires in
    let o = c.offer.ensures in
    let t = one_taken _ _ _ s.lent _ _ _ _ _ _ p.1.searching p.2 p.3 p.4 _ _ _ (sym c.in-Some.is ∙ c.follow.ensures)
    (rw p.1.places at o.1) in (
      still_ready s _ _ c.offer.auto.scratch t.3 p.0,
      record { places = o.0 ∙ p.1.places; searching = t.0 },
      t.1,
      rw (o.0, p.1.places) t.2,
    )

pub returns-in_default : goal.returns-in_default
returns-in_default c =
    let p = c.requires in
    let t = one_stopped _ _ _ c.args.self.now.lent _ _ _ _ _ _ p.1.searching p.2 p.3 p.4
    (sym c.in_default.is ∙ c.follow.ensures) in
    (p.0, record { places = p.1.places; searching = t.0 }, p.3, omega arith)
