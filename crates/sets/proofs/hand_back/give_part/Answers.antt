use mathlib.Core.List.{[]}
use Rattle.sets.specs.ListParts.{set_given, memory_of}
use Rattle.sets.proofs.HandBackLaws.{given_part}
use Rattle.sets.proofs.hand_back.give_part.Goals as goal

pub returns-clause-value : goal.returns-clause-value
returns-clause-value c =
    let x = c.args in
    let b = c.between-part.ensures in
    let d = c.default.ensures in
    let e = rw (b.0, b.1, b.2, b.3, b.4, d.0, d.1.0, d.1.1.0, d.1.1.1.0, d.1.1.1.1) at
    c.append.ensures.value in
    given_part x.p (set_given [] x.from) (memory_of x.p.ynd x.to.now) _ c.counts.ensures _ _ _ _ _ e.0 e.1 e.2 e.3 e.4
