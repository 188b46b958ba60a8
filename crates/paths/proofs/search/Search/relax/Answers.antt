use Rattle.paths.proofs.RelaxLaws.{all_relaxed}
use Rattle.paths.proofs.search.Search.relax.Goals as goal
use Rattle.std.proofs.Common.{refl}

pub returns : goal.returns
returns c =
    let a = c.args in
    let s = a.self.now in
    let i = c.loop-b.invariant in
    let done = all_relaxed _ _ _ s.lent _ _ _ _ _ _ i.1.searching c.requires.2
    refl c.loop-b-test.false in
    (i.0, record { places = i.1.places; searching = done }, i.3)
