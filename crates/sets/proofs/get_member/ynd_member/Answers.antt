use mathlib.Core.Path.{refl}
use Rattle.std.specs.Prelude.{Ok, Err}
use Rattle.sets.proofs.MemberAskLaws.{answered, apart, asks, not_asked, opens}
use Rattle.sets.proofs.get_member.ynd_member.Goals as goal

pub returns-in_err-p : goal.returns-in_err-p
returns-in_err-p c u =
    not_asked _ (asks c.held-lens.ensures (apart _ u.nodes_lie) (apart _ u.links_lie) (apart _ u.junctions_lie)
    (apart _ u.heights_lie) (apart _ u.refs_lie))
    c.open_member.ensures.value _ c.in_err-p.was c.from_residual.ensures.1

pub returns : goal.returns
returns c u =
    answered Err (λ m. Ok m.ynd)
    (opens _ (asks c.held-lens.ensures (apart _ u.nodes_lie) (apart _ u.links_lie) (apart _ u.junctions_lie)
    (apart _ u.heights_lie) (apart _ u.refs_lie)) c.open_member.ensures.value c.in_ok-p.was)
    refl
