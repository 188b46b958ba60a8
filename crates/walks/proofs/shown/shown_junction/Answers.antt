use Rattle.walks.proofs.ShownLaws.{junction_answered}
use Rattle.walks.proofs.shown.shown_junction.Goals as goal

pub returns : goal.returns
returns c = λ ns ls hs rs. junction_answered _ _ _ c.in_ok-place.ensures.value _ c.from.ensures
