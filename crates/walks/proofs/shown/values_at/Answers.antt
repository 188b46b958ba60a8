use Rattle.std.proofs.Common.{◌∙◌, refl}
use Rattle.walks.proofs.ShownLaws.{values_answered}
use Rattle.walks.proofs.shown.values_at.Goals as goal

pub returns : goal.returns
returns c = λ ns ls rs.
    c.part.ensures ∙ values_answered _ _ c.requires.0 c.requires.1 _ _ refl c.value_count.ensures.0
