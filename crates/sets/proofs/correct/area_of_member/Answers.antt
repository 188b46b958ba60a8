use Rattle.std.proofs.Common.{ap, refl, ◌∙◌}
use Rattle.std.proofs.Math.Seq.{take-length}
use Rattle.cells.specs.Nodes.{first_area}
use Rattle.sets.proofs.CorrectLaws.{area_at_start}
use Rattle.sets.proofs.correct.area_of_member.Goals as goal

pub returns : goal.returns
returns c =
    let own = c.own_entries-own in
    c.own_area.ensures
    ∙ ap first_area (take-length own.result.now ∙ own.ensures.value)
    ∙ area_at_start _ _ _ _ _ c.requires.2 c.requires.0 refl refl
