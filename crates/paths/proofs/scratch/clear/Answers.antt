use mathlib.Core.Path.{◌∙◌}
use Rattle.paths.proofs.ScratchLaws.{clear_turn, clear_same}
use Rattle.paths.proofs.scratch.clear.Goals as goal

pub loop-v-preserved : goal.loop-v-preserved
loop-v-preserved c =
    let l = c.loop-v in
    let h = l.invariant in
    let lt = c.loop-v-test.true in (
      clear_turn _ _ _ _ c.requires.0 h.0 lt c.clear_at.ensures,
      clear_same _ _ _ _ c.requires.0 h.0.room lt c.clear_at.ensures ∙ h.1,
    )
