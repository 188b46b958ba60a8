use Rattle.paths.proofs.FillLaws.{fill_turn, fill_choices, fill_places}
use Rattle.paths.proofs.path.fill.Goals as goal

pub loop-i-preserved : goal.loop-i-preserved
loop-i-preserved c =
    let a = c.args in
    fill_turn _ _ _ _ c.requires.1 _ _ _ _ c.loop-i.invariant
    c.loop-i-test.true _ _ c.by_of.ensures c.from_of-v.ensures

pub returns : goal.returns
returns c =
    let a = c.args in (
      fill_choices _ _ _ _ c.requires.1 _ _ _ _ c.loop-i.invariant c.loop-i-test.false,
      fill_places _ _ _ _ c.requires.1 _ _ _ _ c.loop-i.invariant c.loop-i-test.false,
    )
