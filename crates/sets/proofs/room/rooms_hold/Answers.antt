use Rattle.std.proofs.Common.{◌∙◌, rules, tests}
use Rattle.std.proofs.lemmas.Iterator.{YieldsList-from_slice}
use Rattle.std.proofs.lemmas.Iterator.Search.{all_from_yields_List}
use Rattle.sets.specs.CellSet.{room_for}
use Rattle.sets.specs.SetParts.{count_word, size_word}
use Rattle.walks.proofs.Ranges.{all_is_every}
use Rattle.sets.proofs.room.rooms_hold.Goals as goal

pub returns : goal.returns
returns c =
    let a = c.args in
    let f = room_for (count_word a.list) (size_word a.list) in
    all_from_yields_List f _ _ _ c.all.ensures.ran (YieldsList-from_slice a.members.now cc)
    (λ x b q h. search (rules, tests))
    ∙ all_is_every f a.members.now
