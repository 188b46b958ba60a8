use Rattle.std.proofs.Common.{◌∙◌, rules, tests}
use Rattle.std.proofs.lemmas.Iterator.{YieldsList-from_slice}
use Rattle.std.proofs.lemmas.Iterator.Search.{any_from_yields_List}
use Rattle.cells.specs.Memory.{over_limit}
use Rattle.sets.specs.CellSet.{ynd_of}
use Rattle.sets.proofs.RoomLaws.{any_bare}
use Rattle.sets.proofs.room.any_over.Goals as goal

pub returns : goal.returns
returns c =
    let ws = c.args.members.now in
    any_from_yields_List (λ w. over_limit (ynd_of w)) _ _ _ c.any.ensures.ran (YieldsList-from_slice ws cc)
    (λ x b q h. search (rules, tests))
    ∙ any_bare ws
