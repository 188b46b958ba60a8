use Rattle.std.proofs.Common.{rules, ◌∙◌}
use Rattle.std.proofs.lemmas.Iterator.{YieldsList-from_slice, YieldsList-from_map}
use Rattle.std.proofs.lemmas.Iterator.Consumers.{YieldsList-at, sum_by_from_yields_List}
use Rattle.sets.specs.CellSet.{word}
use Rattle.sets.proofs.PartLaws.{words_total}
use Rattle.sets.proofs.parts.nodes_together.Goals as goal

pub returns : goal.returns
returns c =
    let ws = c.args.members.now in
    sum_by_from_yields_List (word 10) ws c.map.result _ c.sum.ensures.ran
    (YieldsList-from_map _ (word 10) (YieldsList-at c.map.ensures.source (YieldsList-from_slice ws cc))
    c.map.ensures.closure
    (λ x r q k. search rules))
    ∙ words_total 10 ws
