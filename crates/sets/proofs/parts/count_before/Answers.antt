use Rattle.std.proofs.Common.{length, take, arith, rules, ◌≤◌, ◌^◌, ◌∙◌}
use Rattle.std.proofs.lemmas.List.{length-take-le}
use Rattle.std.proofs.lemmas.Iterator.{YieldsList-from_slice, YieldsList-from_map}
use Rattle.std.proofs.lemmas.Iterator.Adapters.{fits_from_length, at_most_from_yields_List}
use Rattle.std.proofs.lemmas.Iterator.Consumers.{YieldsList-at, sum_by_from_yields_List}
use Rattle.sets.specs.CellSet.{word}
use Rattle.sets.specs.SetParts.{size_word}
use Rattle.sets.proofs.PartLaws.{words_before}
use Rattle.sets.proofs.parts.count_before.Goals as goal

pub sum-requires-clause-fits : goal.sum-requires-clause-fits
sum-requires-clause-fits c =
    let ws = take c.args.i c.args.members.now in
    let few : length ws ≤ 9 = omega (arith, length-take-le c.args.i c.args.members.now c.requires.0) in
    fits_from_length _ _ 9 (2 ^ 64) (at_most_from_yields_List (YieldsList-from_slice ws cc) few) c.map.ensures.closure
    (omega arith) (λ x r q k. search rules)

pub returns : goal.returns
returns c =
    let a = c.args in
    let k = size_word a.list in
    let ws = take a.i a.members.now in
    sum_by_from_yields_List (word k) ws c.map.result _ c.sum.ensures.ran
    (YieldsList-from_map _ (word k) (YieldsList-at c.map.ensures.source (YieldsList-from_slice ws cc))
    c.map.ensures.closure
    (λ x r q k. search rules))
    ∙ words_before k a.members.now a.i
