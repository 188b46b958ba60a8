use Rattle.std.proofs.Common.{◌∙◌, rules, Bool}
use borrow.Author.Tests.{tests}
use Rattle.std.proofs.lemmas.Iterator.{YieldsList-from_slice}
use Rattle.std.proofs.lemmas.Iterator.Search.{all_from_yields_List}
use Rattle.walks.specs.SoundParts.{all_numbers, named}
use Rattle.walks.proofs.Ranges.{all_is_every}
use Rattle.walks.proofs.sound.Known.names_all.Goals as goal

pub returns : goal.returns
returns g c =
    let N = g.T.Named in
    let ks = all_numbers c.args.self.now.numbers.nodes.now in
    let test : _ → Bool = λ x. named ks c.args.self.now.own (N.area x) (N.number x) in
    all_from_yields_List test _ _ c.all.result c.all.ensures.ran (YieldsList-from_slice c.args.list.now cc)
    (λ x b q k. search (rules, tests))
    ∙ all_is_every test c.args.list.now
