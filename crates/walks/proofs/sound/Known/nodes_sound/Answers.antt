use Rattle.std.proofs.Common.{◌∙◌, rules}
use borrow.Author.Tests.{tests}
use Rattle.std.proofs.lemmas.Iterator.{YieldsList-from_slice}
use Rattle.std.proofs.lemmas.Iterator.Search.{all_from_yields_List}
use Rattle.walks.specs.SoundParts.{all_numbers, node_sound}
use Rattle.walks.proofs.Ranges.{all_is_every}
use Rattle.walks.proofs.sound.Known.nodes_sound.Goals as goal

pub returns : goal.returns
returns c =
    let s = c.args.self.now in
    let test = node_sound (all_numbers s.numbers.nodes.now) s.own c.args.links.now in
    all_from_yields_List test _ _ c.all.result c.all.ensures.ran (YieldsList-from_slice s.numbers.nodes.now cc)
    (λ x b q k. search (rules, tests))
    ∙ all_is_every test s.numbers.nodes.now
