use Rattle.std.proofs.Common.{◌∙◌, rules}
use borrow.Author.Tests.{tests}
use Rattle.std.proofs.lemmas.Iterator.{YieldsList-from_slice}
use Rattle.std.proofs.lemmas.Iterator.Consumers.{YieldsList-from_enumerate}
use Rattle.std.proofs.lemmas.Iterator.Search.{all_from_yields_List}
use Rattle.walks.proofs.ScratchLaws.{differ_told, leads_back}
use Rattle.walks.proofs.sound.Known.differ.Goals as goal

pub returns : goal.returns
returns c =
    let s = c.args.self.now.numbers in
    all_from_yields_List (leads_back s.scratch.now) _ _ c.all.result c.all.ensures.ran
    (YieldsList-from_enumerate (YieldsList-from_slice s.nodes.now cc) cc) (λ x b q k. search (rules, tests))
    ∙ differ_told s.nodes.now s.scratch.now s.leads
