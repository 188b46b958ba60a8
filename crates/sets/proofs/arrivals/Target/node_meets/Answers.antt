use Rattle.std.proofs.Common.{refl, map, rules, tests, ◌∙◌}
use Rattle.std.proofs.lemmas.Iterator.{YieldsList-from_slice}
use Rattle.std.proofs.lemmas.Iterator.Search.{all_from_yields_List}
use Rattle.cells.specs.Nodes.{number_of}
use Rattle.sets.specs.SetSoundParts.{word_meets}
use Rattle.walks.proofs.Ranges.{all_is_every}
use Rattle.sets.proofs.ArrivalLaws.{its_links}
use Rattle.sets.proofs.arrivals.Target.node_meets.Goals as goal

pub returns : goal.returns
returns c =
    let s = c.args.self.now in
    let f = word_meets s.set.areas.now s.member
    (map number_of s.numbers.nodes.now) c.args.i in
    let own = c.part.result.now in
    all_from_yields_List f _ _ _ c.all.ensures.ran (YieldsList-from_slice own cc) (λ x b q h. search (rules, tests))
    ∙ all_is_every f own
    ∙ its_links s.set.areas.now s.member (map number_of s.numbers.nodes.now) c.args.i c.args.links.now c.args.n.now
    c.part.ensures refl refl
