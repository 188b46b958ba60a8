use Rattle.std.proofs.Common.{map, List, rules, tests, ◌∙◌}
use Rattle.std.proofs.lemmas.Iterator.{YieldsList-from_slice}
use Rattle.std.proofs.lemmas.Iterator.Search.{all_from_yields_List}
use Rattle.cells.specs.Lists.{every}
use Rattle.cells.specs.Nodes.{number_of}
use Rattle.sets.specs.SetSoundParts.{words_meet}
use Rattle.walks.proofs.Ranges.{all_is_every}
use Rattle.sets.proofs.arrivals.Target.member_meets.Goals as goal
use Rattle.cells.specs.declared.link.PathLink.{PathLink}

pub returns : goal.returns
returns c =
    let a = c.args in
    let s = a.self.now in
    let own = c.own_entries-links in
    let nodes = c.own_entries in
    let f = λ (links : List PathLink). words_meet s.set.areas.now s.member
    (map number_of s.numbers.nodes.now) a.i links in
    all_from_yields_List (f own.result.now) _ _ _ c.all.ensures.ran (YieldsList-from_slice nodes.result.now cc)
    (λ x b q h. search (rules, tests))
    ∙ all_is_every (f own.result.now) nodes.result.now
    ∙ (λ j. every (f (own.ensures.value j)) (nodes.ensures.value j))
