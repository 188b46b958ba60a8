use Rattle.std.proofs.Common.{◌≡◌, ℕ, ap, ◌∙◌, rules}
use borrow.Author.Tests.{tests}
use denote.Bor.{Bor}
use Rattle.std.proofs.lemmas.Iterator.{YieldsList-from_slice}
use Rattle.std.proofs.lemmas.Iterator.Search.{find_from_yields_List}
use Rattle.std.specs.Option.{option_map}
use Rattle.records.specs.declared.junction_ref.NodeJunctionRef.{NodeJunctionRef}
use Rattle.cells.specs.Lookup.{ref_matches}
use Rattle.cells.proofs.Lookups.LookupLaws.{ref_found, mapped_twice}
use Rattle.cells.proofs.lookup.first_ref.Goals as goal

pub returns : goal.returns
returns c =
    let a = c.args in
    let junction : NodeJunctionRef → ℕ = λ (r : NodeJunctionRef). r.junction_id in
    let now : Bor NodeJunctionRef → NodeJunctionRef = λ (r : Bor NodeJunctionRef). r.now in
    let m : c.map.result ≡ option_map (λ r. junction (now r)) c.find.result = search rules in
    m ∙ mapped_twice junction now c.find.result
    ∙ ap (option_map junction) (find_from_yields_List (ref_matches a.own a.area_id a.node_id) _ _
    c.find.result c.find.ensures.ran (YieldsList-from_slice a.refs.now cc) (λ x b q k. search (rules, tests)))
    ∙ ref_found a.own a.area_id a.node_id a.refs.now
