use mathlib.Core.Path.{sym, ap, ◌∙◌, subst}
use lib.ListN.{length}
use lib.Seq.{length-take-le}
use Rattle.std.specs.Prelude.{Result, Err}
use Rattle.std.proofs.lemmas.Result.{err_from_is_err_and}
use Rattle.numbers.specs.declared.refusal.Refusal.{Refusal}
use Rattle.cells.specs.Memory.{memory}
use Rattle.paths.specs.PathCall.{PathLeft, refused}
use Rattle.paths.specs.declared.path.Shortest.{Shortest}
use Rattle.paths.proofs.PathLaws.{accepted, lent_so, own_lent}
use Rattle.paths.proofs.path.shortest_path.Goals as goal

pub returns-in_err-check_asked : goal.returns-in_err-check_asked
returns-in_err-check_asked c =
    let a = c.args in
    let p = err_from_is_err_and c.from_residual.result c.from_residual.ensures.1 in
    λ js hs rs.
    subst (λ (r : Result Shortest Refusal). PathLeft (memory a.ynd a.nodes.now a.links.now js hs rs) a.from a.to
    a.scratch.now a.choices.now a.places.now r a.scratch.now a.choices.now a.places.now) (sym (p.1 ∙ ap Err p.2))
    (refused (sym c.check_asked.ensures ∙ c.in_err-check_asked.was))

pub slice_bounds-nodes-end : goal.slice_bounds-nodes-end
slice_bounds-nodes-end c =
    let a = c.args in
    let ok = accepted a.ynd (length a.nodes.now) (length a.links.now) a.from a.to (length a.scratch.now)
    (sym c.check_asked.ensures ∙ c.in_ok-check_asked.was) in
    sym (length-take-le a.ynd.node_count a.nodes.now ok.nodes_fit)

pub invariant_of-search : goal.invariant_of-search
invariant_of-search c =
    let a = c.args in
    let ok = accepted a.ynd (length a.nodes.now) (length a.links.now) a.from a.to (length a.scratch.now)
    (sym c.check_asked.ensures ∙ c.in_ok-check_asked.was) in
    record {
      lent = own_lent a.ynd a.nodes.now a.links.now
          (lent_so a.ynd a.nodes.now a.links.now a.from a.to
          (length a.scratch.now) ok c.short_counts.ensures c.short_links.ensures);
      whole = length-take-le a.ynd.node_count a.nodes.now ok.nodes_fit;
      inside = ok.from_in;
    }
