use Rattle.std.proofs.Common.{◌∙◌, ◌≡◌, refl, Bool, ltb, List, ℕ, ◌||◌, rules, tests}
use Rattle.std.specs.List.{list_any}
use Rattle.std.proofs.lemmas.Iterator.{YieldsList-from_slice}
use Rattle.std.proofs.lemmas.Iterator.Search.{any_from_yields_List}
use Rattle.std.proofs.lemmas.List.Recursion.{same_from_clauses}
use Rattle.cells.specs.Nodes.{value_count}
use Rattle.cells.specs.WriteChecks.{values_within, maps_cut}
use Rattle.cells.proofs.write_checks.maps_cut.Goals as goal
use Rattle.cells.specs.declared.junction_entry.JunctionEntry.{JunctionEntry}

-- whether the code stops at a junction
abbrev cut : ℕ → JunctionEntry → Bool
cut pool j = ltb (values_within pool j) (value_count j)

as_any : (pool : ℕ) (js : List JunctionEntry) → list_any (cut pool) js ≡ maps_cut pool js
unfolding maps_cut
as_any pool js = same_from_clauses (list_any (cut pool)) (maps_cut pool) (λ j b. cut pool j || b) refl (λ _ _. refl)
    (λ _ _. refl) js

pub returns : goal.returns
returns c =
    any_from_yields_List (cut c.args.pool) _ _ c.any.result c.any.ensures.ran
    (YieldsList-from_slice c.args.junctions.now cc) (λ x b q k. search (rules, tests))
    ∙ as_any c.args.pool c.args.junctions.now
