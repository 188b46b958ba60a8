-- The scratch as a map from numbers to first places.
use Rattle.std.proofs.Common.{◌≡◌, ℕ, ◌<◌, ◌≤◌, Bool, true, false, List, length, get_or, sym, ap, ◌∙◌, arith}
use lib.Dec.{ltb}
use borrow.Author.Tests.{le-ltb, lt-ltb, ltb-true, eqb-true, eq-eqb}
use Rattle.std.proofs.lemmas.Bool.{cases_lt}
use mathlib.Core.Logic.{⊎_elim}
use Rattle.std.specs.Prelude.{Option, Some, None, Ok}
use Rattle.cells.specs.Memory.{over_limit, nodes_causes}
use Rattle.cells.specs.declared.ynd.Ynd.{Ynd}
use Rattle.cells.specs.LookupCall.{first_in, find_in, node_call}
use Rattle.cells.proofs.Sequences.Tests.{and_left, and_right, true_false}
use Rattle.cells.proofs.Lookups.LookupLaws.{first_at, first_no, find_at, find_other, find_past}
use Rattle.indexed.specs.FirstPlaces.{FirstPlaces, has_number}
use Rattle.cells.specs.Nodes.{number_at}
use Rattle.cells.specs.declared.node_entry.NodeEntry.{NodeEntry}
use Rattle.cells.specs.Nodes.{no_entry}

module _ (y : Ynd) (within : over_limit y ≡ false) (nodes : List NodeEntry) (fits : y.node_count ≤ length nodes)
    (s : List ℕ) (h : FirstPlaces nodes 0 y.node_count s) (k : ℕ) where
  abbrev n : ℕ
  n = y.node_count

  abbrev has : ℕ → Bool
  has p = has_number nodes n p k

  in_call : (r : Option ℕ) → r ≡ find_in n nodes k → Ok r ≡ node_call y nodes k
  unfolding node_call nodes_causes
  in_call r e = rw (within, le-ltb _ _ fits, e)

  inside : (p : ℕ) → has p ≡ true → p < n
  inside p t = ltb-true _ _ (and_left _ _ t)

  number : (p : ℕ) → has p ≡ true → number_at nodes p ≡ k
  number p t = eqb-true _ _ (and_right (ltb p n) _ t)

  other : (p : ℕ) → has p ≡ false → p < n → number_at nodes p ≡ k → ⊥
  other p f lt e = let t : has p ≡ true = rw (lt-ltb p n lt, eq-eqb _ _ e) in true_false (sym t ∙ f)

  -- the first, where the node at the place equal to the number has another one
  first_counts : has k ≡ false → first_in n nodes k ≡ find_in n nodes k
  first_counts f = ⊎_elim
      (λ lt. find_other nodes n k no_entry fits lt (other k f lt))
      (λ le. find_past nodes n k no_entry fits le)
      (cases_lt k n)

  pub own_found : has k ≡ true → Ok (Some k) ≡ node_call y nodes k
  own_found t = in_call (Some k) (find_at nodes n k no_entry fits (inside k t) (number k t))

  pub first_found : has k ≡ false → (p : ℕ) → p ≡ get_or s k 0 → has p ≡ true → Ok (Some p) ≡ node_call y nodes k
  first_found f p is t = in_call (Some p)
      (first_at nodes n k no_entry fits p (inside p t) (number p t)
      (λ j lj q.
      let before : j < n = omega (arith, inside p t) in
      omega (arith, is, ap (λ (x : ℕ). get_or s x 0) q, h.not_behind j (omega arith) before))
      ∙ first_counts f)

  pub none_found : has k ≡ false → (p : ℕ) → p ≡ get_or s k 0 → has p ≡ false → Ok None ≡ node_call y nodes k
  none_found f p is g = in_call None
      (first_no nodes n k no_entry fits
      (λ j lj q.
      let e : get_or s (number_at nodes j) 0 ≡ p = ap (λ (x : ℕ). get_or s x 0) q ∙ sym is in
      other p g (omega (arith, e, h.not_behind j (omega arith) lj))
      (ap (number_at nodes) (sym e) ∙ h.has_it j (omega arith) lj ∙ q))
      ∙ first_counts f)

-- for the function that looks a number up
pub ruleset found_laws = (own_found, first_found, none_found)
