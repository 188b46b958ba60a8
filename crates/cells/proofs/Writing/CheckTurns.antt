-- One turn of a check, and what an accepted check says of each entry.
use Rattle.std.proofs.lemmas.Bool.{or_parts}
use Prim.Native.Nat.{ℕ, zero, suc, ◌+◌, ◌≤◌, ◌<◌}
use native.Mathlib.Omega.{arith}
use mathlib.Core.Path.{◌≡◌, refl, sym, ap, ◌∙◌}
use mathlib.Core.Bool.{Bool, true, false}
use mathlib.Core.List.{List, [], ◌∷◌}
use lib.Dec.{ltb}
use lib.ListN.{length, get_or, drop, drop_of_length-le}
use borrow.Author.Tests.{lt-ltb, le-ltb, ltb-false}
use Rattle.records.proofs.Puts.{split}
use Rattle.cells.specs.Entries.{stored_start}
use Rattle.cells.specs.Nodes.{value_count}
use Rattle.cells.specs.WriteChecks.{values_within, maps_cut, unless, accepted, start_over, check_nodes}
use Rattle.cells.specs.WriteChecks.{check_junctions}
use Rattle.std.specs.Prelude.{Result, Ok, Err}
use Rattle.numbers.specs.declared.refusal.Refusal.{Refusal}
use Rattle.numbers.specs.declared.refusal.Refusal.TheVariants.{TooManyLinks, LinksStartTooHigh, ValuesStartTooHigh}
use Rattle.cells.specs.declared.junction_entry.JunctionEntry.{JunctionEntry}

unless_accepted : (b : Bool) (cause : Refusal) (next : Result ℕ Refusal) → accepted (unless b (Err cause) next)
    ≡ true → (b ≡ false) × (accepted next ≡ true)
unless_accepted true cause next e = cc
unless_accepted false cause next e = (refl, e)

module _ {A : Type 0} (count : A → ℕ) (ns : List A) (place before i : ℕ) where
  pub nodes_end : length ns ≤ i → check_nodes count place before (drop i ns) ≡ Ok before
  unfolding check_nodes
  nodes_end h = ap (check_nodes count place before) (drop_of_length-le ns h)

  pub junctions_end : length ns ≤ i → check_junctions count place before (drop i ns) ≡ Ok before
  unfolding check_junctions
  junctions_end h = ap (check_junctions count place before) (drop_of_length-le ns h)

module _ {A : Type 0} (z : A) (count : A → ℕ) (ns : List A) (place before i : ℕ) (h : i < length ns) where
  nodes_open : check_nodes count place before (drop i ns)
      ≡ unless (ltb 31 (count (get_or ns i z))) (Err (TooManyLinks place))
      (unless (start_over before (count (get_or ns i z))) (Err (LinksStartTooHigh place))
      (check_nodes count (place + 1) (before + count (get_or ns i z)) (drop (i + 1) ns)))
  unfolding check_nodes
  nodes_open = ap (check_nodes count place before) (split ns i z h)

  pub nodes_8 : 31 < count (get_or ns i z) → check_nodes count place before (drop i ns) ≡ Err (TooManyLinks place)
  nodes_8 t = nodes_open ∙ rw (lt-ltb 31 (count (get_or ns i z)) t)

  pub nodes_9 : count (get_or ns i z) ≤ 31 → 65535 < stored_start before (count (get_or ns i z))
      → check_nodes count place before (drop i ns) ≡ Err (LinksStartTooHigh place)
  nodes_9 t u = nodes_open ∙ rw (
    le-ltb 31 (count (get_or ns i z)) t,
    lt-ltb 65535
        (stored_start before (count (get_or ns i z))) u,
  )

  pub nodes_next : count (get_or ns i z) ≤ 31 → stored_start before (count (get_or ns i z)) ≤ 65535
      → check_nodes count place before (drop i ns)
      ≡ check_nodes count (place + 1) (before + count (get_or ns i z)) (drop (i + 1) ns)
  nodes_next t u = nodes_open ∙ rw (
    le-ltb 31 (count (get_or ns i z)) t,
    le-ltb 65535
        (stored_start before (count (get_or ns i z))) u,
  )

  junctions_open : check_junctions count place before (drop i ns)
      ≡ unless (ltb 65535 before) (Err (ValuesStartTooHigh place))
      (check_junctions count (place + 1) (before + count (get_or ns i z)) (drop (i + 1) ns))
  unfolding check_junctions
  junctions_open = ap (check_junctions count place before) (split ns i z h)

  pub junctions_10 : 65535 < before → check_junctions count place before (drop i ns) ≡ Err (ValuesStartTooHigh place)
  junctions_10 u = junctions_open ∙ rw (lt-ltb 65535 before u)

  pub junctions_next : before ≤ 65535 → check_junctions count place before (drop i ns)
      ≡ check_junctions count (place + 1) (before + count (get_or ns i z)) (drop (i + 1) ns)
  junctions_next u = junctions_open ∙ rw (le-ltb 65535 before u)

  -- what was accepted from here on: this node is no cause, and the rest is accepted
  pub nodes_inside : accepted (check_nodes count place before (drop i ns)) ≡ true
      → (accepted (check_nodes count place before (drop i ns))
      ≡ accepted (check_nodes count (place + 1) (before + count (get_or ns i z)) (drop (i + 1) ns)))
      × (count (get_or ns i z) ≤ 31) × (stored_start before (count (get_or ns i z)) ≤ 65535)
  nodes_inside e =
      let rest = check_nodes count (place + 1) (before + count (get_or ns i z)) (drop (i + 1) ns) in
      let a = unless_accepted (ltb 31 (count (get_or ns i z))) (TooManyLinks place)
      (unless (start_over before (count (get_or ns i z))) (Err (LinksStartTooHigh place)) rest)
      (ap accepted (sym nodes_open) ∙ e) in
      let b = unless_accepted (start_over before (count (get_or ns i z))) (LinksStartTooHigh place) rest a.1 in
      (e ∙ sym b.1, ltb-false _ _ a.0, ltb-false _ _ b.0)

  pub junctions_inside : accepted (check_junctions count place before (drop i ns)) ≡ true
      → (accepted (check_junctions count place before (drop i ns))
      ≡ accepted (check_junctions count (place + 1) (before + count (get_or ns i z)) (drop (i + 1) ns)))
      × (before ≤ 65535)
  junctions_inside e =
      let rest = check_junctions count (place + 1) (before + count (get_or ns i z)) (drop (i + 1) ns) in
      let b = unless_accepted (ltb 65535 before) (ValuesStartTooHigh place) rest
      (ap accepted (sym junctions_open) ∙ e) in
      (e ∙ sym b.1, ltb-false _ _ b.0)

-- ---- 12: heightmaps that are cut

-- none is cut: each junction has all its values
pub maps_at : (pool : ℕ) (js : List JunctionEntry) (i : ℕ) (z : JunctionEntry) → maps_cut pool js ≡ false
    → i < length js
    → value_count (get_or js i z) ≤ values_within pool (get_or js i z)
unfolding maps_cut
maps_at pool [] i z e lt = absurd (omega arith)
maps_at pool (j ∷ js) zero z e lt =
    ltb-false (values_within pool j) (value_count j)
    (or_parts (ltb (values_within pool j) (value_count j)) (maps_cut pool js) e).0
maps_at pool (j ∷ js) (suc i) z e lt = maps_at pool js i z
    (or_parts (ltb (values_within pool j) (value_count j)) (maps_cut pool js) e).1 (omega arith)
