-- The scratch as a definition, and as a map from numbers to first places.
use Rattle.std.proofs.Common.{◌≡◌, ℕ, ◌+◌, ◌<◌, ◌≤◌, List, length, get_or, drop, map, set, refl, sym, ap}
use Rattle.std.proofs.Common.{◌∙◌, arith}
use native.Mathlib.Numerals.{add-one}
use mathlib.Core.Logic.{⊎_elim}
use lib.Dec.{eqb}
use lib.Seq.{drop-cons, get_or-set_same, get_or-set_other}
use borrow.Author.Tests.{eqb-true, eqb-false}
use Rattle.std.proofs.lemmas.Bool.{cases_lt}
use lib.ListN.{drop_of_length-le}
use Rattle.cells.specs.Nodes.{number_of, number_at, no_entry}
use Rattle.cells.specs.declared.node_entry.NodeEntry.{NodeEntry}
use Rattle.cells.proofs.Sequences.Tests.{by_test}
use Rattle.indexed.specs.FirstPlaces.{FirstPlaces, led}
use Rattle.indexed.specs.WalkIndexed.{first_indexed}

-- the scratch after the nodes from place k on
abbrev pub from_place : List NodeEntry → ℕ → List ℕ → List ℕ
from_place nodes k s = first_indexed (map number_of (drop k nodes)) k s

pub first_start : (nodes : List NodeEntry) (s : List ℕ) → s ≡ from_place nodes (length nodes) s
unfolding first_indexed
first_start nodes s =
    let n = length nodes in
    ap (λ (l : List NodeEntry). first_indexed (map number_of l) n s) (sym (drop_of_length-le nodes {i = n}
    (omega arith)))

-- one node before them
pub first_turn : (nodes : List NodeEntry) (s now : List ℕ) (i x : ℕ) → i < length nodes
    → x ≡ number_of (get_or nodes i no_entry) → now ≡ from_place nodes (i + 1) s → set now x i ≡ from_place nodes i s
unfolding first_indexed
first_turn nodes s now i x lt named h = rw (drop-cons nodes i no_entry lt, named, h, add-one) refl

-- ---- where it leads

module _ (nodes : List NodeEntry) (s : List ℕ) (i n x : ℕ) (room : x < length s)
    (named : x ≡ number_of (get_or nodes i no_entry)) where
  led_here : (t : ℕ) → number_at nodes t ≡ x → led nodes (set s x i) t ≡ i
  led_here t e = ap (λ (k : ℕ). get_or (set s x i) k 0) e ∙ get_or-set_same s x i 0 room

  led_else : (t : ℕ) → (number_at nodes t ≡ x → ⊥) → led nodes (set s x i) t ≡ led nodes s t
  led_else t ne = get_or-set_other s x (number_at nodes t) i 0 ne

  -- a place behind it, where the number there is another one
  behind : (t : ℕ) → (number_at nodes t ≡ x → ⊥) → i ≤ t → i + 1 ≤ t
  behind t ne le = ⊎_elim (λ lt. omega arith)
      (λ ge. let same : t ≡ i = omega arith in absurd (ne (ap (number_at nodes) same ∙ sym named)))
      (cases_lt i t)

  pub places_next : FirstPlaces nodes (i + 1) n s → FirstPlaces nodes i n (set s x i)
  places_next h = record {
    has_it = λ t le lt. by_test (eqb (number_at nodes t) x)
        (λ y. let e = eqb-true (number_at nodes t) x y in
        ap (number_at nodes) (led_here t e) ∙ sym named ∙ sym e)
        (λ f. let ne = eqb-false (number_at nodes t) x f in
        ap (number_at nodes) (led_else t ne) ∙ h.has_it t (behind t ne le) lt);
    not_behind = λ t le lt. by_test (eqb (number_at nodes t) x)
        (λ y. omega (arith, led_here t (eqb-true (number_at nodes t) x y)))
        (λ f. let ne = eqb-false (number_at nodes t) x f in
        omega (arith, led_else t ne, h.not_behind t (behind t ne le) lt));
  }

-- for the function that makes the index
pub ruleset first_laws = (first_start, first_turn, places_next)
