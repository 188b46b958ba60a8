-- Nodes moved by their new places, then numbered, are the nodes in their new order.
-- Assumes nothing.
use Prim.Native.Nat.{ℕ, zero, suc, ◌+◌, ◌<◌}
use native.Mathlib.Omega.{arith}
use native.Mathlib.Nat.{suc-add, add-suc, add-zero, zero-add}
use mathlib.Core.Path.{◌≡◌, refl, sym, ap, ◌∙◌}
use mathlib.Core.List.{List, [], ◌∷◌, ◌++◌, map}
use lib.ListN.{length, get_or, set, take, drop, length-map}
use Rattle.cells.specs.Order.{parted, new_place, new_places}
use Rattle.cells.specs.Nodes.{no_entry, is_ped, numbered, number_from}
use Rattle.cells.specs.Moves.{Places}
use Rattle.cells.proofs.Renumbering.Parted.{places_length, places_at}
use Rattle.cells.proofs.Renumbering.Placed.{new_at, new_apart}
use Rattle.cells.proofs.Sequences.Filled.{fill_turn, fill_ahead}
use Rattle.cells.proofs.Sequences.Moved.{Leads}
use Rattle.cells.specs.declared.node_entry.NodeEntry.{NodeEntry}

-- the new places are places, and lead to the new order
module _ (nodes : List NodeEntry) where
  flags : length (map is_ped nodes) ≡ length nodes
  flags = length-map nodes is_ped

  pub place_at : (k : ℕ) → k < length nodes → get_or (new_places (map is_ped nodes)) k 0
      ≡ new_place (map is_ped nodes) k
  place_at k lt = places_at (map is_ped nodes) k (omega (arith, flags))

  pub places_many : length (new_places (map is_ped nodes)) ≡ length nodes
  places_many = places_length (map is_ped nodes) ∙ flags

  pub are_places : Places (length nodes) (new_places (map is_ped nodes))
  are_places = record {
    within = λ i lt. omega (arith, place_at i lt, (new_at nodes i lt).0);
    apart = λ i j hi hj d. new_apart nodes i j hi hj (sym (place_at i hi) ∙ d ∙ place_at j hj);
  }

  pub they_lead : Leads no_entry (length nodes) (parted is_ped nodes) (new_places (map is_ped nodes)) nodes
  they_lead k lt = rw (place_at k lt) (new_at nodes k lt).1

-- each with its number
pub number_at : (k : ℕ) (ws : List NodeEntry) (i : ℕ) (z : NodeEntry) → i < length ws → get_or (number_from k ws) i z
    ≡ numbered (k + i) (get_or ws i z)
unfolding number_from
number_at k [] i z lt = absurd (omega arith)
number_at k (w ∷ ws) zero z lt = rw add-zero
number_at k (w ∷ ws) (suc i) z lt = number_at (suc k) ws i z (omega arith) ∙ rw (suc-add, add-suc)

pub number_length : (k : ℕ) (ws : List NodeEntry) → length (number_from k ws) ≡ length ws
unfolding number_from
number_length k [] = refl
number_length k (w ∷ ws) = ap suc (number_length (suc k) ws)

-- one number more, in a loop that stores them from the front
pub number_turn : (ws : List NodeEntry) (i : ℕ) (w z : NodeEntry) → i < length ws → w
    ≡ numbered i (get_or (take i (number_from 0 ws) ++ drop i ws) i z)
    → set (take i (number_from 0 ws) ++ drop i ws) i w ≡ take (i + 1) (number_from 0 ws) ++ drop (i + 1) ws
number_turn ws i w z h e =
    let D = number_from 0 ws in
    let long : length D ≡ length ws = number_length 0 ws in
    let is : get_or D i z ≡ w = number_at 0 ws i z h
    ∙ rw zero-add (ap (numbered i) (sym (fill_ahead ws D i z h (omega arith)))) ∙ sym e in
    fill_turn ws D i z w h (omega arith) is
