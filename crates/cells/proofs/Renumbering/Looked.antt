-- A number looked up through the scratch and the new places.
-- Assumes nothing.
use Prim.Native.Nat.{ℕ, ◌<◌}
use native.Mathlib.Omega.{arith}
use mathlib.Core.Path.{◌≡◌, refl, ap, sym, ◌∙◌}
use mathlib.Core.Bool.{true, false}
use mathlib.Core.List.{List, map}
use mathlib.Core.Option.{Option, none, some}
use Rattle.std.specs.Prelude as Opt
use lib.ListN.{length, get_or, length-map}
use lib.Seq.{take-length}
use Rattle.cells.specs.Area.{belongs}
use Rattle.cells.specs.Order.{last_with, new_number, new_place, place_or, renamed}
use Rattle.cells.specs.Nodes.{number_of, is_ped, first_area, old_of}
use Rattle.cells.specs.RenumberParts.{Placed}
use Rattle.cells.specs.LookupCall.{place_of}
use Rattle.cells.proofs.Renumbering.Placed.{new_at}
use Rattle.cells.proofs.Renumbering.Parted.{places_length, places_at}
use Rattle.cells.proofs.Renumbering.Named.{last_below, placed_at}
use Rattle.cells.specs.declared.node_entry.NodeEntry.{NodeEntry}

module _ (nodes : List NodeEntry) (places : List ℕ) (r : Placed nodes places) where
  long : length (map is_ped nodes) ≡ length nodes
  long = length-map nodes is_ped

  place_at : (t : ℕ) → t < length nodes → get_or places t 0 ≡ new_place (map is_ped nodes) t
  place_at t lt = rw r.are (places_at (map is_ped nodes) t (omega (arith, long)))

  pub places_long : length places ≡ length nodes
  places_long = rw r.are (places_length (map is_ped nodes) ∙ long)

  module _ (k t : ℕ) (e : place_of (last_with (map number_of nodes) k) ≡ Opt.Some t) where
    pub last_inside : t < length nodes
    last_inside = omega (arith, last_below (map number_of nodes) k t e, length-map nodes number_of)

    pub place_below : get_or places t 0 < length nodes
    place_below = omega (arith, place_at t last_inside, (new_at nodes t last_inside).0)

    pub looked_up : get_or places t 0 ≡ new_number (old_of (length nodes) nodes) k
    unfolding new_number old_of
    looked_up =
        place_at t last_inside
        ∙ rw (take-length nodes) (sym (ap (λ (o : Option ℕ). place_or (map is_ped nodes) o k)
        (placed_at (last_with (map number_of nodes) k) t e)))

  pub left_alone : (k : ℕ) → place_of (last_with (map number_of nodes) k) ≡ Opt.None → k
      ≡ new_number (old_of (length nodes) nodes) k
  unfolding new_number old_of
  left_alone k e =
      rw (take-length nodes) (sym (ap (λ (o : Option ℕ). place_or (map is_ped nodes) o k)
      (none_at (last_with (map number_of nodes) k) e)))
    where
      none_at : (o : Option ℕ) → place_of o ≡ Opt.None → o ≡ none
      none_at (some i) h = cc
      none_at none h = refl

-- a link or a ref, by whether it belongs to the cell
pub relinked_own : (nodes : List NodeEntry) (own x k : ℕ) → own ≡ first_area nodes → belongs own x ≡ true
    → renamed (old_of (length nodes) nodes) x k ≡ new_number (old_of (length nodes) nodes) k
unfolding renamed old_of
relinked_own nodes own x k e t = rw (take-length nodes, ← e, t)

pub relinked_other : (nodes : List NodeEntry) (own x k : ℕ) → own ≡ first_area nodes → belongs own x ≡ false
    → renamed (old_of (length nodes) nodes) x k ≡ k
unfolding renamed old_of
relinked_other nodes own x k e t = rw (take-length nodes, ← e, t)
