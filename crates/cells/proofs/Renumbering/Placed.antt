-- The new places of nodes, by their words, and a loop that fills them in.
-- Assumes nothing.
use Prim.Native.Nat.{ℕ, ◌+◌, ◌-◌, ◌≤◌, ◌<◌}
use native.Mathlib.Omega.{arith}
use mathlib.Core.Path.{◌≡◌, refl, ap, sym, ◌∙◌}
use mathlib.Core.Bool.{true, false, not, cond}
use mathlib.Core.List.{List, ◌++◌, map}
use lib.ListN.{length, get_or, set, take, drop, length-map}
use lib.Seq.{length-take-le}
use Rattle.std.proofs.lemmas.List.{get_or_default}
use Rattle.cells.specs.Order.{keep, rank, parted, new_place, new_places}
use Rattle.cells.specs.Nodes.{no_entry, is_ped, is_vehicle}
use Rattle.cells.specs.Renumber.{vehicles, peds}
use Rattle.cells.proofs.Sequences.Filled.{fill_turn, fill_all}
use Rattle.cells.proofs.Sequences.Tests.{keep_lengths}
use Rattle.cells.proofs.Sequences.Ranks.{rank_zero, rank_yes, rank_no}
use Rattle.cells.proofs.Renumbering.Parted.{places_length, places_at}
use Rattle.cells.proofs.Renumbering.Parted as any
use Rattle.cells.specs.declared.node_entry.NodeEntry.{NodeEntry}

-- zeros are no ped node's
pub none_ped : is_ped no_entry ≡ false
unfolding is_ped
none_ped = refl

new_place_law : (ns : List NodeEntry) (p : ℕ)
    → new_place (map is_ped ns) p ≡ cond (is_ped (get_or ns p no_entry)) (length
    (keep is_vehicle ns) + rank is_ped ns p)
    (rank is_vehicle ns p)
new_place_law ns p = any.new_place_law is_ped no_entry none_ped ns p

pub new_at : (ns : List NodeEntry) (p : ℕ) → p < length ns → (new_place (map is_ped ns) p < length ns)
    × (get_or (parted is_ped ns) (new_place (map is_ped ns) p) no_entry ≡ get_or ns p no_entry)
new_at ns p lt = any.new_at is_ped no_entry none_ped ns p lt

pub new_apart : (ns : List NodeEntry) (p q : ℕ) → p < length ns → q < length ns → new_place (map is_ped ns) p
    ≡ new_place (map is_ped ns) q → p ≡ q
new_apart ns p q hp hq same = any.new_apart is_ped no_entry none_ped ns p q hp hq same

-- what every turn of filling them keeps
pub record Placing (ns : List NodeEntry) (places₀ places : List ℕ) (i v p : ℕ) : Type 0 where
  pub v_is : v ≡ rank is_vehicle ns i
  pub p_is : p ≡ length (keep is_vehicle ns) + rank is_ped ns i
  pub filled : places ≡ take i (new_places (map is_ped ns)) ++ drop i places₀

pub placing_starts : (ns : List NodeEntry) (places : List ℕ) (p : ℕ) → p ≡ length (keep is_vehicle ns)
    → Placing ns places places 0 0 p
placing_starts ns places p e = record
    { v_is = sym (rank_zero is_vehicle ns); p_is = omega (arith, rank_zero is_ped ns); filled = refl }

module _ (ns : List NodeEntry) (places₀ places : List ℕ) (i v p : ℕ) (z : NodeEntry) (hi : i < length ns)
    (hp : i < length places₀) (g : Placing ns places₀ places i v p) where
  stored : (x : ℕ) → new_place (map is_ped ns) i ≡ x → set places i x ≡ take (i + 1) (new_places (map is_ped ns))
      ++ drop (i + 1) places₀
  stored x e =
      let flags : length (map is_ped ns) ≡ length ns = length-map ns is_ped in
      rw g.filled
      (fill_turn places₀ (new_places (map is_ped ns)) i 0 x hp (omega (arith, places_length (map is_ped ns), flags))
      (places_at (map is_ped ns) i (omega (arith, flags)) ∙ e))

  here : get_or ns i no_entry ≡ get_or ns i z
  here = get_or_default ns i no_entry z hi

  pub turn_ped : is_ped (get_or ns i z) ≡ true → Placing ns places₀ (set places i p) (i + 1) v (p + 1)
  turn_ped t = record {
    v_is = g.v_is ∙ sym (rank_no is_vehicle ns i z hi (ap not t));
    p_is = omega (arith, g.p_is, rank_yes is_ped ns i z hi t);
    filled = stored p (new_place_law ns i ∙ rw (here, t) (sym g.p_is));
  }

  pub turn_vehicle : is_ped (get_or ns i z) ≡ false → Placing ns places₀ (set places i v) (i + 1) (v + 1) p
  turn_vehicle t = record {
    v_is = omega (arith, g.v_is, rank_yes is_vehicle ns i z hi (ap not t));
    p_is = g.p_is ∙ ap (λ (x : ℕ). length (keep is_vehicle ns) + x) (sym (rank_no is_ped ns i z hi t));
    filled = stored v (new_place_law ns i ∙ rw (here, t) (sym g.v_is));
  }

pub placed : {ns : List NodeEntry} {places₀ places places' : List ℕ} {i v v' p p' : ℕ} → places' ≡ places → v' ≡ v
    → p' ≡ p → Placing ns places₀ places i v p → Placing ns places₀ places' i v' p'
placed a b c g = rw (a, b, c) g

-- all filled in
pub all_placed : (ns : List NodeEntry) (places₀ places : List ℕ) (i v p : ℕ) → i ≡ length ns → length places₀
    ≡ length ns → Placing ns places₀ places i v p
    → places ≡ new_places (map is_ped ns)
all_placed ns places₀ places i v p e h g =
    g.filled ∙ fill_all places₀ (new_places (map is_ped ns)) i
    (places_length (map is_ped ns) ∙ length-map ns is_ped ∙ sym h) (e ∙ sym h)

-- those that are no ped nodes are no more than all
pub vehicles_all : (nodes : List NodeEntry) → length (keep is_vehicle nodes) ≤ length nodes
vehicles_all nodes = omega (arith, keep_lengths is_ped is_vehicle (λ x. refl) nodes)

-- the ped nodes are the others
pub peds_are : (n : ℕ) (nodes : List NodeEntry) → n ≤ length nodes → n - vehicles n nodes ≡ peds n nodes
unfolding vehicles peds
peds_are n nodes h = omega (arith, keep_lengths is_ped is_vehicle (λ x. refl) (take n nodes), length-take-le n nodes h)
