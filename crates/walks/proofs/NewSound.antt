-- A renumbered cell of a sound one is sound.
use Prim.Native.Nat.{ℕ, suc, ◌<◌}
use native.Mathlib.Omega.{arith}
use mathlib.Core.Path.{◌≡◌, refl, ap, sym, ◌∙◌}
use mathlib.Core.Bool.{Bool, true, false, ◌&&◌, ◌||◌, cond}
use mathlib.Core.List.{List, [], ◌∷◌}
use mathlib.Core.Option.{none}
use lib.Dec.{eqb}
use lib.ListN.{length, length-map}
use borrow.Author.Tests.{eqb-true, eq-eqb, ne_eqb}
use Rattle.cells.specs.Cell.{Node, Cell, node_at, no_node, is_ped_node, numbers, ped_flags, first_of}
use Rattle.cells.specs.Cell.{is_vehicle_node, ordered, renode, number_nodes, renumber_cell}
use Rattle.cells.specs.Nodes.{relinked}
use Rattle.cells.specs.Nodes.{rereffed}
use Rattle.cells.specs.Cell.{old_nodes}
use Rattle.cells.specs.Area.{belongs}
use Rattle.cells.specs.Order.{keep, new_place, new_number, Old, parted, renamed}
use Rattle.cells.specs.Lookup.{first_with}
use Rattle.walks.specs.Sound.{differing, named, link_named, ref_named, node_sound, is_empty, sound}
use Rattle.cells.specs.Lists.{every}
use Rattle.cells.proofs.Sequences.Tests.{and_left, and_right, by_test, every_at, every_keep, every_append, every_map}
use Rattle.walks.proofs.Numbers.{Has, new_is, named_has, first_is}
use Rattle.cells.proofs.Renumbering.NewCell.{ordered_length, number_is, new_at, new_length, new_number_law}
use Rattle.cells.proofs.Renumbering.NewCell.{every_number}

-- ---- soundness

-- the parts of soundness, of a cell with a node
pub record Sound (c : Cell) : Type 0 where
  pub some_node : 0 < length c.nodes
  pub nodes_sound : every (node_sound c.nodes) c.nodes ≡ true
  pub differ : differing (numbers c.nodes) ≡ true
  pub refs_named : every (ref_named c.nodes) c.refs ≡ true

pub sound_parts : (c : Cell) → 0 < length c.nodes → sound c ≡ true → Sound c
unfolding sound
sound_parts c lt s = parts (go c.nodes _ lt s)
  where
    rest : Bool
    rest = every (node_sound c.nodes) c.nodes && differing (numbers c.nodes) && every (ref_named c.nodes) c.refs

    go : (ns : List Node) (b : Bool) → 0 < length ns → is_empty ns || b ≡ true → b ≡ true
    go [] b lt s = absurd (omega arith)
    go (n ∷ ns) b lt s = s

    parts : rest ≡ true → Sound c
    parts s = record {
      some_node = lt;
      nodes_sound = and_left _ _ (and_left _ _ s);
      differ = and_right (every (node_sound c.nodes) c.nodes) _ (and_left _ _ s);
      refs_named = and_right (every (node_sound c.nodes) c.nodes && differing (numbers c.nodes)) _ s;
    }

-- a link or ref of the cell's own area, which some node's number has
own_named : (ns : List Node) (a k : ℕ) → named ns a k ≡ true → belongs (first_of ns) a ≡ true → (p : ℕ)
    × Has (numbers ns) k p
own_named ns a k t b = named_has (numbers ns) k (cc)

module _ (c : Cell) (s : Sound c) where
  pub node_area : (p : ℕ) → p < length c.nodes → (node_at c.nodes p).area ≡ first_of c.nodes
  node_area p lt = eqb-true _ _ (and_left _ _ (every_at (node_sound c.nodes) c.nodes p no_node s.nodes_sound lt))

  ordered_sound : every (node_sound c.nodes) (ordered c.nodes) ≡ true
  unfolding parted
  ordered_sound = every_append _ (keep is_vehicle_node c.nodes) (keep is_ped_node c.nodes)
      (every_keep _ is_vehicle_node c.nodes s.nodes_sound) (every_keep _ is_ped_node c.nodes s.nodes_sound)

  pub new_area : first_of (renumber_cell c).nodes ≡ first_of c.nodes
  unfolding renumber_cell number_nodes every
  new_area = go (ordered c.nodes) (omega (arith, ordered_length c.nodes, s.some_node)) ordered_sound
    where
      go : (ns : List Node) → 0 < length ns → every (node_sound c.nodes) ns ≡ true
          → first_of (number_nodes (old_nodes c.nodes) 0 ns) ≡ first_of c.nodes
      go [] lt h = absurd (omega arith)
      go (n ∷ ns) lt h = eqb-true _ _ (and_left _ _ (and_left _ _ h))

  new_has : (q : ℕ) → q < length c.nodes → Has (numbers (renumber_cell c).nodes) q q
  new_has q lt = record {
    inside = rw length-map (omega (arith, new_length c));
    number = number_is
        (renumber_cell c).nodes q ∙ new_number_law c q lt;
  }

  -- what the cell's own link or ref named, and what it names now
  pub new_own : (a k : ℕ) → named c.nodes a k ≡ true → belongs (first_of c.nodes) a ≡ true
      → (p : ℕ) × Has (numbers c.nodes) k p × (new_number (old_nodes c.nodes) k ≡ new_place (ped_flags c.nodes) p)
  new_own a k t b =
      let h = own_named c.nodes a k t b in
      (h.0, h.1, new_is (old_nodes c.nodes) k h.0 s.differ h.1)

number_above : (all : Old) (ns : List Node) (j k : ℕ) → j < k → first_with (numbers (number_nodes all k ns)) j ≡ none
unfolding number_nodes first_with
number_above all [] j k lt = refl
number_above all (n ∷ ns) j k lt =
    simp (ne_eqb k j (λ e. omega arith), number_above all ns j (suc k) (omega arith))

number_differ : (all : Old) (ns : List Node) (k : ℕ) → differing (numbers (number_nodes all k ns)) ≡ true
unfolding number_nodes differing
number_differ all [] k = refl
number_differ all (n ∷ ns) k = simp (number_above all ns k (suc k) (omega arith), number_differ all ns (suc k))

pub new_differ : (c : Cell) → differing (numbers (renumber_cell c).nodes) ≡ true
unfolding renumber_cell
new_differ c = number_differ _ _ _

module _ (c : Cell) (s : Sound c) where
  new_named : (a k : ℕ) → named c.nodes a k ≡ true
      → named (renumber_cell c).nodes a (cond (belongs (first_of c.nodes) a) (new_number (old_nodes c.nodes) k) k)
      ≡ true
  new_named a k t = rw (new_area c s) (by_test (belongs (first_of c.nodes) a)
      (λ b.
      let o = new_own c s a k t b in
      let q = new_place (ped_flags c.nodes) o.0 in
      let lt : q < length c.nodes = (new_at c.nodes o.0 (rw length-map at o.1.inside)).0 in
      rw (b, o.2) (simp (first_is (numbers (renumber_cell c).nodes) q q (new_differ c) (new_has c s q lt))))
      (λ f. rw f refl))

  new_node_sound : (k : ℕ) (n : Node) → node_sound c.nodes n ≡ true
      → node_sound (renumber_cell c).nodes (renode (old_nodes c.nodes) k n) ≡ true
  unfolding renamed
  new_node_sound k n h =
      cc (
        eq-eqb n.area (first_of (renumber_cell c).nodes) (eqb-true _ _ (and_left _ _ h) ∙ sym (new_area c s)),
        every_map (link_named (renumber_cell c).nodes) (relinked (old_nodes c.nodes)) (link_named c.nodes)
            (λ l t. new_named l.area_id l.node_id t) n.links
            (and_right (eqb n.area (first_of c.nodes)) _ h),
      )

  -- the renumbered cell is sound
  pub new_sound : Sound (renumber_cell c)
  unfolding renumber_cell renamed
  new_sound = record {
    some_node = omega (arith, new_length c, s.some_node);
    nodes_sound = every_number (old_nodes c.nodes) _ (node_sound c.nodes) new_node_sound 0 (ordered c.nodes)
        (ordered_sound c s);
    differ = new_differ c;
    refs_named = every_map (ref_named (renumber_cell c).nodes) (rereffed (old_nodes c.nodes)) (ref_named c.nodes)
        (λ r t. new_named r.area_id r.node_id t) c.refs s.refs_named;
  }

-- ---- the test

pub parts_sound : (c : Cell) → Sound c → sound c ≡ true
unfolding sound
parts_sound c s = go (is_empty c.nodes)
  where
    go : (b : Bool) → b || (every (node_sound c.nodes) c.nodes && differing (numbers c.nodes)
        && every (ref_named c.nodes) c.refs) ≡ true
    go true = refl
    go false = cc (s.nodes_sound, s.differ, s.refs_named)

pub empty_sound : (c : Cell) → length c.nodes ≡ 0 → sound c ≡ true
unfolding sound
empty_sound c e = go c.nodes _ e
  where
    go : (ns : List Node) (b : Bool) → length ns ≡ 0 → is_empty ns || b ≡ true
    go [] b e = refl
    go (n ∷ ns) b e = absurd (omega arith)

-- renumbering keeps a sound cell sound
pub sound_new : (c : Cell) → sound c ≡ true → sound (renumber_cell c) ≡ true
sound_new c s = by_size c.nodes refl
  where
    by_size : (ns : List Node) → c.nodes ≡ ns → sound (renumber_cell c) ≡ true
    by_size [] e = empty_sound (renumber_cell c) (new_length c ∙ ap length e)
    by_size (n ∷ ns) e = parts_sound (renumber_cell c) (new_sound c (sound_parts c (rw e (omega arith)) s))
