-- A cell in which links to another member are corrected: all else is as it was, and a sound cell stays sound.
use Prim.Native.Nat.{ℕ}
use native.Mathlib.Omega.{arith}
use mathlib.Core.Path.{◌≡◌, refl, ap, ◌∙◌}
use mathlib.Core.Bool.{true, false}
use mathlib.Core.List.{List, [], ◌∷◌, map}
use lib.Dec.{eqb}
use lib.ListN.{length, get_or, length-map, get_or-map}
use Rattle.cells.specs.Area.{belongs}
use Rattle.cells.specs.Cell.{Node, Cell, no_node, node_at, numbers, first_of}
use Rattle.cells.specs.Lookup.{junction_of}
use Rattle.cells.proofs.Sequences.Tests.{and_left, and_right, by_test, every_imp, every_map, map_at, map_option}
use Rattle.walks.specs.Sound.{link_named, ref_named, node_sound, sound}
use Rattle.walks.specs.Walk.{link_at, see}
use Rattle.walks.proofs.NewSound.{Sound, sound_parts, parts_sound, empty_sound}
use Rattle.sets.specs.Members.{area_of}
use Rattle.sets.specs.SetRenumber.{Change, corrected, correct_link, correct_node, correct_cell}
use Rattle.sets.proofs.MemberLaws.{member_own}
use Rattle.cells.specs.declared.link.PathLink.{PathLink}

module _ (x : Change) (i : ℕ) where
  pub numbers_same : (ns : List Node) → numbers (map (correct_node x i) ns) ≡ numbers ns
  numbers_same [] = refl
  numbers_same (n ∷ ns) = ap {B = List ℕ} (λ r. n.number ∷ r) (numbers_same ns)

  pub first_same : (ns : List Node) → first_of (map (correct_node x i) ns) ≡ first_of ns
  first_same [] = refl
  first_same (n ∷ ns) = refl

  pub node_same : (ns : List Node) (p : ℕ) → node_at (map (correct_node x i) ns) p ≡ correct_node x i (node_at ns p)
  unfolding no_node
  node_same ns p = get_or-map (correct_node x i) ns p no_node

  pub link_same : (ns : List Node) (p b : ℕ) → link_at (map (correct_node x i) ns) p b
      ≡ map_option (correct_link x i) (link_at ns p b)
  link_same ns p b = rw (node_same ns p, map_at)

  pub see_same : (c : Cell) (p : ℕ) → see (correct_cell x i c) p ≡ see c p
  unfolding see junction_of
  see_same c p = rw (node_same c.nodes p, length-map, first_same c.nodes)

  -- where the own rule claims no link that is corrected
  module _ (c : Cell) (own : get_or x.areas i 0 ≡ area_of c) (other : eqb i x.member ≡ false) where
    abbrev ns : List Node
    ns = c.nodes

    own_stays : (a k : ℕ) → belongs (first_of ns) a ≡ true → corrected x i a k ≡ k
    unfolding corrected
    own_stays a k b = rw (member_own x.areas i a (ap (λ (o : ℕ). belongs o a) own ∙ b), other)

    named_same : (l : PathLink) → link_named (map (correct_node x i) ns) (correct_link x i l) ≡ link_named ns l
    named_same l = rw (first_same ns, numbers_same ns) (by_test (belongs (first_of ns) l.area_id)
        (λ b. rw (own_stays l.area_id l.node_id b))
        (λ f. rw f))

    node_sound_law : (n : Node) → node_sound ns n ≡ true
        → node_sound (map (correct_node x i) ns) (correct_node x i n) ≡ true
    node_sound_law n h =
        cc (
          ap (eqb n.area) (first_same ns),
          and_left (eqb n.area (first_of ns)) _ h,
          every_map (link_named (map (correct_node x i) ns)) (correct_link x i) (link_named ns)
              (λ l t. named_same l ∙ t) n.links (and_right (eqb n.area (first_of ns)) _ h),
        )

    parts : Sound c → Sound (correct_cell x i c)
    parts s = record {
      some_node = rw length-map s.some_node;
      nodes_sound = every_map (node_sound (map (correct_node x i) ns)) (correct_node x i) (node_sound ns)
          node_sound_law ns s.nodes_sound;
      differ = rw (numbers_same ns) s.differ;
      refs_named = every_imp (ref_named ns) (ref_named (map (correct_node x i) ns))
          (λ r t. rw (first_same ns, numbers_same ns) t) c.refs s.refs_named;
    }

    pub correct_sound : sound c ≡ true → sound (correct_cell x i c) ≡ true
    correct_sound s = by_size ns refl
      where
        by_size : (l : List Node) → ns ≡ l → sound (correct_cell x i c) ≡ true
        by_size [] e = empty_sound (correct_cell x i c) (length-map ns (correct_node x i) ∙ ap length e)
        by_size (n ∷ l) e = parts_sound (correct_cell x i c) (parts (sound_parts c (rw e (omega arith)) s))
