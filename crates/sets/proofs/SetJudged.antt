-- A set is sound where each member is and the links that name it name nodes of it, member by member.
use Prim.Native.Nat.{ℕ, zero, suc, ◌<◌}
use native.Mathlib.Omega.{arith}
use native.Mathlib.Nat.{zero-add}
use mathlib.Core.Path.{◌≡◌, refl, ap, sym, ◌∙◌}
use mathlib.Core.Bool.{Bool, true, not, ◌||◌}
use mathlib.Core.List.{List}
use mathlib.Core.Option.{Option, none, some}
use lib.Dec.{eqb, ltb}
use lib.ListN.{length, get_or, length-map}
use borrow.Author.Tests.{eqb-true, eq-eqb, ltb-true, ltb-false}
use Rattle.cells.specs.Lists.{every}
use Rattle.cells.specs.Cell.{Cell, no_node, numbers}
use Rattle.cells.specs.Lookup.{first_with, is_some}
use Rattle.cells.proofs.Sequences.Tests.{and_left, and_right, by_test, true_false, every_at, every_imp}
use Rattle.walks.specs.Sound.{sound}
use Rattle.sets.specs.Members.{no_cell, cell_at, areas, member_for, every_from}
use Rattle.sets.specs.SetRenumber.{is_member}
use Rattle.sets.specs.SetSound.{has_node, link_arrives, node_arrives, member_arrives, set_sound}
use Rattle.sets.specs.SetSoundParts.{all_below, link_meets, node_meets, member_meets, judged_at}
use Rattle.sets.proofs.SetLists.{every_all, from_at, from_all}
use Rattle.sets.proofs.MemberLaws.{member_inside}
use Rattle.sets.proofs.ArrivalLaws.{below_yes}
use Rattle.cells.specs.declared.link.PathLink.{PathLink}
use Rattle.cells.specs.Nodes.{no_link}

pub below_at : (f : ℕ → Bool) (n j : ℕ) → j < n → all_below f n ≡ true → f j ≡ true
unfolding all_below
below_at f zero j lt t = absurd (omega arith)
below_at f (suc n) j lt t = by_test (ltb j n)
    (λ u. below_at f n j (ltb-true j n u) (and_left _ _ t))
    (λ g. let z : j ≡ n = omega (arith, ltb-false j n g) in ap f z ∙ and_right (all_below f n) _ t)

module _ (cs : List Cell) where
  -- ---- a link

  arrives_meets : (k i : ℕ) (l : PathLink) → link_arrives cs i l ≡ true → link_meets cs k i l ≡ true
  arrives_meets k i l = go (member_for (areas cs) i l.area_id)
    where
      go : (o : Option ℕ) → has_node cs l.node_id o ≡ true
          → (not (is_member k o) || is_some (first_with (numbers (cell_at cs k).nodes) l.node_id)) ≡ true
      go none h = refl
      go (some j) h = by_test (eqb j k)
          (λ t. rw t (ap (λ (q : ℕ). is_some (first_with (numbers (cell_at cs q).nodes) l.node_id))
          (sym (eqb-true j k t)) ∙ h))
          (λ f. rw f)

  meets_arrives : (i : ℕ) (l : PathLink) → i < length cs → ((k : ℕ) → k < length cs → link_meets cs k i l ≡ true)
      → link_arrives cs i l ≡ true
  meets_arrives i l lt h = go (member_for (areas cs) i l.area_id) refl
    where
      met : (j : ℕ) (o : Option ℕ) → o ≡ some j
          → (not (is_member j o) || is_some (first_with (numbers (cell_at cs j).nodes) l.node_id)) ≡ true
          → is_some (first_with (numbers (cell_at cs j).nodes) l.node_id) ≡ true
      met j none e t = let z : ◌≡◌ {A = ℕ} 0 1 = cc in absurd (omega arith)
      met j (some q) e t = let z : q ≡ j = cc in rw (eq-eqb q j z) at t

      go : (o : Option ℕ) → member_for (areas cs) i l.area_id ≡ o → has_node cs l.node_id o ≡ true
      go none e = refl
      go (some j) e =
          let inside : j < length cs = rw length-map at (member_inside (areas cs) i l.area_id j (rw length-map lt) e) in
          met j (member_for (areas cs) i l.area_id) e (h j inside)

  -- ---- a member

  all_meet : (k i : ℕ) → member_arrives cs i (cell_at cs i) ≡ true → member_meets cs k i ≡ true
  all_meet k i = every_imp (node_arrives cs i) (node_meets cs k i)
      (λ n. every_imp (link_arrives cs i) (link_meets cs k i) (arrives_meets k i) n.links) (cell_at cs i).nodes

  all_arrive : (i : ℕ) → i < length cs → ((k : ℕ) → k < length cs → member_meets cs k i ≡ true)
      → member_arrives cs i (cell_at cs i) ≡ true
  all_arrive i lt h =
      every_all (node_arrives cs i) (cell_at cs i).nodes no_node (λ p lp.
      let n = get_or (cell_at cs i).nodes p no_node in
      every_all (link_arrives cs i) n.links no_link (λ b lb.
      meets_arrives i (get_or n.links b no_link) lt (λ k lk.
      every_at (link_meets cs k i) n.links b no_link
      (every_at (node_meets cs k i) (cell_at cs i).nodes p no_node (h k lk) lp) lb)))

  -- ---- the set

  judged_sound : ((k : ℕ) → k < length cs → judged_at cs (length cs) k ≡ true) → set_sound cs ≡ true
  unfolding set_sound judged_at
  judged_sound h =
      let own : every sound cs ≡ true = every_all sound cs no_cell
      (λ k lk. and_left (sound (cell_at cs k)) _ (h k lk)) in
      let met : every_from (member_arrives cs) 0 cs ≡ true = from_all (member_arrives cs) 0 cs no_cell (λ i li.
      ap (λ (q : ℕ). member_arrives cs q (cell_at cs i)) (zero-add i)
      ∙ all_arrive i li (λ k lk. below_at (member_meets cs k) (length cs) i li
      (and_right (sound (cell_at cs k)) _ (h k lk)))) in
      rw (own, met)

  sound_judged : set_sound cs ≡ true → (k : ℕ) → k < length cs → judged_at cs (length cs) k ≡ true
  unfolding set_sound judged_at
  sound_judged t k lk =
      let own : sound (cell_at cs k) ≡ true = every_at sound cs k no_cell (and_left (every sound cs) _ t) lk in
      let met : true ≡ all_below (member_meets cs k) (length cs) = below_yes (member_meets cs k) (length cs) (λ i li.
      all_meet k i (sym (ap (λ (q : ℕ). member_arrives cs q (cell_at cs i)) (zero-add i))
      ∙ from_at (member_arrives cs) 0 cs i no_cell (and_right (every sound cs) _ t) li)) in
      rw (own, ← met)

  pub set_judged : all_below (judged_at cs (length cs)) (length cs) ≡ set_sound cs
  set_judged = by_test (set_sound cs)
      (λ t. sym (below_yes (judged_at cs (length cs)) (length cs) (sound_judged t)) ∙ sym t)
      (λ f. by_test (all_below (judged_at cs (length cs)) (length cs))
      (λ t. true_false (sym (judged_sound (λ k lk. below_at (judged_at cs (length cs)) (length cs) k lk t)) ∙ f))
      (λ g. g ∙ sym f))
