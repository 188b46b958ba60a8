-- Adding an entry leaves a tidy cell tidy, accepted or refused.
-- Assumes nothing but that the arguments fit their types.
use Rattle.cells.proofs.Editing.LinkAdded.{word_own, word_other, after_long}
use Prim.Native.Nat.{ℕ, ◌+◌, ◌*◌, ◌≤◌, ◌<◌}
use native.Mathlib.Omega.{arith}
use mathlib.Core.Path.{◌≡◌, refl, ap, sym, ◌∙◌}
use mathlib.Core.List.{List, ◌∷◌, ◌++◌}
use lib.Dec.{ltb}
use lib.ListN.{length, get_or, set, take, drop, length-append, length-drop, length-set}
use lib.Seq.{get_or-set_same, get_or-set_other}
use borrow.Author.Tests.{eq-eqb, ne_eqb, lt-ltb, le-ltb, lt-leb, le-leb, ltb-true, ltb-false}
use Rattle.numbers.specs.declared.refusal.Lent.TheVariants as lent
use Rattle.numbers.specs.Positions.{quantised, dequantised}
use Rattle.numbers.specs.declared.math.Vec3.{Vec3}
use Rattle.records.specs.Put.{put}
use Rattle.records.proofs.Puts.{length_put}
use Rattle.records.specs.declared.junction_ref.NodeJunctionRef.{NodeJunctionRef}
use Rattle.cells.specs.declared.link.PathLink.{PathLink}
use Rattle.cells.specs.declared.junction.PathJunction.{PathJunction}
use Rattle.cells.proofs.Editing.Conditions.{link_start, link_count, value_start}
use Rattle.cells.specs.Nodes.{value_count, no_entry, no_link, no_map}
use Rattle.cells.specs.NodeAccess.{new_node}
use Rattle.cells.specs.Memory.{over_limit, Memory, memory}
use Rattle.cells.specs.Edit.{start_at, held_in}
use Rattle.cells.specs.Add.{with_counts, more_nodes, more_links, more_refs, more_junctions, room_for}
use Rattle.cells.specs.Add.{room_for_junction, add_node, add_ref, add_junction}
use Rattle.cells.specs.AddLink.{held_at, behind, at_in, inserted, shifted, nodes_after, room_for_link}
use Rattle.cells.specs.EntryForms.{junction_as_entry, node_as_entry}
use Rattle.cells.specs.AddLink.{add_link}
use Rattle.cells.proofs.Sequences.Tests.{by_test}
use Rattle.cells.proofs.Editing.AddLaws.{room_inside, junction_room}
use Rattle.cells.proofs.Editing.Inserted.{front_long, accepted, behind_bound, held_few}
use Rattle.drawn.specs.Tidy.{LinksApart, Tidy}
use Rattle.drawn.proofs.SeparateLaws.{one_more, inserted_ranges}
use Rattle.drawn.proofs.Accepted.{by_answer}
use Rattle.cells.specs.declared.node_entry.NodeEntry.{NodeEntry}

-- ---- a node

pub add_node_tidy : (m : Memory) → Tidy m → (area : ℕ) (at : Vec3) → Tidy (add_node m area at).memory
unfolding add_node with_counts new_node
add_node_tidy m h area at =
    let n = m.ynd.node_count in
    let l = m.ynd.link_count in
    let to = dequantised (quantised at) in
    let w = node_as_entry (new_node area n to) in
    let nodes = set m.nodes n w in
    by_answer Tidy (room_for (over_limit m.ynd) 65536 n (length m.nodes) lent.Nodes) m
    (memory (more_nodes m.ynd) nodes m.links m.junctions m.heights m.refs) h (λ e.
    let r = room_inside (over_limit m.ynd) 65536 n (length m.nodes) lent.Nodes e in
    let own = get_or-set_same m.nodes n w no_entry r.1 in
    let other : (q : ℕ) → q < n → get_or nodes q no_entry
    ≡ get_or m.nodes q no_entry = λ q lt. get_or-set_other m.nodes n q w no_entry
    (λ z. absurd (omega (arith, z))) in
    record {
      few_nodes = omega (arith, r.0);
      few_junctions = h.few_junctions;
      nodes_lie = omega (arith, r.1, length-set m.nodes n w);
      links_lie = h.links_lie;
      junctions_lie = h.junctions_lie;
      values_lie = h.values_lie;
      refs_lie = h.refs_lie;
      links_apart = one_more (λ q. link_start (get_or m.nodes q no_entry)) (λ q. link_count (get_or m.nodes q no_entry))
          (λ q. link_start (get_or nodes q no_entry)) (λ q. link_count (get_or nodes q no_entry)) n l l
          (λ q lt. ap link_start (other q lt)) (λ q lt. ap link_count (other q lt))
          (omega (arith, ap link_start own))
          (λ some. absurd (omega (arith, ap link_count own)))
          (omega (arith, ap link_count own))
          h.links_apart;
      values_apart = h.values_apart;
    })

-- ---- a ref

pub add_ref_tidy : (m : Memory) → Tidy m → (r : NodeJunctionRef) → Tidy (add_ref m r).memory
unfolding add_ref with_counts
add_ref_tidy m h r =
    let n = m.ynd.ref_count in
    by_answer Tidy (room_for (over_limit m.ynd) 4294967295 n (length m.refs) lent.Refs) m
    (memory (more_refs m.ynd) m.nodes m.links m.junctions m.heights (set m.refs n r)) h (λ e.
    let k = room_inside (over_limit m.ynd) 4294967295 n (length m.refs) lent.Refs e in
    record {
      few_nodes = h.few_nodes;
      few_junctions = h.few_junctions;
      nodes_lie = h.nodes_lie;
      links_lie = h.links_lie;
      junctions_lie = h.junctions_lie;
      values_lie = h.values_lie;
      refs_lie = omega (arith, k.1, length-set m.refs n r);
      links_apart = h.links_apart;
      values_apart = h.values_apart;
    })

-- ---- a junction

pub add_junction_tidy : (m : Memory) → Tidy m → (j : PathJunction) (values : List ℕ)
    → Tidy (add_junction m j values).memory
unfolding add_junction with_counts
add_junction_tidy m h j values =
    let n = m.ynd.junction_count in
    let v = m.ynd.heightmap_count in
    let w = start_at (junction_as_entry j) v in
    let junctions = set m.junctions n w in
    by_answer Tidy (room_for_junction (over_limit m.ynd) n v (j.width * j.height) (length values) (length m.junctions)
    (length m.heights)) m
    (memory (more_junctions m.ynd (length values)) m.nodes m.links junctions (put m.heights v values) m.refs) h (λ e.
    let r = junction_room (over_limit m.ynd) n v (j.width * j.height) (length values) (length m.junctions)
    (length m.heights) e in
    let own = get_or-set_same m.junctions n w no_map r.junctions_fit in
    let other : (q : ℕ) → q < n → get_or junctions q no_map
    ≡ get_or m.junctions q no_map = λ q lt. get_or-set_other m.junctions n q w no_map (λ z. absurd (omega
    (arith, z))) in
    let start : value_start (get_or junctions n no_map) ≡ v = ap value_start own in
    let count : value_count (get_or junctions n no_map) ≡ length values = ap value_count own ∙ sym r.sized in
    record {
      few_nodes = h.few_nodes;
      few_junctions = omega (arith, r.few);
      nodes_lie = h.nodes_lie;
      links_lie = h.links_lie;
      junctions_lie = omega (arith, r.junctions_fit, length-set m.junctions n w);
      values_lie = omega (arith, r.heights_fit, length_put m.heights v values r.heights_fit);
      refs_lie = h.refs_lie;
      links_apart = h.links_apart;
      values_apart = one_more (λ q. value_start (get_or m.junctions q no_map))
          (λ q. value_count (get_or m.junctions q no_map)) (λ q. value_start (get_or junctions q no_map))
          (λ q. value_count (get_or junctions q no_map)) n v (v + length values)
          (λ q lt. ap value_start (other q lt)) (λ q lt. ap value_count (other q lt))
          (let z : value_start (get_or junctions n no_map) < 4294967296 = omega (arith, start, r.values_few) in z)
          (λ some. start)
          (let z : v + length values ≡ v + value_count (get_or junctions n no_map) = ap (λ (x : ℕ). v + x)
          (sym count) in z)
          h.values_apart;
    })

-- ---- a link

module _ (at l : ℕ) (w : NodeEntry) where
  shifted_before : link_start w < at → shifted at l w ≡ w
  unfolding shifted
  shifted_before lt = rw (lt-ltb (link_start w) at lt)

  shifted_outside : l ≤ link_start w → shifted at l w ≡ w
  unfolding shifted
  shifted_outside le = by_test (ltb (link_start w) at) (λ t. rw t) (λ f. rw (f, le-leb l (link_start w) le))

  shifted_later : at ≤ link_start w → link_start w < l → shifted at l w ≡ record w { link_id = w.link_id + 1 }
  unfolding shifted
  shifted_later le lt = rw (le-ltb (link_start w) at le, lt-leb l (link_start w) lt)

  shifted_count : link_count (shifted at l w) ≡ link_count w
  shifted_count = by_test (ltb (link_start w) at)
      (λ t. ap link_count (shifted_before (ltb-true _ _ t)))
      (λ f. by_test (ltb (link_start w) l)
      (λ t. ap link_count (shifted_later (ltb-false _ _ f) (ltb-true _ _ t)))
      (λ g. ap link_count (shifted_outside (ltb-false _ _ g))))

behind_none : (s e l : ℕ) → e ≡ 0 → behind s e l ≡ l
unfolding behind
behind_none s e l z = rw (eq-eqb e 0 z)

behind_some : (s e l : ℕ) → 0 < e → behind s e l ≡ s + e
unfolding behind
behind_some s e l lt = rw (ne_eqb e 0 (λ z. absurd (omega (arith, z))))

module _ (n l p : ℕ) (nodes : List NodeEntry) (place : p < n) (nodes-fit : n ≤ length nodes) where
  abbrev at : ℕ
  at = at_in nodes p l

  links_after_law : l < 4294967295 → held_at nodes p l < 255 → LinksApart n l nodes → LinksApart n (l + 1)
      (nodes_after n l p nodes)
  unfolding held_in
  links_after_law few less h =
      let s : ℕ → ℕ = λ q. link_start (get_or nodes q no_entry) in
      let e = held_at nodes p l in
      let own = word_own n l p nodes place nodes-fit in
      let other = word_other n l p nodes place nodes-fit in
      inserted_ranges s (λ q. link_count (get_or nodes q no_entry))
      (λ q. link_start (get_or (nodes_after n l p nodes) q no_entry))
      (λ q. link_count (get_or (nodes_after n l p nodes) q no_entry)) n l p at e
      place few refl (behind_none (s p) e l) (behind_some (s p) e l)
      (ap link_start own)
      (ap link_count own)
      (λ q lt ne. ap link_count (other q lt ne) ∙ shifted_count at l (get_or nodes q no_entry))
      (λ q lt ne k. ap link_start (other q lt ne ∙ shifted_before at l (get_or nodes q no_entry) k))
      (λ q lt ne k. ap link_start (other q lt ne ∙ shifted_outside at l (get_or nodes q no_entry) k))
      (λ q lt ne a b. ap link_start (other q lt ne ∙ shifted_later at l (get_or nodes q no_entry) a b))
      h

pub inserted_long : {A : Type 0} (at l : ℕ) (x : A) (xs : List A) (d : A) → at ≤ l → l < length xs → length
    (inserted at l x xs) ≡ length xs
unfolding inserted
inserted_long at l x xs d inside fits =
    length-append (take at (take l xs) ++ (x ∷ drop at (take l xs))) (drop (l + 1) xs) ∙ omega
    (arith, front_long at l x xs d inside fits, length-drop (l + 1) xs)

pub add_link_tidy : (m : Memory) → Tidy m → (p : ℕ) (x : PathLink) → Tidy (add_link m p x).memory
unfolding add_link with_counts
add_link_tidy m h p x =
    let n = m.ynd.node_count in
    let l = m.ynd.link_count in
    let e = held_at m.nodes p l in
    let at = at_in m.nodes p l in
    by_answer Tidy (room_for_link (over_limit m.ynd) n l p e (length m.nodes) (length m.links)) m
    (memory (more_links m.ynd) (nodes_after n l p m.nodes)
    (inserted at l x m.links) m.junctions m.heights m.refs) h (λ d.
    let r = accepted (over_limit m.ynd) n l p e (length m.nodes) (length m.links) d in
    let inside = (behind_bound (link_start (get_or m.nodes p no_entry)) e l (held_few m.nodes p l)).0 in
    record {
      few_nodes = h.few_nodes;
      few_junctions = h.few_junctions;
      nodes_lie = omega (arith, h.nodes_lie, after_long n l p m.nodes r.place r.nodes_fit);
      links_lie = omega (arith, r.links_fit, inserted_long at l x m.links no_link inside r.links_fit);
      junctions_lie = h.junctions_lie;
      values_lie = h.values_lie;
      refs_lie = h.refs_lie;
      links_apart = links_after_law n l p m.nodes r.place r.nodes_fit r.few r.one_more h.links_apart;
      values_apart = h.values_apart;
    })
