-- Storing the cell's own words, shorter lists, all links of a node or a heightmap leaves a tidy cell tidy.
-- Assumes nothing.
use Prim.Native.Nat.{ℕ, zero, suc, ◌+◌, ◌-◌, ◌*◌, ◌≤◌, ◌<◌}
use native.Mathlib.Omega.{arith}
use mathlib.Core.Path.{◌≡◌, ap, sym, ◌∙◌}
use mathlib.Core.Logic.{◌⊎◌, inl, inr}
use mathlib.Core.List.{List}
use lib.Dec.{leb}
use lib.ListN.{length, get_or, set, length-set}
use lib.Seq.{get_or-set_same, get_or-set_other}
use borrow.Author.Tests.{leb-true, leb-false}
use Rattle.records.proofs.Puts.{length_put}
use Rattle.cells.proofs.Editing.Conditions.{link_start, link_count, value_start}
use Rattle.cells.specs.Nodes.{value_count, no_map, no_entry}
use Rattle.cells.specs.Memory.{Memory, over_limit}
use Rattle.cells.specs.Edit.{link_range, value_range}
use Rattle.cells.specs.Add.{with_counts}
use Rattle.cells.specs.AddLink.{held_at}
use Rattle.cells.specs.EntryForms.{with_range}
use Rattle.cells.specs.OwnWords.{with_own}
use Rattle.cells.specs.Truncate.{fewer, counted, fewer_nodes, fewer_junctions, fewer_refs}
use Rattle.cells.specs.Truncate.{truncate_nodes, truncate_junctions, truncate_refs}
use Rattle.cells.specs.Replace.{place_for, pool_after}
use Rattle.cells.specs.PutLinks.{links_start, links_after, links_call, links_stored, put_links}
use Rattle.cells.specs.PutHeightmap.{values_held, values_after, map_start, map_call, map_stored, mapped, put_heightmap}
use Rattle.cells.proofs.Sequences.Tests.{by_test}
use Rattle.cells.proofs.Editing.EditLaws.{held_bound}
use Rattle.cells.proofs.Editing.Replacing.{same_pool, more_pool, fewer_room, links_room, map_room, in_place}
use Rattle.cells.proofs.Editing.Replacing.{behind_all}
use Rattle.cells.proofs.Editing.Replacing.{cleared, pool_grows}
use Rattle.drawn.specs.Tidy.{Tidy}
use Rattle.drawn.proofs.SeparateLaws.{fewer_ranges, range_replaced}
use Rattle.drawn.proofs.Accepted.{by_answer}
use Rattle.cells.specs.declared.link.PathLink.{PathLink}

-- ---- the cell's own words

pub own_tidy : (m : Memory) → Tidy m → (vft vehicles peds : ℕ) (words : List ℕ)
    → Tidy (counted (with_own m.ynd vft vehicles peds words) m)
unfolding with_own
own_tidy m h vft vehicles peds words = record {
  few_nodes = h.few_nodes;
  few_junctions = h.few_junctions;
  nodes_lie = h.nodes_lie;
  links_lie = h.links_lie;
  junctions_lie = h.junctions_lie;
  values_lie = h.values_lie;
  refs_lie = h.refs_lie;
  links_apart = h.links_apart;
  values_apart = h.values_apart;
}

-- ---- shorter lists

pub truncate_nodes_tidy : (m : Memory) → Tidy m → (k : ℕ) → Tidy (truncate_nodes m k).memory
unfolding truncate_nodes with_counts
truncate_nodes_tidy m h k =
    let n = m.ynd.node_count in
    by_answer Tidy (fewer (over_limit m.ynd) n k) m (counted (fewer_nodes m.ynd k) m) h (λ e.
    let few : k ≤ n = fewer_room (over_limit m.ynd) n k e in
    record {
      few_nodes = omega (arith, few, h.few_nodes);
      few_junctions = h.few_junctions;
      nodes_lie = omega (arith, few, h.nodes_lie);
      links_lie = h.links_lie;
      junctions_lie = h.junctions_lie;
      values_lie = h.values_lie;
      refs_lie = h.refs_lie;
      links_apart = fewer_ranges _ _ n k m.ynd.link_count few h.links_apart;
      values_apart = h.values_apart;
    })

pub truncate_junctions_tidy : (m : Memory) → Tidy m → (k : ℕ) → Tidy (truncate_junctions m k).memory
unfolding truncate_junctions with_counts
truncate_junctions_tidy m h k =
    let n = m.ynd.junction_count in
    by_answer Tidy (fewer (over_limit m.ynd) n k) m (counted (fewer_junctions m.ynd k) m) h (λ e.
    let few : k ≤ n = fewer_room (over_limit m.ynd) n k e in
    record {
      few_nodes = h.few_nodes;
      few_junctions = omega (arith, few, h.few_junctions);
      nodes_lie = h.nodes_lie;
      links_lie = h.links_lie;
      junctions_lie = omega (arith, few, h.junctions_lie);
      values_lie = h.values_lie;
      refs_lie = h.refs_lie;
      links_apart = h.links_apart;
      values_apart = fewer_ranges _ _ n k m.ynd.heightmap_count few h.values_apart;
    })

pub truncate_refs_tidy : (m : Memory) → Tidy m → (k : ℕ) → Tidy (truncate_refs m k).memory
unfolding truncate_refs with_counts
truncate_refs_tidy m h k =
    let n = m.ynd.ref_count in
    by_answer Tidy (fewer (over_limit m.ynd) n k) m (counted (fewer_refs m.ynd k) m) h (λ e.
    record {
      few_nodes = h.few_nodes;
      few_junctions = h.few_junctions;
      nodes_lie = h.nodes_lie;
      links_lie = h.links_lie;
      junctions_lie = h.junctions_lie;
      values_lie = h.values_lie;
      refs_lie = omega (arith, fewer_room (over_limit m.ynd) n k e, h.refs_lie);
      links_apart = h.links_apart;
      values_apart = h.values_apart;
    })

-- ---- one range replaced

-- the new range ends inside what there is
pub place_ends : (s e c l : ℕ) → e ≤ l - s → place_for s e c l + c ≤ pool_after e c l
place_ends s e zero l h = omega (arith, cleared s e l)
place_ends s e (suc c) l h = by_test (leb (suc c) e)
    (λ t. let le = leb-true (suc c) e t in
    omega (arith, in_place s e (suc c) l (omega arith) le, same_pool e (suc c) l le))
    (λ f. let lt = leb-false (suc c) e f in
    omega (arith, behind_all s e (suc c) l lt, more_pool e (suc c) l lt))

-- where the new range lies: where the old one did, or behind all
placed : (s e count c l : ℕ) → e ≤ count → 0 < c
    → ((place_for s e c l ≡ s) × (c ≤ count)) ⊎ (l ≤ place_for s e c l)
placed s e count c l most some = by_test (leb c e)
    (λ t. let le = leb-true c e t in inl (in_place s e c l some le, omega arith))
    (λ f. inr (omega (arith, behind_all s e c l (leb-false c e f))))

-- the same by the words that are stored
own_place : (s e most c l start count : ℕ) → start ≡ place_for s e c l → count ≡ c → e ≤ most → 0 < count
    → ((start ≡ s) × (count ≤ most)) ⊎ (l ≤ start)
own_place s e most c l start count a b le some = rw (a, b) (placed s e most c l le (omega arith))

pub put_links_tidy : (m : Memory) → Tidy m → (p : ℕ) (new : List PathLink) → Tidy (put_links m p new).memory
unfolding put_links with_counts
put_links_tidy m h p new =
    let n = m.ynd.node_count in
    let l = m.ynd.link_count in
    let c = length new in
    let w = get_or m.nodes p no_entry in
    let e = held_at m.nodes p l in
    let at = links_start m p c in
    let after = links_after m p c in
    let x = with_range w at c in
    let nodes = set m.nodes p x in
    by_answer Tidy (links_call m p c) m (links_stored m p new) h (λ d.
    let r = links_room (over_limit m.ynd) n p c after (length m.nodes) (length m.links) d in
    let held = held_bound (link_range m.nodes p) l in
    let place = place_ends (link_start w) e c l held.0 in
    let own = get_or-set_same m.nodes p x no_entry (omega (arith, r.place, r.nodes_fit)) in
    let start : link_start (get_or nodes p no_entry) ≡ at = ap link_start own in
    let count : link_count (get_or nodes p no_entry) ≡ c = ap link_count own in
    let other : (q : ℕ) → (q ≡ p → ⊥) → get_or nodes q no_entry ≡ get_or m.nodes q no_entry =
    λ q ne. get_or-set_other m.nodes p q x no_entry ne in
    record {
      few_nodes = h.few_nodes;
      few_junctions = h.few_junctions;
      nodes_lie = omega (arith, h.nodes_lie, length-set m.nodes p x);
      links_lie = omega (arith, r.links_fit, length_put m.links at new (omega (arith, place, r.links_fit)));
      junctions_lie = h.junctions_lie;
      values_lie = h.values_lie;
      refs_lie = h.refs_lie;
      links_apart = range_replaced (λ q. link_start (get_or m.nodes q no_entry)) (λ q. link_count
          (get_or m.nodes q no_entry))
          (λ q. link_start (get_or nodes q no_entry)) (λ q. link_count (get_or nodes q no_entry)) n l after p r.place
          (pool_grows e c l)
          (omega (arith, start, place, r.all_few))
          (λ q lt ne. ap link_start (other q ne))
          (λ q lt ne. ap link_count (other q ne))
          (omega (arith, start, count, place))
          (λ some. own_place (link_start w) e (link_count w) c l (link_start (get_or nodes p no_entry))
          (link_count (get_or nodes p no_entry)) start count held.1 some)
          h.links_apart;
      values_apart = h.values_apart;
    })

pub put_heightmap_tidy : (m : Memory) → Tidy m → (p width height : ℕ) (values : List ℕ)
    → Tidy (put_heightmap m p width height values).memory
unfolding put_heightmap with_counts
put_heightmap_tidy m h p width height values =
    let n = m.ynd.junction_count in
    let l = m.ynd.heightmap_count in
    let c = length values in
    let w = get_or m.junctions p no_map in
    let e = values_held m p in
    let at = map_start m p c in
    let after = values_after m p c in
    let x = mapped width height at w in
    let junctions = set m.junctions p x in
    by_answer Tidy (map_call m p c (width * height)) m (map_stored m p width height values) h (λ d.
    let r = map_room (over_limit m.ynd) n p c (width * height) after (length m.junctions) (length m.heights) d in
    let held = held_bound (value_range m.junctions p) l in
    let place = place_ends (value_start w) e c l held.0 in
    let own = get_or-set_same m.junctions p x no_map (omega (arith, r.place, r.junctions_fit)) in
    let start : value_start (get_or junctions p no_map) ≡ at = ap value_start own in
    let count : value_count (get_or junctions p no_map) ≡ c =
    ap value_count own ∙ sym r.sized in
    let other : (q : ℕ) → (q ≡ p → ⊥) → get_or junctions q no_map ≡ get_or m.junctions q no_map =
    λ q ne. get_or-set_other m.junctions p q x no_map ne in
    record {
      few_nodes = h.few_nodes;
      few_junctions = h.few_junctions;
      nodes_lie = h.nodes_lie;
      links_lie = h.links_lie;
      junctions_lie = omega (arith, h.junctions_lie, length-set m.junctions p x);
      values_lie = omega (
        arith,
        r.heights_fit,
        length_put m.heights at values
            (omega (arith, place, r.heights_fit)),
      );
      refs_lie = h.refs_lie;
      links_apart = h.links_apart;
      values_apart = range_replaced (λ q. value_start (get_or m.junctions q no_map))
          (λ q. value_count (get_or m.junctions q no_map))
          (λ q. value_start (get_or junctions q no_map)) (λ q. value_count
          (get_or junctions q no_map)) n l after p r.place
          (pool_grows e c l)
          (omega (arith, start, place, r.all_few))
          (λ q lt ne. ap value_start (other q ne))
          (λ q lt ne. ap value_count (other q ne))
          (omega (arith, start, count, place))
          (λ some. own_place (value_start w) e (value_count w) c l (value_start (get_or junctions p no_map))
          (value_count (get_or junctions p no_map)) start count held.1 some)
          h.values_apart;
    })
