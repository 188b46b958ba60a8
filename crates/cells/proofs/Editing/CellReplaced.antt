-- The cell's own words, shorter lists, all links of a node and a heightmap, stored in memory, are stored in the cell
-- that the memory holds.
use Prim.Native.Nat.{ℕ, ◌*◌, ◌≤◌}
use native.Mathlib.Omega.{arith}
use mathlib.Core.Path.{◌≡◌, refl, ap, sym, ◌∙◌}
use mathlib.Core.List.{List, map}
use lib.ListN.{length, get_or, set, take}
use lib.Seq.{take-take, length-take-le}
use Rattle.cells.specs.Nodes.{no_entry, no_map, value_count}
use Rattle.cells.specs.EntryForms.{with_range}
use Rattle.cells.specs.Cell.{no_node, node_at}
use Rattle.cells.specs.CellOf.{node_with, junction_with, nodes_of, junctions_of, refs_of}
use Rattle.cells.specs.CellOf.{cell_of}
use Rattle.cells.specs.Memory.{Memory, over_limit}
use Rattle.cells.specs.Edit.{value_range}
use Rattle.cells.specs.Add.{with_counts}
use Rattle.cells.specs.AddLink.{held_at}
use Rattle.cells.specs.EditedCell.{with_nodes, with_junctions, with_refs}
use Rattle.cells.specs.OwnWords.{with_own, with_vft, with_vehicles, with_peds, with_unknowns}
use Rattle.cells.specs.Truncate.{fewer, counted, fewer_nodes, fewer_junctions, fewer_refs, truncate_nodes}
use Rattle.cells.specs.Truncate.{truncate_junctions, truncate_refs}
use Rattle.cells.specs.PutLinks.{links_after, links_start, links_call, links_stored, put_links}
use Rattle.cells.specs.PutHeightmap.{values_held, values_after, map_start, map_call, map_stored, mapped, put_heightmap}
use Rattle.cells.specs.StoredCell.{vft_put, vehicles_put, peds_put, unknowns_put, links_put, no_junction}
use Rattle.cells.specs.EditedCell.{node_linked}
use Rattle.cells.specs.StoredCell.{junction_at, heightmap_put}
use Rattle.cells.specs.EditedCell.{junction_mapped}
use Rattle.std.proofs.lemmas.List.{take-map}
use Rattle.cells.proofs.Editing.EditLaws.{held_bound}
use Rattle.cells.proofs.Editing.AddLaws.{done_memory}
use Rattle.cells.proofs.Editing.Inserted.{held_few}
use Rattle.cells.proofs.Editing.LinkAdded.{with_links}
use Rattle.cells.proofs.Editing.CellAdded.{with_values}
use Rattle.cells.proofs.Editing.CellStored.{held_at_law}
use Rattle.cells.proofs.Editing.Replacing.{fewer_room, links_room, map_room, pool_grows}
use Rattle.cells.proofs.Editing.RangePut.{pool_replaced, replaced}
use Rattle.std.specs.Prelude.{Ok}
use Rattle.cells.proofs.Editing.Conditions.{Beside, link_start, link_count, value_start}
use Rattle.cells.specs.declared.link.PathLink.{PathLink}

-- ---- the cell's own words

module _ (m : Memory) where
  pub vft_set : (v : ℕ) → cell_of (counted (with_vft m.ynd v) m) ≡ vft_put v (cell_of m)
  unfolding with_own cell_of nodes_of junctions_of refs_of
  vft_set v = refl

  pub vehicles_set : (v : ℕ) → cell_of (counted (with_vehicles m.ynd v) m) ≡ vehicles_put v (cell_of m)
  unfolding with_own cell_of nodes_of junctions_of refs_of
  vehicles_set v = refl

  pub peds_set : (v : ℕ) → cell_of (counted (with_peds m.ynd v) m) ≡ peds_put v (cell_of m)
  unfolding with_own cell_of nodes_of junctions_of refs_of
  peds_set v = refl

  pub unknowns_set : (v : List ℕ) → cell_of (counted (with_unknowns m.ynd v) m) ≡ unknowns_put v (cell_of m)
  unfolding with_own cell_of nodes_of junctions_of refs_of
  unknowns_set v = refl

-- ---- shorter lists

shorter : {A B : Type 0} (f : A → B) (k n : ℕ) (xs : List A) → k ≤ n → map f (take k xs) ≡ take k (map f (take n xs))
shorter f k n xs h = sym (take-map f k (take n xs) ∙ ap (map f) (take-take k n xs h))

module _ (m : Memory) (k : ℕ) where
  pub nodes_truncated : (truncate_nodes m k).answer ≡ (Ok tt) → cell_of (truncate_nodes m k).memory
      ≡ with_nodes (take k (cell_of m).nodes) (cell_of m)
  unfolding truncate_nodes cell_of nodes_of junctions_of refs_of with_counts
  nodes_truncated e =
      let n = m.ynd.node_count in
      let d = done_memory (fewer (over_limit m.ynd) n k) m (counted (fewer_nodes m.ynd k) m) e in
      let g = shorter (node_with (take m.ynd.link_count m.links)) k n m.nodes
      (fewer_room (over_limit m.ynd) n k d.0) in
      ap cell_of d.1 ∙ (λ i. with_nodes (g i) (cell_of m))

  pub junctions_truncated : (truncate_junctions m k).answer ≡ (Ok tt) → cell_of (truncate_junctions m k).memory
      ≡ with_junctions (take k (cell_of m).junctions) (cell_of m)
  unfolding truncate_junctions cell_of nodes_of junctions_of refs_of with_counts
  junctions_truncated e =
      let n = m.ynd.junction_count in
      let d = done_memory (fewer (over_limit m.ynd) n k) m (counted (fewer_junctions m.ynd k) m) e in
      let g = shorter (junction_with (take m.ynd.heightmap_count m.heights)) k n m.junctions
      (fewer_room (over_limit m.ynd) n k d.0) in
      ap cell_of d.1 ∙ (λ i. with_junctions (g i) (cell_of m))

  pub refs_truncated : (truncate_refs m k).answer ≡ (Ok tt) → cell_of (truncate_refs m k).memory
      ≡ with_refs (take k (cell_of m).refs) (cell_of m)
  unfolding truncate_refs cell_of nodes_of junctions_of refs_of with_counts
  refs_truncated e =
      let n = m.ynd.ref_count in
      let d = done_memory (fewer (over_limit m.ynd) n k) m (counted (fewer_refs m.ynd k) m) e in
      let g = sym (take-take k n m.refs (fewer_room (over_limit m.ynd) n k d.0)) in
      ap cell_of d.1 ∙ (λ i. with_refs (g i) (cell_of m))

-- ---- all links of a node

pub links_put_law : (m : Memory) (p : ℕ) (new : List PathLink)
    → Beside no_entry link_start link_count m.ynd.node_count m.ynd.link_count p m.nodes
    → (put_links m p new).answer ≡ (Ok tt) → cell_of (put_links m p new).memory ≡ links_put p new (cell_of m)
unfolding put_links cell_of nodes_of junctions_of refs_of with_counts
links_put_law m p new beside e =
    let n = m.ynd.node_count in
    let l = m.ynd.link_count in
    let c = length new in
    let w = get_or m.nodes p no_entry in
    let at = links_start m p c in
    let ls = take l m.links in
    let d = done_memory (links_call m p c) m (links_stored m p new) e in
    let r = links_room (over_limit m.ynd) n p c (links_after m p c) (length m.nodes) (length m.links) d.0 in
    let fits : l ≤ length m.links = omega (arith, r.links_fit, pool_grows (held_at m.nodes p l) c l) in
    let pool = pool_replaced w.link_id (held_at m.nodes p l) c l m.links new (held_few m.nodes p l) fits refl in
    let own = ap (node_linked new) (sym (held_at_law
    (node_with ls) n m.nodes p no_entry no_node r.place r.nodes_fit)) in
    let g = ap (λ (t : List PathLink). map (node_with t) (take n (set m.nodes p (with_range w at c)))) pool
    ∙ replaced no_entry link_start link_count with_links n l p c m.nodes ls new r.place r.nodes_fit
    (length-take-le l m.links fits) refl beside
    (with_range w at c) (node_linked new (node_at (nodes_of m) p)) refl refl own in
    ap cell_of d.1 ∙ (λ i. with_nodes (g i) (cell_of m))

-- ---- a heightmap

pub heightmap_put_law : (m : Memory) (p width height : ℕ) (values : List ℕ)
    → Beside no_map value_start value_count m.ynd.junction_count m.ynd.heightmap_count p m.junctions
    → (put_heightmap m p width height values).answer ≡ (Ok tt)
    → cell_of (put_heightmap m p width height values).memory ≡ heightmap_put p width height values (cell_of m)
unfolding put_heightmap cell_of nodes_of junctions_of refs_of with_counts
heightmap_put_law m p width height values beside e =
    let n = m.ynd.junction_count in
    let h = m.ynd.heightmap_count in
    let c = length values in
    let w = get_or m.junctions p no_map in
    let at = map_start m p c in
    let hs = take h m.heights in
    let d = done_memory (map_call m p c (width * height)) m (map_stored m p width height values) e in
    let r = map_room (over_limit m.ynd) n p c (width * height) (values_after m p c) (length m.junctions)
    (length m.heights) d.0 in
    let fits : h ≤ length m.heights = omega (arith, r.heights_fit, pool_grows (values_held m p) c h) in
    let pool = pool_replaced w.heightmap_ptr (values_held m p) c h m.heights values
    (held_bound (value_range m.junctions p) h).0 fits refl in
    let own = ap (junction_mapped width height values)
    (sym (held_at_law (junction_with hs) n m.junctions p no_map no_junction r.place r.junctions_fit)) in
    let g = ap (λ (t : List ℕ). map (junction_with t) (take n (set m.junctions p (mapped width height at w)))) pool
    ∙ replaced no_map value_start value_count with_values n h p c m.junctions hs values r.place r.junctions_fit
    (length-take-le h m.heights fits) refl beside
    (mapped width height at w) (junction_mapped width height values (junction_at (junctions_of m) p)) refl
    (sym r.sized) own in
    ap cell_of d.1 ∙ (λ i. with_junctions (g i) (cell_of m))
