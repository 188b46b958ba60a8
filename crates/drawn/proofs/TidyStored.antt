-- Storing an entry leaves a tidy cell tidy, accepted or refused.
-- Assumes nothing but that the arguments fit their types.
use Prim.Native.Nat.{ℕ, ◌*◌, ◌<◌}
use native.Mathlib.Omega.{arith}
use mathlib.Core.Path.{◌≡◌, refl, ap, sym, ◌∙◌}
use mathlib.Core.List.{List}
use lib.Dec.{eqb}
use lib.ListN.{length, get_or, set, length-set}
use lib.Seq.{get_or-set_same, get_or-set_other}
use borrow.Author.Tests.{eqb-true, eqb-false}
use Rattle.numbers.specs.declared.refusal.Lent.TheVariants as lent
use Rattle.numbers.specs.Positions.{quantised, dequantised}
use Rattle.numbers.specs.declared.math.Vec3.{Vec3}
use Rattle.records.specs.declared.junction_ref.NodeJunctionRef.{NodeJunctionRef}
use Rattle.cells.specs.declared.node.PathNode.{PathNode}
use Rattle.cells.specs.declared.link.PathLink.{PathLink}
use Rattle.cells.specs.declared.junction.PathJunction.{PathJunction}
use Rattle.cells.proofs.Editing.Conditions.{link_start, link_count, value_start}
use Rattle.cells.specs.Nodes.{value_count, no_link, no_ref, no_entry, no_map}
use Rattle.cells.specs.Memory.{over_limit, Memory, memory}
use Rattle.cells.specs.Edit.{node_entry, link_entry, ref_entry, height_entry, range_kept, put_node, set_position}
use Rattle.cells.specs.Edit.{put_link, put_ref, value_range, start_at, sized_entry, put_junction, put_height}
use Rattle.cells.proofs.Sequences.Tests.{by_test}
use Rattle.drawn.specs.Tidy.{Tidy}
use Rattle.drawn.proofs.SeparateLaws.{same}
use Rattle.drawn.proofs.Accepted.{by_entry, entry_told, sized_told}
use Rattle.cells.specs.declared.junction_entry.JunctionEntry.{JunctionEntry}
use Rattle.cells.specs.declared.node_entry.NodeEntry.{NodeEntry}
use Rattle.cells.specs.EntryForms.{junction_as_entry, moved_to, node_as_entry}

-- what is read of the entries stays, if it stays of the entry stored
pub set_same : {A : Type 0} (z : A) (f : A → ℕ) (l : List A) (i : ℕ) (x : A) → i < length l → f x ≡ f (get_or l i z)
    → (q : ℕ) → f (get_or (set l i x) q z) ≡ f (get_or l q z)
set_same z f l i x lt e q = by_test (eqb q i)
    (λ t. let d = eqb-true q i t in rw d (ap f (get_or-set_same l i x z lt) ∙ e))
    (λ t. ap f (get_or-set_other l i q x z (eqb-false q i t)))

-- a list of the same length in place of one, the ranges as they were
module _ (m : Memory) (h : Tidy m) where
  nodes_stored : (i : ℕ) (x : NodeEntry) → i < length m.nodes → link_start x ≡ link_start (get_or m.nodes i no_entry)
      → link_count x ≡ link_count (get_or m.nodes i no_entry)
      → Tidy (memory m.ynd (set m.nodes i x) m.links m.junctions m.heights m.refs)
  nodes_stored i x lt e k = record {
    few_nodes = h.few_nodes;
    few_junctions = h.few_junctions;
    nodes_lie = omega (arith, h.nodes_lie, length-set m.nodes i x);
    links_lie = h.links_lie;
    junctions_lie = h.junctions_lie;
    values_lie = h.values_lie;
    refs_lie = h.refs_lie;
    links_apart = same (λ q. link_start (get_or m.nodes q no_entry)) (λ q. link_count (get_or m.nodes q no_entry))
        (λ q. link_start (get_or (set m.nodes i x) q no_entry)) (λ q. link_count (get_or (set m.nodes i x) q no_entry))
        m.ynd.node_count m.ynd.link_count (λ q _. set_same no_entry link_start m.nodes i x lt e q)
        (λ q _. set_same no_entry link_count m.nodes i x lt k q) h.links_apart;
    values_apart = h.values_apart;
  }

  junctions_stored : (i : ℕ) (x : JunctionEntry) → i < length m.junctions → value_start x ≡ value_start
      (get_or m.junctions i no_map) → value_count x ≡ value_count (get_or m.junctions i no_map)
      → Tidy (memory m.ynd m.nodes m.links (set m.junctions i x) m.heights m.refs)
  junctions_stored i x lt e k = record {
    few_nodes = h.few_nodes;
    few_junctions = h.few_junctions;
    nodes_lie = h.nodes_lie;
    links_lie = h.links_lie;
    junctions_lie = omega (arith, h.junctions_lie, length-set m.junctions i x);
    values_lie = h.values_lie;
    refs_lie = h.refs_lie;
    links_apart = h.links_apart;
    values_apart = same (λ q. value_start (get_or m.junctions q no_map)) (λ q. value_count
        (get_or m.junctions q no_map))
        (λ q. value_start (get_or (set m.junctions i x) q no_map)) (λ q. value_count (get_or
        (set m.junctions i x) q no_map))
        m.ynd.junction_count m.ynd.heightmap_count (λ q _. set_same no_map value_start m.junctions i x lt e q)
        (λ q _. set_same no_map value_count m.junctions i x lt k q) h.values_apart;
  }

  links_stored_law : (ls : List PathLink) → length ls ≡ length m.links → Tidy
      (memory m.ynd m.nodes ls m.junctions m.heights m.refs)
  links_stored_law ls e = record {
    few_nodes = h.few_nodes;
    few_junctions = h.few_junctions;
    nodes_lie = h.nodes_lie;
    links_lie = omega (arith, h.links_lie);
    junctions_lie = h.junctions_lie;
    values_lie = h.values_lie;
    refs_lie = h.refs_lie;
    links_apart = h.links_apart;
    values_apart = h.values_apart;
  }

  heights_stored : (hs : List ℕ) → length hs ≡ length m.heights → Tidy
      (memory m.ynd m.nodes m.links m.junctions hs m.refs)
  heights_stored hs e = record {
    few_nodes = h.few_nodes;
    few_junctions = h.few_junctions;
    nodes_lie = h.nodes_lie;
    links_lie = h.links_lie;
    junctions_lie = h.junctions_lie;
    values_lie = omega (arith, h.values_lie);
    refs_lie = h.refs_lie;
    links_apart = h.links_apart;
    values_apart = h.values_apart;
  }

  refs_stored : (rs : List NodeJunctionRef) → length rs ≡ length m.refs → Tidy
      (memory m.ynd m.nodes m.links m.junctions m.heights rs)
  refs_stored rs e = record {
    few_nodes = h.few_nodes;
    few_junctions = h.few_junctions;
    nodes_lie = h.nodes_lie;
    links_lie = h.links_lie;
    junctions_lie = h.junctions_lie;
    values_lie = h.values_lie;
    refs_lie = omega (arith, h.refs_lie);
    links_apart = h.links_apart;
    values_apart = h.values_apart;
  }

-- ---- the calls

module _ (m : Memory) (h : Tidy m) where
  abbrev with_nodes : List NodeEntry → Memory
  with_nodes l = memory m.ynd l m.links m.junctions m.heights m.refs

  pub put_node_tidy : (p : ℕ) (x : PathNode) → Tidy (with_nodes (put_node m.ynd m.nodes p x).list)
  unfolding put_node node_entry range_kept
  put_node_tidy p x = by_entry (λ l. Tidy (with_nodes l)) (node_entry m.ynd m.nodes p)
      (range_kept (node_as_entry x)) no_entry m.nodes h (λ i e.
      let k = entry_told (over_limit m.ynd) m.ynd.node_count (length m.nodes) lent.Nodes p i e in
      nodes_stored m h i (range_kept (node_as_entry x) (get_or m.nodes i no_entry)) (omega (arith, k.1, k.2)) refl
      refl)

  pub set_position_tidy : (p : ℕ) (at : Vec3) → Tidy (with_nodes (set_position m.ynd m.nodes p at).list)
  unfolding set_position node_entry
  set_position_tidy p at = by_entry (λ l. Tidy (with_nodes l)) (node_entry m.ynd m.nodes p)
      (moved_to (dequantised (quantised at))) no_entry m.nodes h (λ i e.
      let k = entry_told (over_limit m.ynd) m.ynd.node_count (length m.nodes) lent.Nodes p i e in
      nodes_stored m h i (moved_to (dequantised (quantised at)) (get_or m.nodes i no_entry))
      (omega (arith, k.1, k.2)) refl refl)

  abbrev with_junctions : List JunctionEntry → Memory
  with_junctions l = memory m.ynd m.nodes m.links l m.heights m.refs

  pub put_junction_tidy : (p : ℕ) (j : PathJunction) → Tidy (with_junctions (put_junction m.ynd m.junctions p j).list)
  unfolding put_junction
  put_junction_tidy p j =
      by_entry (λ l. Tidy (with_junctions l))
      (sized_entry (over_limit m.ynd) m.ynd.junction_count (length m.junctions) p (j.width * j.height)
      (value_range m.junctions p).count)
      (λ old. start_at (junction_as_entry j) old.heightmap_ptr) no_map m.junctions h (λ i e.
      let k = sized_told (over_limit m.ynd) m.ynd.junction_count (length m.junctions) p (j.width * j.height)
      (value_range m.junctions p).count i e in
      let old = get_or m.junctions i no_map in
      junctions_stored m h i (start_at (junction_as_entry j) old.heightmap_ptr) (omega (arith, k.1, k.2)) refl
      (k.3 ∙ ap (λ (q : ℕ). value_count (get_or m.junctions q no_map)) (sym k.0)))

  pub put_link_tidy : (p k : ℕ) (x : PathLink) → Tidy
      (memory m.ynd m.nodes (put_link m.ynd m.nodes m.links p k x).list m.junctions m.heights m.refs)
  unfolding put_link
  put_link_tidy p k x = by_entry (λ l. Tidy (memory m.ynd m.nodes l m.junctions m.heights m.refs))
      (link_entry m.ynd m.nodes (length m.links) p k) (λ old. x) no_link m.links h (λ i e.
      links_stored_law m h (set m.links i x) (length-set m.links i x))

  pub put_ref_tidy : (p : ℕ) (r : NodeJunctionRef) → Tidy
      (memory m.ynd m.nodes m.links m.junctions m.heights (put_ref m.ynd m.refs p r).list)
  unfolding put_ref
  put_ref_tidy p r = by_entry (λ l. Tidy (memory m.ynd m.nodes m.links m.junctions m.heights l))
      (ref_entry m.ynd m.refs p) (λ old. r) no_ref m.refs h (λ i e.
      refs_stored m h (set m.refs i r) (length-set m.refs i r))

  pub put_height_tidy : (p k v : ℕ) → Tidy
      (memory m.ynd m.nodes m.links m.junctions (put_height m.ynd m.junctions m.heights p k v).list m.refs)
  unfolding put_height
  put_height_tidy p k v = by_entry (λ l. Tidy (memory m.ynd m.nodes m.links m.junctions l m.refs))
      (height_entry m.ynd m.junctions (length m.heights) p k) (λ x. v) 0 m.heights h (λ i e.
      heights_stored m h (set m.heights i v) (length-set m.heights i v))
