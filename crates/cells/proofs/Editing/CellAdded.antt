-- A call that adds an entry adds it to the cell that the memory holds.
use Prim.Native.Nat.{ℕ, zero, suc, ◌+◌, ◌*◌, ◌≤◌, ◌<◌}
use native.Mathlib.Omega.{arith}
use native.Mathlib.Numerals.{add-one}
use mathlib.Core.Path.{◌≡◌, refl, ap, sym, ◌∙◌}
use mathlib.Core.List.{List, [], ◌∷◌, ◌++◌, map}
use lib.ListN.{length, get_or, set, take, drop, length-append, length-drop}
use lib.Seq.{take-suc-set, take-append-le, drop-append-le, take_at, drop_at, take_all, length-take-le, get_or-take}
use Rattle.numbers.specs.Positions.{quantised, dequantised}
use Rattle.numbers.specs.declared.math.Vec3.{Vec3}
use Rattle.records.specs.Put.{put}
use Rattle.records.specs.declared.junction_ref.NodeJunctionRef.{NodeJunctionRef}
use Rattle.cells.specs.declared.link.PathLink.{PathLink}
use Rattle.cells.specs.declared.junction_entry.JunctionEntry.{JunctionEntry}
use Rattle.cells.specs.Nodes.{no_map, value_count}
use Rattle.cells.specs.NodeAccess.{new_node}
use Rattle.cells.specs.EntryForms.{node_as_entry, junction_as_entry}
use Rattle.cells.specs.declared.junction.PathJunction.{PathJunction}
use Rattle.cells.specs.Cell.{Node, Junction}
use Rattle.cells.specs.CellOf.{node_with, junction_with, nodes_of, junctions_of, refs_of}
use Rattle.cells.specs.CellOf.{cell_of}
use Rattle.cells.specs.Memory.{Memory, memory, over_limit}
use Rattle.cells.specs.Edit.{start_at}
use Rattle.cells.specs.Add.{with_counts, more_nodes, more_links, more_refs, more_junctions, room_for}
use Rattle.cells.specs.Add.{room_for_junction, add_node, add_ref, add_junction}
use Rattle.cells.specs.AddLink.{held_at, at_in, inserted, nodes_after, room_for_link, add_link}
use Rattle.cells.specs.EditedCell.{node_from, junction_from, with_nodes, with_refs, with_junctions, link_to}
use Rattle.cells.proofs.Sequences.Tests.{same_map}
use Rattle.std.proofs.lemmas.List.{map-append}
use Rattle.cells.proofs.Editing.AddLaws.{done_memory, room_inside, junction_room}
use Rattle.cells.proofs.Editing.Inserted.{accepted}
use Rattle.cells.proofs.Editing.LinkAdded.{link_added}
use Rattle.std.specs.Prelude.{Ok}
use Rattle.numbers.specs.declared.refusal.Lent.TheVariants as lent
use Rattle.cells.proofs.Editing.Conditions.{Apart, Inside}

-- one entry more behind n
more_held : {A B : Type 0} (f : A → B) (n : ℕ) (l : List A) (x : A) → n < length l
    → map f (take (n + 1) (set l n x)) ≡ map f (take n l) ++ (f x ∷ [])
more_held f n l x h = rw (add-one, take-suc-set l n x h) (map-append f (take n l) (x ∷ []))

more_in : {A : Type 0} (n : ℕ) (l : List A) (x : A) → n < length l → take (n + 1) (set l n x) ≡ take n l ++ (x ∷ [])
more_in n l x h = rw add-one (take-suc-set l n x h)

-- ---- a node

module _ (m : Memory) (area : ℕ) (at : Vec3) where
  abbrev new : Node
  new = node_from [] (node_as_entry (new_node area m.ynd.node_count (dequantised (quantised at))))

  abbrev node_memory : Memory
  node_memory = memory (more_nodes m.ynd)
      (set m.nodes m.ynd.node_count (node_as_entry (new_node area m.ynd.node_count (dequantised (quantised at)))))
      m.links m.junctions m.heights m.refs

  pub node_added : (add_node m area at).answer ≡ (Ok tt) → cell_of (add_node m area at).memory
      ≡ with_nodes ((cell_of m).nodes ++ (new ∷ [])) (cell_of m)
  unfolding add_node cell_of nodes_of junctions_of refs_of with_counts new_node
  node_added e =
      let d = done_memory (room_for (over_limit m.ynd) 65536 m.ynd.node_count (length m.nodes) lent.Nodes) m
      node_memory e in
      let r = room_inside (over_limit m.ynd) 65536 m.ynd.node_count (length m.nodes) lent.Nodes d.0 in
      let ls = take m.ynd.link_count m.links in
      let f = node_with ls in
      let w = node_as_entry (new_node area m.ynd.node_count (dequantised (quantised at))) in
      let g = more_held f m.ynd.node_count m.nodes w r.1 in
      ap cell_of d.1 ∙ (λ i. with_nodes (g i) (cell_of m))

-- ---- a ref

module _ (m : Memory) (r : NodeJunctionRef) where
  abbrev ref_memory : Memory
  ref_memory = memory (more_refs m.ynd) m.nodes m.links m.junctions m.heights
      (set m.refs m.ynd.ref_count r)

  pub ref_added : (add_ref m r).answer ≡ (Ok tt) → cell_of (add_ref m r).memory
      ≡ with_refs ((cell_of m).refs ++ (r ∷ [])) (cell_of m)
  unfolding add_ref cell_of nodes_of junctions_of refs_of with_counts
  ref_added e =
      let d = done_memory (room_for (over_limit m.ynd) 4294967295 m.ynd.ref_count (length m.refs) lent.Refs) m
      ref_memory e in
      let h = room_inside (over_limit m.ynd) 4294967295 m.ynd.ref_count (length m.refs) lent.Refs d.0 in
      let g = more_in m.ynd.ref_count m.refs r h.1 in
      ap cell_of d.1 ∙ (λ i. with_refs (g i) (cell_of m))

-- ---- a link

pub link_call : (m : Memory) (p : ℕ) (x : PathLink) → Apart m.ynd.node_count m.ynd.link_count p m.nodes
    → (add_link m p x).answer ≡ (Ok tt)
    → cell_of (add_link m p x).memory ≡ link_to p x (cell_of m)
unfolding add_link cell_of nodes_of junctions_of refs_of with_counts
link_call m p x apart e =
    let n = m.ynd.node_count in
    let l = m.ynd.link_count in
    let next = memory (more_links m.ynd) (nodes_after n l p m.nodes)
    (inserted (at_in m.nodes p l) l x m.links) m.junctions m.heights m.refs in
    let d = done_memory (room_for_link (over_limit m.ynd) n l p (held_at m.nodes p l) (length m.nodes)
    (length m.links)) m next e in
    let r = accepted (over_limit m.ynd) n l p (held_at m.nodes p l) (length m.nodes) (length m.links) d.0 in
    let g = link_added n l p m.nodes m.links x r.place r.nodes_fit r.links_fit r.few r.one_more apart in
    ap cell_of d.1 ∙ (λ i. with_nodes (g i) (cell_of m))

-- ---- a junction

-- a range that ends inside is the same with more behind
pub part_kept : {A : Type 0} (s c : ℕ) (P X : List A) → (0 < c → s + c ≤ length P) → take c (drop s (P ++ X))
    ≡ take c (drop s P)
part_kept s zero P X h = refl
part_kept s (suc c) P X h =
    let k = h (omega arith) in
    ap (take (suc c)) (drop-append-le s P X (omega arith))
    ∙ take-append-le (suc c) (drop s P) X (omega (arith, length-drop s P))

pool_more : (l : List ℕ) (h : ℕ) (x : List ℕ) → h ≤ length l → take (h + length x) (put l h x) ≡ take h l ++ x
unfolding put
pool_more l h x k =
    take_at (take h l ++ x) (drop (h + length x) l) (h + length x)
    (length-append (take h l) x ∙ ap (λ (t : ℕ). t + length x) (length-take-le h l k))

pub started : (hs : List ℕ) (j : JunctionEntry) (s : ℕ) → junction_with hs (start_at j s)
    ≡ junction_from (take (j.width * j.height) (drop s hs)) j
started hs j s = refl

new_junction : (P vs : List ℕ) (j : JunctionEntry) → length vs ≡ j.width * j.height
    → junction_with (P ++ vs) (start_at j (length P)) ≡ junction_from vs j
new_junction P vs j e = ap (λ (t : List ℕ). junction_from t j)
    (ap (take (j.width * j.height)) (drop_at P vs (length P) refl)
    ∙ take_all (j.width * j.height) vs (omega (arith, e)))

abbrev pub with_values : JunctionEntry → List ℕ → Junction
with_values j vs = junction_from vs j

module _ (m : Memory) (j : PathJunction) (values : List ℕ) where
  abbrev entry : JunctionEntry
  entry = junction_as_entry j

  abbrev n : ℕ
  n = m.ynd.junction_count

  abbrev h : ℕ
  h = m.ynd.heightmap_count

  abbrev pool : List ℕ
  pool = take h m.heights

  others : h ≤ length m.heights → n ≤ length m.junctions → Inside n h m.junctions
      → map (junction_with (pool ++ values)) (take n m.junctions) ≡ map (junction_with pool) (take n m.junctions)
  others fits all inside = same_map (junction_with (pool ++ values)) (junction_with pool) (take n m.junctions) no_map
      (λ q lt.
      let less : q < n = omega (arith, length-take-le n m.junctions all) in
      let w = get_or-take n m.junctions q no_map less in
      rw w (ap (with_values (get_or m.junctions q no_map))
      (part_kept (get_or m.junctions q no_map).heightmap_ptr (value_count (get_or m.junctions q no_map)) pool values
      (λ some. rw (length-take-le h m.heights fits) (inside.inside q less some)))))

  pub junction_added : Inside n h m.junctions → (add_junction m j values).answer ≡ (Ok tt)
      → cell_of (add_junction m j values).memory
      ≡ with_junctions ((cell_of m).junctions ++ (junction_from values entry ∷ [])) (cell_of m)
  unfolding add_junction cell_of nodes_of junctions_of refs_of with_counts
  junction_added inside e =
      let w = start_at entry h in
      let next = memory (more_junctions m.ynd (length values)) m.nodes m.links (set m.junctions n w)
      (put m.heights h values) m.refs in
      let d = done_memory (room_for_junction (over_limit m.ynd) n h (j.width * j.height) (length values)
      (length m.junctions) (length m.heights)) m next e in
      let r = junction_room (over_limit m.ynd) n h (j.width * j.height) (length values) (length m.junctions)
      (length m.heights) d.0 in
      let fits : h ≤ length m.heights = omega (arith, r.heights_fit) in
      let p = pool_more m.heights h values fits in
      let new = ap (λ (s : ℕ). junction_with (pool ++ values) (start_at entry s))
      (sym (length-take-le h m.heights fits)) ∙ new_junction pool values entry r.sized in
      let g = more_held (junction_with (take (h + length values) (put m.heights h values))) n m.junctions w
      r.junctions_fit
      ∙ (λ i. map (junction_with (p i)) (take n m.junctions) ++ (junction_with (p i) w ∷ []))
      ∙ (λ i. others fits (omega (arith, r.junctions_fit)) inside i ++ (new i ∷ [])) in
      ap cell_of d.1 ∙ (λ i. with_junctions (g i) (cell_of m))
