-- A call that stores an entry replaces it in the cell that the memory holds.
use Rattle.numbers.proofs.Refusing.{not_refused}
use Rattle.std.proofs.lemmas.List.{get_or-map, map-set}
use Prim.Native.Nat.{ℕ, ◌*◌, ◌≤◌, ◌<◌}
use native.Mathlib.Omega.{arith}
use mathlib.Core.Path.{◌≡◌, ap, sym, ◌∙◌}
use mathlib.Core.Bool.{Bool, not, ◌&&◌}
use mathlib.Core.List.{List, map}
use lib.Dec.{eqb, ltb, leb}
use lib.ListN.{length, get_or, set, take, drop}
use lib.Seq.{take-set-lt, length-take-le, get_or-take}
use borrow.Author.Tests.{ltb-false, leb-false, eqb-true, not-false}
use Rattle.numbers.specs.Positions.{quantised, dequantised}
use Rattle.numbers.specs.declared.math.Vec3.{Vec3}
use Rattle.records.specs.declared.junction_ref.NodeJunctionRef.{NodeJunctionRef}
use Rattle.cells.specs.declared.node_entry.NodeEntry.{NodeEntry}
use Rattle.cells.specs.declared.junction_entry.JunctionEntry.{JunctionEntry}
use Rattle.cells.specs.Nodes.{no_entry, no_map, no_ref}
use Rattle.cells.specs.declared.link.PathLink.{PathLink}
use Rattle.cells.specs.EntryForms.{bits_in, moved_to, node_as_entry, junction_as_entry}
use Rattle.cells.specs.declared.node.PathNode.{PathNode}
use Rattle.cells.specs.declared.junction.PathJunction.{PathJunction}
use Rattle.cells.specs.Cell.{Node, no_node, node_at}
use Rattle.cells.specs.CellOf.{node_with, junction_with, nodes_of, junctions_of, refs_of}
use Rattle.cells.specs.CellOf.{cell_of}
use Rattle.cells.specs.Memory.{Memory, memory, over_limit}
use Rattle.cells.specs.Edit.{entry_at, node_entry, ref_entry, change_at, range_kept, put_node, set_position}
use Rattle.cells.specs.Edit.{put_ref, value_range, start_at, sized_entry, put_junction}
use Rattle.cells.specs.EditedCell.{node_from, node_moved, junction_from, with_nodes, with_refs}
use Rattle.cells.specs.EditedCell.{with_junctions}
use Rattle.cells.proofs.Sequences.Tests.{by_test}
use Rattle.cells.proofs.Editing.EditLaws.{lent_false}
use Rattle.cells.proofs.Editing.CellAdded.{started}
use Rattle.std.specs.Prelude.{Ok}
use Rattle.numbers.specs.declared.refusal.Lent.{Lent}
use Rattle.numbers.specs.declared.refusal.Lent.TheVariants as lent

-- ---- an entry stored

pub set_held : {A B : Type 0} (f : A → B) (n : ℕ) (l : List A) (p : ℕ) (x : A) → p < n → map f (take n (set l p x))
    ≡ set (map f (take n l)) p (f x)
set_held f n l p x h = ap (map f) (take-set-lt n l p x h) ∙ map-set f (take n l) p x

pub held_at_law : {A B : Type 0} (f : A → B) (n : ℕ) (l : List A) (p : ℕ) (d : A) (e : B) → p < n → n ≤ length l
    → get_or (map f (take n l)) p e ≡ f (get_or l p d)
held_at_law f n l p d e h fits = get_or-map f (take n l) p d e (omega (arith, length-take-le n l fits))
    ∙ ap f (get_or-take n l p d h)

-- what an accepted call has stored
entry_done : {A : Type 0} (over : Bool) (n : ℕ) (list : Lent) (p : ℕ) (f : A → A) (d : A) (l : List A)
    → (change_at (entry_at over n (length l) list p) f d l).answer ≡ (Ok tt)
    → (p < n) × (n ≤ length l) × ((change_at (entry_at over n (length l) list p) f d l).list
    ≡ set l p (f (get_or l p d)))
unfolding entry_at
entry_done over n list p f d l e =
    by_test (leb n p) (λ t. not_refused (rw t at e)) (λ f₀.
    by_test over (λ t. not_refused (rw (f₀, t) at e)) (λ o.
    by_test (ltb (length l) n) (λ t. not_refused (rw (f₀, o, t) at e)) (λ f₁.
    (leb-false n p f₀, ltb-false (length l) n f₁, rw (f₀, o, f₁)))))

sized_done : {A : Type 0} (over : Bool) (n p values held : ℕ) (f : A → A) (d : A) (l : List A)
    → (change_at (sized_entry over n (length l) p values held) f d l).answer ≡ (Ok tt)
    → (p < n) × (values ≡ held) × (n ≤ length l)
    × ((change_at (sized_entry over n (length l) p values held) f d l).list ≡ set l p (f (get_or l p d)))
unfolding sized_entry
sized_done over n p values held f d l e =
    by_test (leb n p) (λ t. not_refused (rw t at e)) (λ f₀.
    by_test over (λ t. not_refused (rw (f₀, t) at e)) (λ o.
    by_test (ltb p (length l) && not (eqb values held)) (λ t. not_refused (rw (f₀, o, t) at e)) (λ g.
    by_test (ltb (length l) n) (λ t. not_refused (rw (f₀, o, g, t) at e)) (λ f₁.
    let lent : p < length l = omega (arith, leb-false n p f₀, ltb-false (length l) n f₁) in
    let same = not-false (eqb values held) (lent_false p (length l) (not (eqb values held)) lent g) in
    (leb-false n p f₀, eqb-true values held same, ltb-false (length l) n f₁, rw (f₀, o, g, f₁))))))

-- ---- nodes

-- a node at p changed to another
module _ (m : Memory) (p : ℕ) where
  abbrev n : ℕ
  n = m.ynd.node_count

  abbrev ls : List PathLink
  ls = take m.ynd.link_count m.links

  abbrev w : NodeEntry
  w = get_or m.nodes p no_entry

  here : p < n → n ≤ length m.nodes → node_with ls w ≡ node_at (nodes_of m) p
  unfolding nodes_of
  here lt fits = sym (held_at_law (node_with ls) n m.nodes p no_entry no_node lt fits)

  nodes_stored : (x : NodeEntry) (new : Node) → p < n → node_with ls x ≡ new
      → map (node_with ls) (take n (set m.nodes p x)) ≡ set (nodes_of m) p new
  unfolding nodes_of
  nodes_stored x new lt e = set_held (node_with ls) n m.nodes p x lt
      ∙ ap (set (map (node_with ls) (take n m.nodes)) p) e

  pub node_put : (x : PathNode) → (put_node m.ynd m.nodes p x).answer ≡ (Ok tt)
      → cell_of (memory m.ynd (put_node m.ynd m.nodes p x).list m.links m.junctions m.heights m.refs)
      ≡ with_nodes (set (cell_of m).nodes p (node_from (node_at (cell_of m).nodes p).links (node_as_entry x)))
      (cell_of m)
  unfolding put_node node_entry cell_of nodes_of junctions_of refs_of range_kept
  node_put x e =
      let d = entry_done (over_limit m.ynd) n lent.Nodes p (range_kept (node_as_entry x)) no_entry m.nodes e in
      let k = ap (λ (t : Node). node_from t.links (node_as_entry x)) (here d.0 d.1) in
      let g = ap (λ (l : List NodeEntry). map (node_with ls) (take n l)) d.2
      ∙ nodes_stored (range_kept (node_as_entry x) w) (node_from (node_at (nodes_of m) p).links
      (node_as_entry x)) d.0 k in
      λ i. with_nodes (g i) (cell_of m)

  pub position_set : (at : Vec3) → (set_position m.ynd m.nodes p at).answer ≡ (Ok tt)
      → cell_of (memory m.ynd (set_position m.ynd m.nodes p at).list m.links m.junctions m.heights m.refs)
      ≡ with_nodes (set (cell_of m).nodes p (node_moved (bits_in (dequantised (quantised at))) (node_at
      (cell_of m).nodes p)))
      (cell_of m)
  unfolding set_position node_entry cell_of nodes_of junctions_of refs_of
  position_set at e =
      let to = dequantised (quantised at) in
      let d = entry_done (over_limit m.ynd) n lent.Nodes p (moved_to to) no_entry m.nodes e in
      let k = ap (node_moved (bits_in to)) (here d.0 d.1) in
      let g = ap (λ (l : List NodeEntry). map (node_with ls) (take n l)) d.2
      ∙ nodes_stored (moved_to to w) (node_moved (bits_in to) (node_at (nodes_of m) p)) d.0 k in
      λ i. with_nodes (g i) (cell_of m)

-- ---- refs

pub ref_put : (m : Memory) (p : ℕ) (r : NodeJunctionRef) → (put_ref m.ynd m.refs p r).answer ≡ (Ok tt)
    → cell_of (memory m.ynd m.nodes m.links m.junctions m.heights (put_ref m.ynd m.refs p r).list)
    ≡ with_refs (set (cell_of m).refs p r) (cell_of m)
unfolding put_ref ref_entry cell_of nodes_of junctions_of refs_of
ref_put m p r e =
    let d = entry_done (over_limit m.ynd) m.ynd.ref_count lent.Refs p (λ v. r) no_ref m.refs e in
    let g = ap (take m.ynd.ref_count) d.2 ∙ take-set-lt m.ynd.ref_count m.refs p r d.0 in
    λ i. with_refs (g i) (cell_of m)

-- ---- junctions

-- the values of the junction at p stay
abbrev values_at : Memory → ℕ → List ℕ
values_at m p = (junction_with (take m.ynd.heightmap_count m.heights) (get_or m.junctions p no_map)).values

pub junction_put : (m : Memory) (p : ℕ) (j : PathJunction)
    → (put_junction m.ynd m.junctions p j).answer ≡ (Ok tt)
    → cell_of (memory m.ynd m.nodes m.links (put_junction m.ynd m.junctions p j).list m.heights m.refs)
    ≡ with_junctions (set (cell_of m).junctions p (junction_from (values_at m p) (junction_as_entry j))) (cell_of m)
unfolding put_junction cell_of nodes_of junctions_of refs_of
junction_put m p j e =
    let n = m.ynd.junction_count in
    let hs = take m.ynd.heightmap_count m.heights in
    let w = get_or m.junctions p no_map in
    let f = junction_with hs in
    let d = sized_done (over_limit m.ynd) n p (j.width * j.height) (value_range m.junctions p).count
    (λ v. start_at (junction_as_entry j) v.heightmap_ptr) no_map m.junctions e in
    let k = started hs (junction_as_entry j) w.heightmap_ptr
    ∙ ap (λ (c : ℕ). junction_from (take c (drop w.heightmap_ptr hs)) (junction_as_entry j)) d.1 in
    let g = ap (λ (l : List JunctionEntry). map f (take n l)) d.3
    ∙ set_held f n m.junctions p (start_at (junction_as_entry j) w.heightmap_ptr) d.0
    ∙ ap (set (map f (take n m.junctions)) p) k in
    λ i. with_junctions (g i) (cell_of m)
