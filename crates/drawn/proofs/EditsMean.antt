-- On a tidy cell an accepted edit is one sentence about the cell, and a refused one leaves all as it was.
-- Assumes nothing but that the arguments fit their types.
use Prim.Native.Nat.{ℕ, ◌+◌, ◌*◌, ◌<◌}
use native.Mathlib.Omega.{arith}
use mathlib.Core.Path.{◌≡◌, refl, ap, sym, ◌∙◌}
use mathlib.Core.Bool.{Bool, cond, ◌&&◌}
use mathlib.Core.Logic.{inl, inr, ⊎_elim}
use mathlib.Core.List.{List, [], ◌∷◌, ◌++◌}
use lib.Dec.{ltb, leb}
use lib.ListN.{length, get_or, set, take, length-map}
use lib.Seq.{length-take-le}
use borrow.Author.Tests.{ltb-true, ltb-false, leb-false}
use Rattle.std.specs.Prelude.{Result, Ok, Err}
use Rattle.numbers.specs.Refusals.{Answer}
use Rattle.numbers.specs.declared.refusal.Refusal.{Refusal}
use Rattle.numbers.specs.declared.refusal.Lent.{Lent}
use Rattle.numbers.specs.declared.refusal.Lent.TheVariants as lent
use Rattle.numbers.specs.Positions.{quantised, dequantised}
use Rattle.numbers.specs.declared.math.Vec3.{Vec3}
use Rattle.cells.specs.declared.range.Range.{Range}
use Rattle.cells.specs.declared.node.PathNode.{PathNode}
use Rattle.cells.specs.declared.link.PathLink.{PathLink}
use Rattle.cells.specs.declared.junction.PathJunction.{PathJunction}
use Rattle.cells.proofs.Editing.Conditions.{link_start, link_count, value_start}
use Rattle.cells.specs.Nodes.{value_count, no_entry, no_map, no_link, no_ref}
use Rattle.cells.specs.NodeAccess.{new_node}
use Rattle.cells.specs.Cell.{Junction}
use Rattle.cells.specs.CellOf.{node_with, junction_with, nodes_of, junctions_of, cell_of}
use Rattle.cells.specs.Memory.{Memory, memory, over_limit}
use Rattle.cells.specs.Edit.{Stored, entry_at, range_entry, sized_entry, held_in, link_range, value_range, start_at}
use Rattle.cells.specs.Edit.{range_kept, node_entry, link_entry, ref_entry, height_entry, change_at}
use Rattle.cells.specs.Edit as stores
use Rattle.cells.specs.Add.{more_nodes, more_links, more_refs, more_junctions, room_for, room_for_junction}
use Rattle.cells.specs.Add as adds
use Rattle.cells.specs.AddLink.{held_at, at_in, inserted, nodes_after, room_for_link}
use Rattle.cells.specs.AddLink as links
use Rattle.cells.specs.PutLinks.{links_after, links_call, links_stored}
use Rattle.cells.specs.PutLinks as whole-links
use Rattle.cells.specs.PutHeightmap.{values_after, map_call, map_stored}
use Rattle.cells.specs.PutHeightmap as whole-maps
use Rattle.cells.specs.Truncate.{fewer}
use Rattle.cells.specs.Truncate as shorter
use Rattle.cells.proofs.Editing.Replacing.{links_room, map_room}
use Rattle.cells.proofs.Editing.CellReplaced.{vft_set, vehicles_set, peds_set, unknowns_set, nodes_truncated}
use Rattle.cells.proofs.Editing.CellReplaced.{junctions_truncated, refs_truncated, links_put_law, heightmap_put_law}
use Rattle.cells.specs.EditedCell.{node_from, junction_from, with_nodes, with_junctions}
use Rattle.cells.specs.EditedCell.{height_changed}
use Rattle.cells.proofs.Sequences.Tests.{by_test}
use Rattle.cells.proofs.Editing.EditLaws.{held_bound, lent_false}
use Rattle.cells.proofs.Editing.AddLaws.{done_memory, room_inside}
use Rattle.cells.proofs.Editing.Inserted.{accepted}
use Rattle.cells.proofs.Editing.CellAdded.{node_added, ref_added, link_call, junction_added}
use Rattle.cells.proofs.Editing.CellStored.{held_at_law, node_put, position_set, ref_put, junction_put}
use Rattle.cells.proofs.Editing.PoolStored.{link_put, height_put}
use Rattle.drawn.specs.Separate.{Separate}
use Rattle.drawn.specs.Tidy.{Tidy}
use Rattle.cells.specs.StoredCell.{junction_at}
use Rattle.drawn.specs.Changes.{Edit, edited}
use Rattle.drawn.specs.Meaning.{edit_cell}
use Rattle.drawn.specs.Changes.{add_node, add_link, add_ref, add_junction}
use Rattle.drawn.specs.Changes.{put_node, set_position, put_link, put_ref, put_junction, put_height}
use Rattle.drawn.specs.Changes.{put_links, put_heightmap, truncate_nodes, truncate_junctions, truncate_refs}
use Rattle.drawn.specs.Changes.{set_vft, set_vehicle_node_count, set_ped_node_count, set_unknowns}
use Rattle.cells.specs.StoredCell.{no_junction}
use Rattle.std.specs.Result.{is_ok}
use Rattle.drawn.specs.Fits.{EditFits}
use Rattle.drawn.proofs.Accepted.{refused_memory}
use Rattle.numbers.proofs.Refusing.{not_refused}
use Rattle.cells.proofs.Editing.Conditions.{Beside, Apart, Inside, Alone}
use Rattle.cells.specs.declared.node_entry.NodeEntry.{NodeEntry}
use Rattle.cells.specs.EntryForms.{junction_as_entry, moved_to, node_as_entry}
use Rattle.records.specs.declared.junction_ref.NodeJunctionRef.{NodeJunctionRef}
use Rattle.cells.specs.declared.junction_entry.JunctionEntry.{JunctionEntry}

-- ---- what the edits' laws ask, from the invariant

module _ (m : Memory) (h : Tidy m) where
  pub tidy_apart : (p : ℕ) → p < m.ynd.node_count → Apart m.ynd.node_count m.ynd.link_count p m.nodes
  tidy_apart p lt =
      let l = m.ynd.link_count in
      let few = (held_bound (link_range m.nodes p) l).1 in
      record {
        inside = λ q hq ne some. h.links_apart.inside q hq some;
        apart = λ q hq ne some held. ⊎_elim (λ k. inl k) (λ k. inr (omega arith))
            (h.links_apart.apart q p hq lt ne some (omega arith));
      }

  pub tidy_inside : Inside m.ynd.junction_count m.ynd.heightmap_count m.junctions
  tidy_inside = record { inside = h.values_apart.inside }

-- the other ranges are inside, and apart from what the owner at p holds
pub tidy_beside : {A : Type 0} (z : A) (start count : A → ℕ) (n l p : ℕ) (owners : List A)
    → Separate (λ q. start (get_or owners q z)) (λ q. count (get_or owners q z)) n l
    → p < n → Beside z start count n l p owners
tidy_beside z start count n l p owners h lt =
    let few = (held_bound (record { start = start (get_or owners p z); count = count (get_or owners p z) }) l).1 in
    record {
      inside = λ q hq ne some. h.inside q hq some;
      apart = λ q hq ne some held.
          ⊎_elim (λ k. inl k) (λ k. inr (omega arith)) (h.apart q p hq lt ne some (omega arith));
    }

-- entry k of the range of p is in no other
pub tidy_alone : {A : Type 0} (z : A) (start count : A → ℕ) (n l p k : ℕ) (owners : List A)
    → Separate (λ q. start (get_or owners q z)) (λ q. count (get_or owners q z)) n l
    → p < n → k < count (get_or owners p z) → Alone z start count n (start (get_or owners p z) + k) p owners
tidy_alone z start count n l p k owners h lt less = record {
  alone = λ q hq ne. by_test (ltb 0 (count (get_or owners q z)))
      (λ t. ⊎_elim (λ z. inl (omega arith)) (λ z. inr (omega arith))
      (h.apart q p hq lt ne (ltb-true _ _ t) (omega arith)))
      (λ f. let none = ltb-false 0 (count (get_or owners q z)) f in by_test
      (ltb (start (get_or owners p z) + k) (start (get_or owners q z)))
      (λ t. inr (ltb-true _ _ t))
      (λ g. inl (omega (arith, ltb-false (start (get_or owners p z) + k) (start (get_or owners q z)) g))));
}

-- ---- what an accepted call tells

entry_place : {A : Type 0} (over : Bool) (n len : ℕ) (list : Lent) (p : ℕ) (f : A → A) (d : A) (l : List A)
    → (change_at (entry_at over n len list p) f d l).answer ≡ (Ok tt) → p < n
unfolding entry_at
entry_place over n len list p f d l e = by_test (leb n p) (λ t. not_refused (rw t at e)) (λ f₀. leb-false n p f₀)

range_place : {A : Type 0} (over : Bool) (n len : ℕ) (list : Lent) (l pool : ℕ) (values : Lent) (p k : ℕ) (r : Range)
    (f : A → A) (d : A) (xs : List A) → (change_at (range_entry over n len list l pool values p r k) f d xs).answer
    ≡ (Ok tt) → (p < n) × (k < r.count)
unfolding range_entry
range_place over n len list l pool values p k r f d xs e =
    by_test (leb n p) (λ t. not_refused (rw t at e)) (λ f₀.
    by_test (ltb p len && leb (held_in r l) k) (λ t. not_refused (rw (f₀, t) at e)) (λ f₁.
    by_test over (λ t. not_refused (rw (f₀, f₁, t) at e)) (λ o.
    by_test (ltb len n) (λ t. not_refused (rw (f₀, f₁, o, t) at e)) (λ f₂.
    let lent : p < len = omega (arith, leb-false n p f₀, ltb-false len n f₂) in
    let held = leb-false (held_in r l) k (lent_false p len (leb (held_in r l) k) lent f₁) in
    (leb-false n p f₀, omega (arith, held, (held_bound r l).1))))))

sized_place : {A : Type 0} (over : Bool) (n len p values held : ℕ) (f : A → A) (d : A) (l : List A)
    → (change_at (sized_entry over n len p values held) f d l).answer ≡ (Ok tt) → p < n
unfolding sized_entry
sized_place over n len p values held f d l e = by_test (leb n p) (λ t. not_refused (rw t at e)) (λ f₀. leb-false n p f₀)

link_place : (m : Memory) (p : ℕ) (x : PathLink) → (links.add_link m p x).answer ≡ (Ok tt) → p < m.ynd.node_count
unfolding links.add_link
link_place m p x e =
    let n = m.ynd.node_count in
    let l = m.ynd.link_count in
    let next = memory (more_links m.ynd) (nodes_after n l p m.nodes)
    (inserted (at_in m.nodes p l) l x m.links) m.junctions m.heights m.refs in
    (accepted (over_limit m.ynd) n l p (held_at m.nodes p l) (length m.nodes) (length m.links)
    (done_memory (room_for_link (over_limit m.ynd) n l p (held_at m.nodes p l) (length m.nodes)
    (length m.links)) m next e).0).place

links_place : (m : Memory) (p : ℕ) (ls : List PathLink) → (whole-links.put_links m p ls).answer ≡ (Ok tt)
    → p < m.ynd.node_count
unfolding whole-links.put_links
links_place m p ls e =
    let c = length ls in
    (links_room (over_limit m.ynd) m.ynd.node_count p c (links_after m p c) (length m.nodes) (length m.links)
    (done_memory (links_call m p c) m (links_stored m p ls) e).0).place

map_place : (m : Memory) (p width height : ℕ) (values : List ℕ)
    → (whole-maps.put_heightmap m p width height values).answer ≡ (Ok tt) → p < m.ynd.junction_count
unfolding whole-maps.put_heightmap
map_place m p width height values e =
    let c = length values in
    (map_room (over_limit m.ynd) m.ynd.junction_count p c (width * height) (values_after m p c) (length m.junctions)
    (length m.heights) (done_memory (map_call m p c (width * height)) m
    (map_stored m p width height values) e).0).place

-- an accepted new node has a place below the limit
pub node_room_told : (m : Memory) (area : ℕ) (at : Vec3) → (adds.add_node m area at).answer ≡ (Ok tt)
    → m.ynd.node_count < 65536
unfolding adds.add_node
node_room_told m area at e =
    (room_inside (over_limit m.ynd) 65536 m.ynd.node_count (length m.nodes) lent.Nodes
    (done_memory (room_for (over_limit m.ynd) 65536 m.ynd.node_count (length m.nodes) lent.Nodes) m _ e).0).0

module _ (m : Memory) (h : Tidy m) where
  pub nodes_many : length (cell_of m).nodes ≡ m.ynd.node_count
  unfolding cell_of nodes_of
  nodes_many = length-map (take m.ynd.node_count m.nodes) (node_with (take m.ynd.link_count m.links))
      ∙ length-take-le m.ynd.node_count m.nodes h.nodes_lie

  pub junctions_many : length (cell_of m).junctions ≡ m.ynd.junction_count
  unfolding cell_of junctions_of
  junctions_many = length-map (take m.ynd.junction_count m.junctions)
      (junction_with (take m.ynd.heightmap_count m.heights))
      ∙ length-take-le m.ynd.junction_count m.junctions h.junctions_lie

  pub junction_is : (p : ℕ) → p < m.ynd.junction_count → junction_with (take m.ynd.heightmap_count m.heights)
      (get_or m.junctions p no_map) ≡ junction_at (cell_of m).junctions p
  unfolding cell_of junctions_of
  junction_is p lt = sym (held_at_law
      (junction_with (take m.ynd.heightmap_count m.heights)) m.ynd.junction_count m.junctions p no_map no_junction lt
      h.junctions_lie)

  -- the place of an accepted store
  node_place : (p : ℕ) (x : PathNode) → (stores.put_node m.ynd m.nodes p x).answer ≡ (Ok tt) → p < m.ynd.node_count
  unfolding stores.put_node node_entry
  node_place p x e = entry_place (over_limit m.ynd) m.ynd.node_count (length m.nodes) lent.Nodes p
      (range_kept (node_as_entry x)) no_entry m.nodes e

  position_place : (p : ℕ) (at : Vec3) → (stores.set_position m.ynd m.nodes p at).answer ≡ (Ok tt)
      → p < m.ynd.node_count
  unfolding stores.set_position node_entry
  position_place p at e = entry_place (over_limit m.ynd) m.ynd.node_count (length m.nodes) lent.Nodes p
      (moved_to (dequantised (quantised at))) no_entry m.nodes e

  link_at : (p k : ℕ) (x : PathLink) → (stores.put_link m.ynd m.nodes m.links p k x).answer ≡ (Ok tt)
      → (p < m.ynd.node_count) × (k < link_count (get_or m.nodes p no_entry))
  unfolding stores.put_link link_entry
  link_at p k x e = range_place (over_limit m.ynd) m.ynd.node_count (length m.nodes) lent.Nodes m.ynd.link_count
      (length m.links) lent.Links p k (link_range m.nodes p) (λ old. x) no_link m.links e

  height_at : (p k v : ℕ) → (stores.put_height m.ynd m.junctions m.heights p k v).answer ≡ (Ok tt)
      → (p < m.ynd.junction_count) × (k < value_count (get_or m.junctions p no_map))
  unfolding stores.put_height height_entry
  height_at p k v e = range_place (over_limit m.ynd) m.ynd.junction_count
      (length m.junctions) lent.Junctions m.ynd.heightmap_count (length m.heights) lent.Heightmap p k
      (value_range m.junctions p) (λ x. v) 0 m.heights e

  junction_place_law : (p : ℕ) (j : PathJunction) → (stores.put_junction m.ynd m.junctions p j).answer ≡ (Ok tt)
      → p < m.ynd.junction_count
  unfolding stores.put_junction
  junction_place_law p j e = sized_place (over_limit m.ynd) m.ynd.junction_count (length m.junctions) p
      (j.width * j.height) (value_range m.junctions p).count
      (λ old. start_at (junction_as_entry j) old.heightmap_ptr) no_map m.junctions e

  -- ---- the edits

  pub edit_means : (e : Edit) → EditFits e → (edited m e).answer ≡ (Ok tt) → cell_of (edited m e).memory ≡ edit_cell e
      (cell_of m)
  unfolding edited
  edit_means (add_node area at) fits e =
      node_added m area at e
      ∙ ap (λ (k : ℕ). with_nodes ((cell_of m).nodes
      ++ (node_from [] (node_as_entry (new_node area k (dequantised (quantised at)))) ∷ [])) (cell_of m))
      (sym nodes_many)
  edit_means (add_link p x) fits e = link_call m p x (tidy_apart m h p (link_place m p x e)) e
  edit_means (add_ref r) fits e = ref_added m r e
  edit_means (add_junction j values) fits e = junction_added m j values (tidy_inside m h) e
  edit_means (put_node p x) fits e = node_put m p x e
  edit_means (set_position p at) fits e = position_set m p at e
  edit_means (put_link p k x) fits e =
      let a = link_at p k x e in
      link_put m p k x (tidy_alone no_entry link_start link_count m.ynd.node_count m.ynd.link_count p k m.nodes
      h.links_apart a.0 a.1) e
  edit_means (put_ref p r) fits e = ref_put m p r e
  edit_means (put_junction p j) fits e =
      junction_put m p j e
      ∙ ap (λ (x : Junction). with_junctions (set (cell_of m).junctions p
      (junction_from x.values (junction_as_entry j))) (cell_of m))
      (junction_is p (junction_place_law p j e))
  edit_means (put_height p k v) fits e =
      let a = height_at p k v e in
      height_put m p k v (tidy_alone no_map value_start value_count m.ynd.junction_count m.ynd.heightmap_count p k
      m.junctions h.values_apart a.0 a.1) e
      ∙ ap (λ (x : Junction). with_junctions (set (cell_of m).junctions p (height_changed k v x)) (cell_of m))
      (junction_is p a.0)
  edit_means (put_links p ls) fits e =
      links_put_law m p ls (tidy_beside no_entry link_start link_count m.ynd.node_count m.ynd.link_count p m.nodes
      h.links_apart (links_place m p ls e)) e
  edit_means (put_heightmap p width height values) fits e =
      heightmap_put_law m p width height values
      (tidy_beside no_map value_start value_count m.ynd.junction_count m.ynd.heightmap_count p m.junctions
      h.values_apart (map_place m p width height values e)) e
  edit_means (truncate_nodes k) fits e = nodes_truncated m k e
  edit_means (truncate_junctions k) fits e = junctions_truncated m k e
  edit_means (truncate_refs k) fits e = refs_truncated m k e
  edit_means (set_vft v) fits e = vft_set m v
  edit_means (set_vehicle_node_count v) fits e = vehicles_set m v
  edit_means (set_ped_node_count v) fits e = peds_set m v
  edit_means (set_unknowns words) fits e = unknowns_set m words

-- ---- a refused edit leaves the memory as it was

stored_same : {A : Type 0} (e : Result ℕ Refusal) (f : A → A) (d : A) (l : List A) (cause : Refusal)
    → (change_at e f d l).answer ≡ Err cause → (change_at e f d l).list ≡ l
stored_same (Ok i) f d l cause e = not_refused (sym e)
stored_same (Err c) f d l cause e = refl

pub edit_refused : (m : Memory) (e : Edit) (cause : Refusal) → (edited m e).answer ≡ Err cause → (edited m e).memory
    ≡ m
unfolding edited adds.add_node links.add_link adds.add_ref adds.add_junction stores.put_node stores.set_position
    stores.put_link stores.put_ref stores.put_junction stores.put_height whole-links.put_links
    whole-maps.put_heightmap shorter.truncate_nodes shorter.truncate_junctions shorter.truncate_refs
edit_refused m (add_node area at) cause e = refused_memory
    (room_for (over_limit m.ynd) 65536 m.ynd.node_count (length m.nodes) lent.Nodes) m _ cause e
edit_refused m (add_link p x) cause e =
    refused_memory (room_for_link (over_limit m.ynd) m.ynd.node_count m.ynd.link_count p
    (held_at m.nodes p m.ynd.link_count) (length m.nodes) (length m.links)) m _ cause e
edit_refused m (add_ref r) cause e = refused_memory
    (room_for (over_limit m.ynd) 4294967295 m.ynd.ref_count (length m.refs) lent.Refs) m _ cause e
edit_refused m (add_junction j values) cause e =
    refused_memory (room_for_junction (over_limit m.ynd) m.ynd.junction_count m.ynd.heightmap_count
    (j.width * j.height) (length values) (length m.junctions) (length m.heights)) m _ cause e
edit_refused m (put_node p x) cause e =
    ap (λ (l : List NodeEntry). memory m.ynd l m.links m.junctions m.heights m.refs)
    (stored_same (node_entry m.ynd m.nodes p) (range_kept (node_as_entry x)) no_entry m.nodes cause e)
edit_refused m (set_position p at) cause e =
    ap (λ (l : List NodeEntry). memory m.ynd l m.links m.junctions m.heights m.refs)
    (stored_same (node_entry m.ynd m.nodes p)
    (moved_to (dequantised (quantised at))) no_entry m.nodes cause e)
edit_refused m (put_link p k x) cause e =
    ap (λ (l : List PathLink). memory m.ynd m.nodes l m.junctions m.heights m.refs)
    (stored_same (link_entry m.ynd m.nodes (length m.links) p k) (λ old. x) no_link m.links cause e)
edit_refused m (put_ref p r) cause e =
    ap (λ (l : List NodeJunctionRef). memory m.ynd m.nodes m.links m.junctions m.heights l)
    (stored_same (ref_entry m.ynd m.refs p) (λ old. r) no_ref m.refs cause e)
edit_refused m (put_junction p j) cause e =
    ap (λ (l : List JunctionEntry). memory m.ynd m.nodes m.links l m.heights m.refs)
    (stored_same (sized_entry (over_limit m.ynd) m.ynd.junction_count (length m.junctions) p (j.width * j.height)
    (value_range m.junctions p).count) (λ old. start_at
    (junction_as_entry j) old.heightmap_ptr) no_map m.junctions cause e)
edit_refused m (put_height p k v) cause e =
    ap (λ (l : List ℕ). memory m.ynd m.nodes m.links m.junctions l m.refs)
    (stored_same (height_entry m.ynd m.junctions (length m.heights) p k) (λ x. v) 0 m.heights cause e)
edit_refused m (put_links p ls) cause e = refused_memory (links_call m p (length ls)) m _ cause e
edit_refused m (put_heightmap p width height values) cause e =
    refused_memory (map_call m p (length values) (width * height)) m _ cause e
edit_refused m (truncate_nodes k) cause e = refused_memory (fewer (over_limit m.ynd) m.ynd.node_count k) m _ cause e
edit_refused m (truncate_junctions k) cause e = refused_memory
    (fewer (over_limit m.ynd) m.ynd.junction_count k) m _ cause e
edit_refused m (truncate_refs k) cause e = refused_memory (fewer (over_limit m.ynd) m.ynd.ref_count k) m _ cause e
edit_refused m (set_vft v) cause e = not_refused (sym e)
edit_refused m (set_vehicle_node_count v) cause e = not_refused (sym e)
edit_refused m (set_ped_node_count v) cause e = not_refused (sym e)
edit_refused m (set_unknowns words) cause e = not_refused (sym e)

-- either way
pub edit_cell_law : (m : Memory) → Tidy m → (e : Edit) → EditFits e → cell_of (edited m e).memory ≡ cond
    (is_ok (edited m e).answer) (edit_cell e (cell_of m)) (cell_of m)
edit_cell_law m h e fits = go (edited m e).answer refl
  where
    go : (a : Answer) → (edited m e).answer ≡ a → cell_of (edited m e).memory ≡ cond (is_ok a)
        (edit_cell e (cell_of m)) (cell_of m)
    go (Ok tt) d = edit_means m h e fits d
    go (Err cause) d = ap cell_of (edit_refused m e cause d)
