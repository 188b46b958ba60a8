-- Renumbering in memory renumbers the cell that the memory holds.
-- Assumes nothing.
use Prim.Native.Nat.{ℕ, suc, ◌≤◌, ◌<◌}
use native.Mathlib.Omega.{arith}
use mathlib.Core.Path.{◌≡◌, refl, ap, sym, ◌∙◌}
use mathlib.Core.Bool.{Bool}
use mathlib.Core.List.{List, [], ◌∷◌, ◌++◌, map}
use lib.ListN.{length, get_or, take, drop, length-map, length-append, length-drop}
use lib.Seq.{take_at, length-take-le}
use lib.ListN.{get_or-append}
use Rattle.cells.specs.Order.{keep, parted, Old, new_place, new_places}
use Rattle.cells.specs.Nodes.{is_ped, numbered, number_from, reordered, first_area, old_of}
use Rattle.cells.specs.Nodes.{relinked, rereffed}
use Rattle.cells.specs.Renumber.{over, vehicles, peds, renumber_lists, recounted, new_lists, renumber_memory}
use Rattle.cells.specs.Renumber.{answer_of, left_by, renumber}
use Rattle.cells.specs.RenumberParts.{Room}
use lib.Dec.{ltb}
use borrow.Author.Tests.{ltb-false}
use Rattle.cells.proofs.Sequences.Tests.{by_test, map_keep}
use Rattle.std.proofs.lemmas.List.{take-map, drop-map, map-append}
use Rattle.cells.proofs.Forms.Limits.{within}
use Rattle.cells.proofs.Reading.Fits.{whole}
use Rattle.cells.proofs.Renumbering.Parted.{places_length, places_at}
use Rattle.cells.proofs.Renumbering.Parted as any
pub use Rattle.cells.proofs.Renumbering.Reordered.{number_length}
use Rattle.cells.specs.Cell.{Node, is_ped_node, is_vehicle_node, first_of, old_nodes, renode}
use Rattle.cells.specs.Cell.{number_nodes, renumber_cell, ped_flags}
use Rattle.cells.specs.Memory.{Memory, over_limit, short}
use Rattle.cells.specs.CellOf.{node_with, nodes_of, junctions_of, refs_of, cell_of}
use Rattle.cells.specs.Cell.{body_of}
use Rattle.std.specs.Prelude.{Ok, Err}
use Rattle.numbers.specs.Refusals.{Answer, unless}
use Rattle.numbers.specs.declared.refusal.Refusal.{Refusal}
use Rattle.numbers.proofs.Refusing.{not_refused}
use Rattle.cells.specs.declared.node_entry.NodeEntry.{NodeEntry}
use Rattle.cells.specs.declared.link.PathLink.{PathLink}

pub parted_length : (ns : List NodeEntry) → length (parted is_ped ns) ≡ length ns
parted_length ns = any.parted_length is_ped ns

-- ---- the lists stay as long

over_long : {A : Type 0} (f : List A → List A) (n : ℕ) (l : List A) → length (f (take n l)) ≡ length (take n l)
    → n ≤ length l → length (over f n l) ≡ length l
over_long f n l e h =
    omega (arith, length-append (f (take n l)) (drop n l), e, length-take-le n l h, length-drop n l)

pub reordered_long : (n : ℕ) (nodes : List NodeEntry) → n ≤ length nodes
    → length (number_from 0 (parted is_ped (take n nodes)) ++ drop n nodes) ≡ length nodes
unfolding reordered
reordered_long n nodes h = over_long reordered n nodes
    (number_length 0 (parted is_ped (take n nodes)) ∙ parted_length (take n nodes)) h

pub all_relinked_long : (o : Old) (n : ℕ) (l : List PathLink) → n ≤ length l
    → length (over (map (relinked o)) n l) ≡ length l
all_relinked_long o n l h = over_long (map (relinked o)) n l (length-map (take n l) (relinked o)) h

-- what an accepted call has room for
pub accepted : (m : Memory) (scratch places : ℕ)
    → answer_of (over_limit m.ynd) m.ynd.node_count (short m) scratch places ≡ (Ok tt) → Room m scratch places
unfolding answer_of
accepted m scratch places e =
    by_test (over_limit m.ynd) (λ t. not_refused (rw t at e)) (λ f₀.
    lists _ (short m) refl (rw f₀ at e) (λ f₁.
    by_test (ltb scratch 65536) (λ t. not_refused (rw (f₀, f₁, t) at e)) (λ f₄.
    by_test (ltb places m.ynd.node_count) (λ t. not_refused (rw (f₀, f₁, f₄, t) at e)) (λ f₅.
    let w = whole m f₁ in
    record {
      few = (within m.ynd f₀).0;
      nodes_fit = w.nodes_fit;
      links_fit = w.links_fit;
      refs_fit = w.refs_fit;
      scratch_fits = ltb-false _ _ f₄;
      places_fit = ltb-false _ _ f₅;
    }))))
  where
    lists : {P : Type 0} (next lack : Answer) → short m ≡ lack → unless (short m) next ≡ Ok tt
        → (short m ≡ Ok tt → P) → P
    lists next (Ok _) q d k = k q
    lists next (Err r) q d k = not_refused (rw q at d)

-- a node with another number is the node, but for the number
node_new : (o : Old) (ls : List PathLink) (k : ℕ) (n : NodeEntry)
    → node_with (map (relinked o) ls) (numbered k n) ≡ renode o k (node_with ls n)
node_new o ls k n = λ i. record {
  area = n.area_id;
  number = k;
  links = (ap (take n.link_count) (drop-map (relinked o) n.link_id ls)
      ∙ take-map (relinked o) n.link_count (drop n.link_id ls)) i;
  body = body_of n;
}

nodes_new : (o : Old) (ls : List PathLink) (k : ℕ) (ws : List NodeEntry)
    → map (node_with (map (relinked o) ls)) (number_from k ws) ≡ number_nodes o k (map (node_with ls) ws)
unfolding number_from number_nodes
nodes_new o ls k [] = refl
nodes_new o ls k (w ∷ ws) = λ i. node_new o ls k w i ∷ nodes_new o ls (suc k) ws i

parted_new : (ls : List PathLink) (ws : List NodeEntry) → parted is_ped_node (map (node_with ls) ws)
    ≡ map (node_with ls) (parted is_ped ws)
unfolding parted is_ped
parted_new ls ws = rw (map-append, map_keep, map_keep)

pub old_same : (ls : List PathLink) (n : ℕ) (nodes : List NodeEntry) → old_of n nodes
    ≡ old_nodes (map (node_with ls) (take n nodes))
unfolding old_of first_area is_ped
old_same ls n nodes = λ i. record {
  area = area (take n nodes) i;
  numbers = each (λ x. x.number) (take n nodes) i;
  peds = each is_ped_node (take n nodes) i;
}
  where
    area : (ws : List NodeEntry) → first_area ws ≡ first_of (map (node_with ls) ws)
    area [] = refl
    area (w ∷ ws) = refl

    each : {B : Type 0} (f : Node → B) (ws : List NodeEntry) → map (λ w. f (node_with ls w)) ws
        ≡ map f (map (node_with ls) ws)
    each f [] = refl
    each {B} f (w ∷ ws) = ap {B = List B} (λ t. f (node_with ls w) ∷ t) (each f ws)

-- the front of what is stored over the front
front : {A : Type 0} (f : List A → List A) (n : ℕ) (l : List A) → length (f (take n l)) ≡ n → take n (over f n l)
    ≡ f (take n l)
front f n l e = take_at (f (take n l)) (drop n l) n e

module _ (m : Memory) (ps : List ℕ) {s : ℕ}
    (room : Room m s (length ps)) where
  abbrev n : ℕ
  n = m.ynd.node_count

  abbrev o : Old
  o = old_of n m.nodes

  abbrev ls : List PathLink
  ls = take m.ynd.link_count m.links

  abbrev ns : List NodeEntry
  ns = take n m.nodes

  mapped_long : {A : Type 0} (f : A → A) (k : ℕ) (l : List A) → k ≤ length l → length (map f (take k l)) ≡ k
  mapped_long f k l h = length-map (take k l) f ∙ length-take-le k l h

  new_links : take m.ynd.link_count (renumber_memory m ps).links ≡ map (relinked o) ls
  unfolding renumber_memory new_lists renumber_lists
  new_links = front (map (relinked o)) m.ynd.link_count m.links
      (mapped_long (relinked o) m.ynd.link_count m.links room.links_fit)

  new_refs : take m.ynd.ref_count (renumber_memory m ps).refs ≡ map (rereffed o) (take m.ynd.ref_count m.refs)
  unfolding renumber_memory new_lists renumber_lists
  new_refs = front (map (rereffed o)) m.ynd.ref_count m.refs
      (mapped_long (rereffed o) m.ynd.ref_count m.refs room.refs_fit)

  ordered_long : length (parted is_ped ns) ≡ n
  ordered_long = parted_length ns ∙ length-take-le n m.nodes room.nodes_fit

  front_nodes : take n (renumber_memory m ps).nodes ≡ number_from 0 (parted is_ped ns)
  unfolding renumber_memory new_lists renumber_lists reordered
  front_nodes = front reordered n m.nodes (number_length 0 (parted is_ped ns) ∙ ordered_long)

  new_nodes : map (node_with (map (relinked o) ls)) (number_from 0 (parted is_ped ns))
      ≡ number_nodes o 0 (parted is_ped_node (map (node_with ls) ns))
  new_nodes = nodes_new o ls 0 (parted is_ped ns)
      ∙ ap (number_nodes o 0) (sym (parted_new ls ns))

  counted : (t : Node → Bool) → length (keep (λ w. t (node_with ls w)) ns) ≡ length (keep t (map (node_with ls) ns))
  counted t = rw (map_keep, length-map)

  pub renumber_memory_law : cell_of (renumber_memory m ps) ≡ renumber_cell (cell_of m)
  unfolding cell_of nodes_of refs_of junctions_of renumber_cell recounted vehicles peds is_ped
      renumber_memory
  renumber_memory_law = whole (old_same ls n m.nodes)
    where
      whole : o ≡ old_nodes (map (node_with ls) ns) → cell_of (renumber_memory m ps) ≡ renumber_cell (cell_of m)
      whole e = λ i. record {
        nodes = ((λ j. map (node_with (new_links j)) (front_nodes j)) ∙ new_nodes
            ∙ ap (λ (x : Old). number_nodes x 0 (parted is_ped_node (map (node_with ls) ns))) e) i;
        junctions = junctions_of m;
        refs = (new_refs ∙ ap (λ (x : Old). map (rereffed x) (take m.ynd.ref_count m.refs)) e) i;
        vehicles = counted is_vehicle_node i;
        peds = counted is_ped_node i;
        vft = m.ynd.vft;
        words = m.ynd.unknowns;
      }

abbrev pub answer_for : Memory → List ℕ → ℕ → Answer
answer_for m ps s = answer_of (over_limit m.ynd) m.ynd.node_count (short m) s (length ps)

-- a call that is done renumbers the cell, and one that is refused leaves the memory as it was
pub done_call : (m : Memory) (ps : List ℕ) (s : ℕ) → (renumber m s ps).answer ≡ (Ok tt)
    → cell_of (renumber m s ps).memory ≡ renumber_cell (cell_of m)
unfolding renumber
done_call m ps s e = go (answer_for m ps s) refl e
  where
    go : (a : Answer) → answer_for m ps s ≡ a → (left_by a m ps).answer ≡ (Ok tt) → cell_of (left_by a m ps).memory
        ≡ renumber_cell (cell_of m)
    go (Ok tt) d t = renumber_memory_law m ps (accepted m s (length ps) d)
    go (Err x) d t = cc

pub refused_call : (m : Memory) (ps : List ℕ) (s : ℕ) (x : Refusal) → (renumber m s ps).answer ≡ Err x
    → (renumber m s ps).memory ≡ m
unfolding renumber
refused_call m ps s x e = go (answer_for m ps s) e
  where
    go : (a : Answer) → (left_by a m ps).answer ≡ Err x → (left_by a m ps).memory ≡ m
    go (Ok tt) t = cc
    go (Err y) t = refl

-- an accepted renumbering is of at most 65,536 nodes
pub done_few : (m : Memory) (ps : List ℕ) (s : ℕ) → (renumber m s ps).answer ≡ (Ok tt) → length (cell_of m).nodes
    ≤ 65536
unfolding renumber cell_of nodes_of
done_few m ps s e = go (answer_for m ps s) refl e
  where
    go : (a : Answer) → answer_for m ps s ≡ a → (left_by a m ps).answer ≡ (Ok tt)
        → length (map (node_with (take m.ynd.link_count m.links)) (take m.ynd.node_count m.nodes))
        ≤ 65536
    go (Ok tt) d t =
        let r = accepted m s (length ps) d in
        omega (
          arith,
          length-map (take m.ynd.node_count m.nodes)
              (node_with (take m.ynd.link_count m.links)),
          length-take-le m.ynd.node_count m.nodes
              r.nodes_fit,
          r.few,
        )
    go (Err x) d t = cc

-- ---- the lent list of new places

-- an accepted call fills it with where each node goes, as lists of calls move it
pub places_tell : (m : Memory) (ps : List ℕ) (s : ℕ) → (renumber m s ps).answer ≡ (Ok tt) → (p : ℕ) → p
    < length (cell_of m).nodes
    → get_or (renumber m s ps).places p 0 ≡ new_place (ped_flags (cell_of m).nodes) p
unfolding renumber new_lists renumber_lists cell_of nodes_of old_of
places_tell m ps s e p lt = go (answer_for m ps s) refl e
  where
    n : ℕ
    n = m.ynd.node_count

    flags : List Bool
    flags = map is_ped (take n m.nodes)

    go : (a : Answer) → answer_for m ps s ≡ a → (left_by a m ps).answer ≡ (Ok tt)
        → get_or (left_by a m ps).places p 0 ≡ new_place (ped_flags (cell_of m).nodes) p
    go (Err x) d t = cc
    go (Ok tt) d t =
        let same : flags ≡ ped_flags (nodes_of m) = ap (λ (o : Old). o.peds)
        (old_same (take m.ynd.link_count m.links) n m.nodes) in
        let long : length (ped_flags (nodes_of m)) ≡ length (nodes_of m) = length-map (nodes_of m) is_ped_node in
        let inside : p < length flags = omega (arith, ap length same, long, lt) in
        get_or-append (new_places flags) (drop n ps) 0 p
        (let q : p < length (new_places flags) = omega (arith, places_length flags) in q)
        ∙ places_at flags p inside
        ∙ ap (λ (x : List Bool). new_place x p) same
