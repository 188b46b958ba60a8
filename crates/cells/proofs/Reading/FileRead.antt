-- An accepted reading leaves in memory the cell that document 01 defines for the two sections.
-- Assumes nothing: no law needs a bound on the bytes.
use Prim.Native.Nat.{ℕ, zero, suc, ◌*◌, ◌<◌}
use native.Mathlib.Omega.{arith}
use mathlib.Core.Path.{◌≡◌, refl, sym, ap, ◌∙◌, subst}
use mathlib.Core.List.{List, [], ◌∷◌, ◌++◌, map, append-nil}
use lib.ListN.{length, take, drop}
use lib.Seq.{take_at}
use lib.Ieee.{binary32, to_bits}
use Rattle.numbers.specs.Steps.{unstep}
use Rattle.records.specs.Sections.{located, bytes_of, part_bytes, array_at}
use Rattle.records.specs.Records.{node_at, junction_at}
use Rattle.cells.specs.Lists.{up_to, join_to, sum_to}
use Rattle.cells.specs.Paths.{path_node, path_junction}
use Rattle.cells.specs.Checks.{root_read, sizes_check, opened, arrays_found, arrays_check, counts_of, links_at}
use Rattle.cells.specs.Checks.{values_at}
use Rattle.cells.specs.Memory.{Memory, Left, unless}
use Rattle.cells.specs.Read.{links_from, values_from, node_in, links_in, junction_in, values_in, ref_in, room_check}
use Rattle.cells.specs.Read.{cell_read, filled, if_held, if_found, read_arrays, read_of}
use Rattle.cells.specs.CellOf.{node_with, junction_with, nodes_of, junctions_of, refs_of}
use Rattle.cells.specs.CellOf.{cell_of}
use Rattle.cells.specs.FileCell.{file_body, file_node_of, file_junction_of, file_nodes}
use Rattle.cells.specs.FileCell.{file_junctions, file_refs, cell_from, cell_by, file_cell}
use Rattle.records.specs.declared.root.Root.{Root}
use Rattle.records.specs.declared.section.Part.{Part}
use Rattle.cells.specs.declared.counts.Counts.{Counts}
use Rattle.std.proofs.lemmas.List.{map-append}
use Rattle.cells.proofs.Reading.ReadLaws.{length_up_to, length_join_to, own_part, length_links, length_values}
use Rattle.cells.proofs.Reading.ReadLaws.{Holds, holds}
use Rattle.std.specs.Prelude.{Result, Ok, Err, Option, Some, None}
use Rattle.numbers.specs.Refusals.{Answer}
use Rattle.numbers.specs.declared.refusal.Refusal.{Refusal}
use Rattle.numbers.proofs.Refusing.{not_refused}
use Rattle.numbers.specs.declared.refusal.Array.TheVariants as array

-- ---- lists by place

pub up_to_same : {A : Type 0} (f g : ℕ → A) (n : ℕ) → ((i : ℕ) → i < n → f i ≡ g i) → up_to f n ≡ up_to g n
unfolding up_to
up_to_same f g zero e = refl
up_to_same f g (suc n) e = λ k. up_to_same f g n (λ i h. e i (omega arith)) k ++ (e n (omega arith) k ∷ [])

pub map_up_to : {A B : Type 0} (h : A → B) (f : ℕ → A) (n : ℕ) → map h (up_to f n) ≡ up_to (λ i. h (f i)) n
unfolding up_to
map_up_to h f zero = refl
map_up_to {B = B} h f (suc n) = map-append h (up_to f n) (f n ∷ [])
    ∙ ap (λ (l : List B). l ++ (h (f n) ∷ [])) (map_up_to h f n)

-- ---- nodes with their links, junctions with their values

-- each one's own part of the joined lists
own : {A : Type 0} (f : ℕ → List A) (g : ℕ → ℕ) → ((i : ℕ) → length (f i) ≡ g i) → (n i : ℕ) → i < n
    → take (g i) (drop (sum_to g i) (join_to f n)) ≡ f i
own {A = A} f g len n i h = ap (λ (x : List A). take (g i) (drop (sum_to g i) x)) (sym (append-nil (join_to f n)))
    ∙ own_part f g len n i [] h

node_one : (n l : List ℕ) (count i : ℕ) → i < count
    → node_with (join_to (links_in n l) count) (node_in n i) ≡ file_node_of l (node_at n (i * 40))
unfolding node_in path_node links_in links_from
node_one n l count i h =
    let r = node_at n (i * 40) in
    λ k. record {
      area = r.area_id;
      number = r.node_id;
      links = own (links_in n l) (links_at n) (length_links n l) count i h k;
      body = file_body r;
    }

junction_one : (j h : List ℕ) (count i : ℕ) → i < count
    → junction_with (join_to (values_in j h) count) (junction_in j i) ≡ file_junction_of h (junction_at j (i * 12))
unfolding junction_in path_junction values_in values_from
junction_one j h count i lt =
    let r = junction_at j (i * 12) in
    λ k. record {
      x = to_bits binary32 (unstep 2 r.position_x);
      y = to_bits binary32 (unstep 2 r.position_y);
      low = to_bits binary32 (unstep 5 r.min_z);
      high = to_bits binary32 (unstep 5 r.max_z);
      width = r.heightmap_dim_x;
      height = r.heightmap_dim_y;
      values = own (values_in j h) (values_at j) (length_values j h) count i lt k;
    }

-- ---- the whole

front : {A : Type 0} (f : ℕ → A) (n : ℕ) (rest : List A) → take n (up_to f n ++ rest) ≡ up_to f n
front f n rest = take_at (up_to f n) rest n (length_up_to f n)

module _ (root : Root) (n l j h r : List ℕ) (m : Memory) where
  abbrev k : Counts
  k = counts_of n j r

  abbrev left : Memory
  left = filled root k n l j h r m

  links_front : take k.links (join_to (links_in n l) k.nodes ++ drop k.links m.links) ≡ join_to (links_in n l) k.nodes
  links_front = take_at (join_to (links_in n l) k.nodes) (drop k.links m.links) k.links
      (length_join_to (links_in n l) (links_at n) (length_links n l) k.nodes)

  values_front : take k.heights (join_to (values_in j h) k.junctions ++ drop k.heights m.heights)
      ≡ join_to (values_in j h) k.junctions
  values_front = take_at (join_to (values_in j h) k.junctions) (drop k.heights m.heights) k.heights
      (length_join_to (values_in j h) (values_at j) (length_values j h) k.junctions)

  nodes_left_law : nodes_of left ≡ file_nodes n l
  unfolding nodes_of file_nodes filled cell_read
  nodes_left_law =
      let ls = join_to (links_in n l) k.nodes in
      (λ i. map (node_with (links_front i)) (front (node_in n) k.nodes (drop k.nodes m.nodes) i))
      ∙ map_up_to (node_with ls) (node_in n) k.nodes
      ∙ up_to_same (λ i. node_with ls (node_in n i)) (λ i. file_node_of l (node_at n (i * 40))) k.nodes
      (λ i lt. node_one n l k.nodes i lt)

  junctions_left_law : junctions_of left ≡ file_junctions j h
  unfolding junctions_of file_junctions filled cell_read
  junctions_left_law =
      let hs = join_to (values_in j h) k.junctions in
      (λ i. map (junction_with (values_front i)) (front (junction_in j) k.junctions (drop k.junctions m.junctions) i))
      ∙ map_up_to (junction_with hs) (junction_in j) k.junctions
      ∙ up_to_same (λ i. junction_with hs (junction_in j i)) (λ i. file_junction_of h (junction_at j (i * 12)))
      k.junctions (λ i lt. junction_one j h k.junctions i lt)

  refs_left_law : refs_of left ≡ file_refs r
  unfolding refs_of file_refs filled cell_read ref_in
  refs_left_law = front (ref_in r) k.refs (drop k.refs m.refs)

  pub filled_cell : cell_of left ≡ cell_from root n l j h r
  unfolding cell_of cell_from filled cell_read
  filled_cell = λ i. record {
    nodes = nodes_left_law i;
    junctions = junctions_left_law i;
    refs = refs_left_law i;
    vehicles = root.vehicle_node_count;
    peds = root.ped_node_count;
    vft = root.vft;
    words = root.unknowns;
  }

-- what holds of the five arrays of an accepted reading, within the limits of 6, and of the memory filled with them
module _ (s g : List ℕ) (m : Memory) (P : (n l j h r : List ℕ) → Memory → Type 0)
    (each : (n l j h r : List ℕ) → Holds n j r (counts_of n j r)
    → P n l j h r (filled (root_read s) (counts_of n j r) n l j h r m)) where
  abbrev root : Root
  root = root_read s

  arrays_each : (n l j h r : List ℕ) → (read_arrays root n l j h r m).answer ≡ (Ok tt)
      → P n l j h r (read_arrays root n l j h r m).memory
  unfolding read_arrays
  arrays_each n l j h r e = go (arrays_check n l j h r) refl e
    where
      short : Counts → Answer
      short k = room_check k (length m.nodes) (length m.links) (length m.junctions) (length m.heights) (length m.refs)

      fill : Counts → Left
      fill k = record { answer = (Ok tt); memory = filled root k n l j h r m }

      inner : (k : Counts) (c : Answer) → Holds n j r k → (unless c m (fill k)).answer ≡ (Ok tt)
          → P n l j h r (unless c m (fill k)).memory
      inner k (Err a) q t = not_refused t
      inner k (Ok tt) q t = subst (λ (x : Counts). P n l j h r (filled root x n l j h r m)) (sym q.counts)
          (each n l j h r (record { few_nodes = q.few_nodes; few_junctions = q.few_junctions; counts = refl }))

      go : (c : Result Counts Refusal) → arrays_check n l j h r ≡ c
          → (if_held c m (λ k. unless (short k) m (fill k))).answer ≡ (Ok tt)
          → P n l j h r (if_held c m (λ k. unless (short k) m (fill k))).memory
      go (Err a) d t = not_refused t
      go (Ok k) d t = inner k (short k) (holds n l j h r k d) t

  abbrev found : ℕ → ℕ → ℕ → Option Part
  found pointer count size = located pointer count size (length s) (length g)

  abbrev PartsHold : (a b c d f : Option Part) → Memory → Type 0
  PartsHold a b c d f = P (part_bytes a s g) (part_bytes b s g) (part_bytes c s g) (part_bytes d s g)
      (part_bytes f s g)

  read_each : (read_of s g m).answer ≡ (Ok tt)
      → PartsHold (found root.nodes root.node_count 40) (found root.links root.link_count 8)
      (found root.junctions root.junction_count 12)
      (found root.heightmap root.heightmap_count 1) (found root.refs root.ref_count 8) (read_of s g m).memory
  unfolding read_of arrays_found
  read_each e = sizes (sizes_check (length s) (length g)) e
    where
      reading : Part → Part → Part → Part → Part → Left
      reading n l j h r = read_arrays root (bytes_of n s g) (bytes_of l s g) (bytes_of j s g) (bytes_of h s g)
          (bytes_of r s g) m

      by : Option Part → Option Part → Option Part → Option Part → Option Part → Left
      by a b c d f =
          if_found (opened array.Nodes a λ n. opened array.Links b λ l. opened array.Junctions c λ j. opened
          array.Heightmap d λ h. opened array.Refs f λ r. Ok
          (record { nodes = n; links = l; junctions = j; heights = h; refs = r })) m reading

      arrays : (a b c d f : Option Part) → (by a b c d f).answer ≡ (Ok tt) → PartsHold a b c d f (by a b c d f).memory
      arrays None b c d f t = not_refused t
      arrays (Some n) None c d f t = not_refused t
      arrays (Some n) (Some l) None d f t = not_refused t
      arrays (Some n) (Some l) (Some j) None f t = not_refused t
      arrays (Some n) (Some l) (Some j) (Some h) None t = not_refused t
      arrays (Some n) (Some l) (Some j) (Some h) (Some r) t = arrays_each (bytes_of n s g) (bytes_of l s g)
          (bytes_of j s g) (bytes_of h s g) (bytes_of r s g) t

      sizes : (c : Answer) → (unless c m (if_found (arrays_found (root_read s) (length s) (length g)) m
          reading)).answer ≡ (Ok tt)
          → PartsHold (found root.nodes root.node_count 40) (found root.links root.link_count 8)
          (found root.junctions root.junction_count 12)
          (found root.heightmap root.heightmap_count 1) (found root.refs root.ref_count 8)
          (unless c m (if_found (arrays_found (root_read s) (length s) (length g)) m reading)).memory
      sizes (Err a) t = not_refused t
      sizes (Ok tt) t =
          arrays (found root.nodes root.node_count 40) (found root.links root.link_count 8)
          (found root.junctions root.junction_count 12)
          (found root.heightmap root.heightmap_count 1) (found root.refs root.ref_count 8) t

-- the first cell: what an accepted reading of two sections leaves in the memory lent to it
pub read_cell : (s g : List ℕ) (m : Memory) → (read_of s g m).answer ≡ (Ok tt) → cell_of (read_of s g m).memory
    ≡ file_cell s g
unfolding file_cell cell_by array_at
read_cell s g m e =
    read_each s g m (λ n l j h r x. cell_of x ≡ cell_from (root_read s) n l j h r)
    (λ n l j h r q. filled_cell (root_read s) n l j h r m) e

-- what holds of whatever five arrays, within the limits of 6, fill the memory with holds after an accepted reading
module _ (P : Memory → Type 0) (s g : List ℕ) (m : Memory)
    (each : (n l j h r : List ℕ) → Holds n j r (counts_of n j r)
    → P (filled (root_read s) (counts_of n j r) n l j h r m)) where
  pub read_all : (read_of s g m).answer ≡ (Ok tt) → P (read_of s g m).memory
  read_all e = read_each s g m (λ n l j h r x. P x) each e
