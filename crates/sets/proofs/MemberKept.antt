-- What a renumbering or a write-then-read keeps of a cell's memory: the lengths of its lists, how many nodes it has,
-- and that each list is at least as long as its count.
use Rattle.records.specs.Root.{root_of, unknowns_of}
use Rattle.cells.specs.NewYnd.{new_root, new_ynd}
use Prim.Native.Nat.{ℕ, ◌/◌, ◌≤◌}
use native.Mathlib.Omega.{arith}
use mathlib.Core.Path.{◌≡◌, refl, ap, sym, ◌∙◌, subst}
use mathlib.Core.Bool.{false}
use mathlib.Core.List.{List, [], ◌++◌, map, ◌∷◌}
use lib.ListN.{length, take, drop, length-append, length-drop}
use lib.Seq.{length-take-le}
use lib.Dec.{ltb}
use borrow.Author.Tests.{le-ltb, ltb-false}
use Rattle.records.specs.Sections.{located, bytes_of}
use Rattle.records.specs.declared.section.Part.{Part}
use Rattle.records.specs.declared.root.Root.{Root}
use Rattle.cells.specs.Lists.{up_to, join_to}
use Rattle.cells.specs.Checks.{root_read, sizes_check, too_few, arrays_found, opened, arrays_check, counts_of}
use Rattle.cells.specs.Checks.{links_at}
use Rattle.cells.specs.Checks.{values_at}
use Rattle.cells.specs.Memory.{Memory, Left, unless, over_limit, short}
use Rattle.cells.specs.Read.{node_in, links_in, junction_in, values_in, ref_in, room_check, cell_read, filled, if_held}
use Rattle.cells.specs.Read.{if_found, read_arrays, read_of}
use Rattle.cells.specs.Blocks.{refs_block, heights_block, junctions_block, links_block, nodes_block, written}
use Rattle.cells.specs.Write.{held, write_call}
use Rattle.cells.specs.WriteRead.{if_read, if_written, write_read_of}
use Rattle.cells.specs.Nodes.{is_ped, number_from, reordered, old_of, relinked, rereffed}
use Rattle.cells.specs.declared.node_entry.NodeEntry.{NodeEntry}
use Rattle.cells.specs.Order.{parted}
use Rattle.cells.specs.Renumber.{over, recounted, renumber_lists, new_lists, renumber_memory, answer_of, left_by}
use Rattle.cells.specs.Renumber.{renumber}
use Rattle.cells.specs.declared.counts.Counts.{Counts}
use Rattle.cells.proofs.Forms.Limits.{not_over}
use Rattle.cells.proofs.Reading.Fits.{Whole}
use Rattle.cells.proofs.Reading.ReadLaws as laws
use Rattle.cells.proofs.Reading.ReadLaws.{length_up_to, length_join_to, length_links, length_values}
use Rattle.cells.proofs.Renumbering.CellRenumbered.{reordered_long, all_relinked_long}
use Rattle.cells.proofs.Sequences.Tests.{by_test}
use Rattle.cells.proofs.Writing.BlockLaws.{nodes_length}
use Rattle.cells.proofs.WritingBack.SectionBack.{long_enough, root_read_law, nodes_here, links_here, junctions_here}
use Rattle.cells.proofs.WritingBack.SectionBack.{heights_here, refs_here}
use Rattle.cells.proofs.WritingBack.WrittenBack.{write_wrote}
use Rattle.sets.proofs.SetLists.{over_long}
use Rattle.std.specs.Prelude.{Result, Ok, Err, Option}
use Rattle.numbers.specs.Refusals.{Answer}
use Rattle.numbers.proofs.Refusing.{not_refused}
use Rattle.numbers.specs.declared.refusal.Array.TheVariants as array
use Rattle.numbers.specs.declared.refusal.Refusal.{Refusal}

-- the memory m before a call, d after it
pub record Stays (m d : Memory) : Type 0 where
  pub nodes_long : length d.nodes ≡ length m.nodes
  pub links_long : length d.links ≡ length m.links
  pub junctions_long : length d.junctions ≡ length m.junctions
  pub heights_long : length d.heights ≡ length m.heights
  pub refs_long : length d.refs ≡ length m.refs
  pub whole : Whole d
  pub same_nodes : d.ynd.node_count ≡ m.ynd.node_count
  pub within : over_limit d.ynd ≡ false
  pub seven : length d.ynd.unknowns ≡ 7

-- what a call on a member starts from
pub record Ready (m : Memory) : Type 0 where
  pub whole : Whole m
  pub within : over_limit m.ynd ≡ false
  pub seven : length m.ynd.unknowns ≡ 7

pub stays_same : (m : Memory) → Ready m → Stays m m
stays_same m r = record {
  nodes_long = refl;
  links_long = refl;
  junctions_long = refl;
  heights_long = refl;
  refs_long = refl;
  whole = r.whole;
  same_nodes = refl;
  within = r.within;
  seven = r.seven;
}

-- ---- renumbering

pub renumber_stays : (m : Memory) (ps : List ℕ) (s : ℕ) → Ready m → Stays m (renumber m s ps).memory
unfolding renumber renumber_memory new_lists renumber_lists recounted reordered over_limit
renumber_stays m ps s r = go (answer_of (over_limit m.ynd) m.ynd.node_count (short m) s (length ps))
  where
    ns : List NodeEntry
    ns = take m.ynd.node_count m.nodes

    nodes_as : length (number_from 0 (parted is_ped ns) ++ drop m.ynd.node_count m.nodes) ≡ length m.nodes
    nodes_as = reordered_long m.ynd.node_count m.nodes r.whole.nodes_fit

    links_as : length (over (map (relinked (old_of m.ynd.node_count m.nodes))) m.ynd.link_count m.links)
        ≡ length m.links
    links_as = all_relinked_long (old_of m.ynd.node_count m.nodes) m.ynd.link_count m.links r.whole.links_fit

    refs_as : length (over (map (rereffed (old_of m.ynd.node_count m.nodes))) m.ynd.ref_count m.refs) ≡ length m.refs
    refs_as = over_long (rereffed (old_of m.ynd.node_count m.nodes)) m.ynd.ref_count m.refs

    go : (a : Answer) → Stays m (left_by a m ps).memory
    go (Err x) = stays_same m r
    go (Ok tt) = record {
      nodes_long = nodes_as;
      links_long = links_as;
      junctions_long = refl;
      heights_long = refl;
      refs_long = refs_as;
      whole = record {
        nodes_fit = omega (arith, nodes_as, r.whole.nodes_fit);
        links_fit = omega (arith, links_as, r.whole.links_fit);
        junctions_fit = r.whole.junctions_fit;
        heights_fit = r.whole.heights_fit;
        refs_fit = omega (arith, refs_as, r.whole.refs_fit);
      };
      same_nodes = refl;
      within = r.within;
      seven = r.seven;
    }

-- ---- reading back

-- the words that a reading leaves are seven
pub seven_words : (s : List ℕ) → length (root_read s).unknowns ≡ 7
unfolding new_root new_ynd root_of unknowns_of
seven_words [] = refl
seven_words (b ∷ bs) = refl

refused : {P : Type 0} {a : Refusal} → ◌≡◌ {A = Answer} (Err a) (Ok tt) → P
refused e = not_refused e

-- what an accepted reading of five arrays fills
pub record Filled (root : Root) (n l j h r : List ℕ) (m d : Memory) : Type 0 where
  pub is : d ≡ filled root (counts_of n j r) n l j h r m
  pub room : laws.Room (counts_of n j r) (length m.nodes) (length m.links) (length m.junctions) (length m.heights)
      (length m.refs)
  pub limits : laws.Holds n j r (counts_of n j r)

arrays_filled : (root : Root) (n l j h r : List ℕ) (m : Memory) → (read_arrays root n l j h r m).answer ≡ (Ok tt)
    → Filled root n l j h r m (read_arrays root n l j h r m).memory
unfolding read_arrays
arrays_filled root n l j h r m e = go (arrays_check n l j h r) refl e
  where
    room : Counts → Answer
    room k = room_check k (length m.nodes) (length m.links) (length m.junctions) (length m.heights) (length m.refs)

    fill : Counts → Left
    fill k = record { answer = (Ok tt); memory = filled root k n l j h r m }

    inner : (k : Counts) (c : Answer) → room k ≡ c → laws.Holds n j r k → (unless c m (fill k)).answer ≡ (Ok tt)
        → Filled root n l j h r m (unless c m (fill k)).memory
    inner k (Err a) d q t = refused t
    inner k (Ok tt) d q t = record {
      is = ap (λ (x : Counts). filled root x n l j h r m) q.counts;
      room = subst (λ (x : Counts). laws.Room x (length m.nodes) (length m.links) (length m.junctions)
          (length m.heights) (length m.refs)) q.counts (laws.room k _ _ _ _ _ d);
      limits = record { few_nodes = q.few_nodes; few_junctions = q.few_junctions; counts = refl };
    }

    go : (c : Result Counts Refusal) → arrays_check n l j h r ≡ c
        → (if_held c m (λ k. unless (room k) m (fill k))).answer ≡ (Ok tt)
        → Filled root n l j h r m (if_held c m (λ k. unless (room k) m (fill k))).memory
    go (Err a) d t = refused t
    go (Ok k) d t = inner k (room k) refl (laws.holds n l j h r k d) t

filled_stays : (root : Root) (n l j h r : List ℕ) (m d : Memory) → Filled root n l j h r m d
    → length n / 40 ≡ m.ynd.node_count → length root.unknowns ≡ 7 → Stays m d
unfolding filled cell_read
filled_stays root n l j h r m d f e u = subst (Stays m) (sym f.is) (record {
  nodes_long = nodes_as;
  links_long = links_as;
  junctions_long = junctions_as;
  heights_long = heights_as;
  refs_long = refs_as;
  whole = record {
    nodes_fit = omega (arith, nodes_as, f.room.nodes_fit);
    links_fit = omega (arith, links_as, f.room.links_fit);
    junctions_fit = omega (arith, junctions_as, f.room.junctions_fit);
    heights_fit = omega (arith, heights_as, f.room.heights_fit);
    refs_fit = omega (arith, refs_as, f.room.refs_fit);
  };
  same_nodes = e;
  within = not_over _ f.limits.few_nodes f.limits.few_junctions;
  seven = u;
})
  where
    k : Counts
    k = counts_of n j r

    nodes_as : length (up_to (node_in n) (length n / 40) ++ drop (length n / 40) m.nodes) ≡ length m.nodes
    nodes_as = omega (
      arith,
      length-append (up_to (node_in n) k.nodes) (drop k.nodes m.nodes),
      length_up_to
          (node_in n) k.nodes,
      length-drop k.nodes m.nodes,
      f.room.nodes_fit,
    )

    links_as : length (join_to (links_in n l) k.nodes ++ drop k.links m.links) ≡ length m.links
    links_as = omega (
      arith,
      length-append (join_to (links_in n l) k.nodes) (drop k.links m.links),
      length_join_to
          (links_in n l) (links_at n) (length_links n l) k.nodes,
      length-drop k.links m.links,
      f.room.links_fit,
    )

    junctions_as : length (up_to (junction_in j) k.junctions ++ drop k.junctions m.junctions) ≡ length m.junctions
    junctions_as = omega (
      arith,
      length-append (up_to (junction_in j) k.junctions)
          (drop k.junctions m.junctions),
      length_up_to
          (junction_in j) k.junctions,
      length-drop k.junctions m.junctions,
      f.room.junctions_fit,
    )

    heights_as : length (join_to (values_in j h) k.junctions ++ drop k.heights m.heights) ≡ length m.heights
    heights_as = omega (
      arith,
      length-append (join_to (values_in j h) k.junctions)
          (drop k.heights m.heights),
      length_join_to (values_in j h) (values_at j)
          (length_values j h) k.junctions,
      length-drop k.heights m.heights,
      f.room.heights_fit,
    )

    refs_as : length (up_to (ref_in r) k.refs ++ drop k.refs m.refs) ≡ length m.refs
    refs_as = omega (
      arith,
      length-append (up_to (ref_in r) k.refs) (drop k.refs m.refs),
      length_up_to
          (ref_in r) k.refs,
      length-drop k.refs m.refs,
      f.room.refs_fit,
    )

-- an accepted reading is of at most 16,777,216 bytes
read_few : (b : List ℕ) (m : Memory) → (read_of b [] m).answer ≡ (Ok tt) → length b ≤ 16777216
unfolding read_of sizes_check
read_few b m e = by_test (ltb 16777216 (length b)) (λ t. refused (rw t at e)) (λ f. ltb-false 16777216 (length b) f)

-- what was written is found where it was written
module _ (h m : Memory) (few_refs : length h.refs ≤ 65535) (few_bytes : length (written h) ≤ 16777216) where
  abbrev w : List ℕ
  w = written h

  abbrev found_all : Left
  found_all = read_arrays (root_read w) (nodes_block h.links h.nodes) (links_block h.links h.nodes)
      (junctions_block h.heights h.junctions) (heights_block h.heights h.junctions) (refs_block h.refs) m

  not_few : too_few (length w) ≡ false
  not_few = rw (le-ltb (length w) 112 (long_enough h))

  read_back : read_of w [] m ≡ found_all
  unfolding read_of sizes_check arrays_found
  read_back = rw (le-ltb 16777216 (length w) few_bytes, not_few) (go few_bytes)
    where
      reading : Part → Part → Part → Part → Part → Left
      reading n l j t r = read_arrays (root_read w) (bytes_of n w []) (bytes_of l w []) (bytes_of j w [])
          (bytes_of t w []) (bytes_of r w []) m

      by : Option Part → Option Part → Option Part → Option Part → Option Part → Left
      by a b c d f =
          if_found (opened array.Nodes a λ n. opened array.Links b λ l. opened array.Junctions c λ j. opened
          array.Heightmap d λ t. opened array.Refs f λ r. Ok
          (record { nodes = n; links = l; junctions = j; heights = t; refs = r })) m reading

      parts : Root → Left
      parts r =
          by (located r.nodes r.node_count 40 (length w) 0) (located r.links r.link_count 8 (length w) 0)
          (located r.junctions r.junction_count 12 (length w) 0)
          (located r.heightmap r.heightmap_count 1 (length w) 0) (located r.refs r.ref_count 8 (length w) 0)

      go : length w ≤ 16777216 → parts (root_read w) ≡ found_all
      go q =
          let a = nodes_here h few_refs q in
          let b = links_here h few_refs q in
          let c = junctions_here h few_refs q in
          let d = heights_here h few_refs q in
          let f = refs_here h few_refs q in
          ap parts (root_read_law h few_refs q)
          ∙ (λ i. by (a.is_at i) (b.is_at i) (c.is_at i) (d.is_at i) (f.is_at i))
          ∙ (λ i. read_arrays (root_read w) (a.bytes i) (b.bytes i) (c.bytes i) (d.bytes i) (f.bytes i) m)

  back_stays : length h.nodes ≡ m.ynd.node_count → (read_of w [] m).answer ≡ (Ok tt) → Stays m (read_of w [] m).memory
  back_stays e t =
      let n = nodes_block h.links h.nodes in
      let many : length n / 40 ≡ m.ynd.node_count = omega (arith, nodes_length h.links h.nodes, e) in
      subst (λ (l : Left). Stays m l.memory) (sym read_back)
      (filled_stays (root_read w) n (links_block h.links h.nodes) (junctions_block h.heights h.junctions)
      (heights_block h.heights h.junctions) (refs_block h.refs) m found_all.memory
      (arrays_filled (root_read w) n (links_block h.links h.nodes) (junctions_block h.heights h.junctions)
      (heights_block h.heights h.junctions) (refs_block h.refs) m
      (ap (λ (l : Left). l.answer) (sym read_back) ∙ t)) many (seven_words w))

pub write_read_stays : (m : Memory) (s : List ℕ) → Ready m → Stays m (write_read_of m s).memory
unfolding write_read_of held
write_read_stays m s r = go (write_call m s).answer refl
  where
    t : List ℕ
    t = (write_call m s).section

    reading : (n : ℕ) → (write_call m s).answer ≡ Ok n → (c : Answer) → (read_of (take n t) [] m).answer ≡ c
        → Stays m (if_read n t c (read_of (take n t) [] m).memory m s).memory
    reading n d (Err x) e = stays_same m r
    reading n d (Ok tt) e =
        let p = write_wrote m s n d in
        let back : (read_of (written (held m)) [] m).answer ≡ (Ok tt) =
        ap (λ (b : List ℕ). (read_of b [] m).answer) (sym p.bytes) ∙ e in
        subst (λ (b : List ℕ). Stays m (read_of b [] m).memory) (sym p.bytes)
        (back_stays (held m) m p.refs_told (read_few (written (held m)) m back)
        (length-take-le m.ynd.node_count m.nodes r.whole.nodes_fit) back)

    go : (a : Result ℕ Refusal) → (write_call m s).answer ≡ a → Stays m (if_written a t m s).memory
    go (Err x) d = stays_same m r
    go (Ok n) d = reading n d (read_of (take n t) [] m).answer refl
