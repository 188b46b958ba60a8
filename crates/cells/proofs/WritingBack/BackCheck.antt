-- Reading back what an accepted writing wrote is refused exactly as `back_check` says: with 7, and never for the file.
use Prim.Native.Nat.{ℕ, zero, suc, ◌+◌, ◌*◌, ◌/◌, ◌≤◌, ◌<◌}
use native.Mathlib.Omega.{arith}
use native.Mathlib.Nat.{zero-add}
use mathlib.Core.Path.{◌≡◌, refl, ap, ◌∙◌}
use mathlib.Core.Bool.{Bool, true, false}
use mathlib.Core.List.{List, [], ◌∷◌}
use lib.Dec.{ltb}
use lib.ListN.{length, get_or, take, length-append}
use borrow.Author.Tests.{le-ltb}
use Rattle.records.specs.Sections.{bytes_of}
use Rattle.records.specs.Records.{node_at, junction_at, junction_bytes}
use Rattle.records.specs.Put.{joined}
use Rattle.records.proofs.RecordBack.{junction_back, junction_length}
use Rattle.records.specs.declared.section.Part.{Part}
use Rattle.records.specs.declared.root.Root.{Root}
use Rattle.cells.specs.Lists.{sum_to}
use Rattle.cells.specs.Checks.{root_read, too_few, sizes_check, opened, arrays_found, scan, links_at, values_at}
use Rattle.cells.specs.Checks.{bad_node, bad_junction, nodes_scan, junctions_scan, counts_of, arrays_check}
use Rattle.cells.specs.Memory.{Memory, Left, unless}
use Rattle.cells.specs.Read.{filled, if_held, if_found, read_arrays, read_of}
use Rattle.cells.specs.Entries.{links_in, values_in, file_junction}
use Rattle.cells.specs.Nodes.{no_entry, no_map, value_count}
use Rattle.cells.specs.WriteCounts.{Sized}
use Rattle.std.specs.List.{All}
use Rattle.std.proofs.lemmas.List.Elements.{All-get_or}
use Rattle.cells.specs.declared.node_entry.NodeEntry.{NodeEntry}
use Rattle.cells.specs.WriteChecks.{values_within, maps_cut, accepted, check_nodes, check_junctions}
use Rattle.cells.proofs.Writing.CheckTurns.{maps_at}
use Rattle.cells.proofs.Writing.Ranges.{value_count_law}
use Rattle.cells.specs.Blocks.{refs_block, heights_block, junction_record, junctions_block, links_block}
use Rattle.cells.specs.Blocks.{nodes_block, written}
use Rattle.cells.specs.Write.{held, write_call}
use Rattle.cells.specs.WriteRead.{if_read, if_written, write_read_of}
use Rattle.cells.specs.BackCheck.{held_counts, lengths, back_tests, back_check}
use Rattle.cells.specs.declared.counts.Counts.{Counts}
use Rattle.cells.specs.declared.arrays.Arrays.{Arrays}
use Rattle.cells.proofs.Reading.ReadLaws.{part_short}
use Rattle.cells.proofs.Writing.Starts.{start_most}
use Rattle.cells.proofs.Sequences.Joined.{laid_at}
use Rattle.cells.proofs.Writing.BlockLaws.{nodes_length, links_length, junctions_length, refs_length}
use Rattle.cells.proofs.WritingBack.BlocksBack.{junctions_ok, stands_at, junction_in_law}
use Rattle.cells.proofs.WritingBack.BlocksBack.{start_of, start_law, flags_law}
use Rattle.cells.proofs.WritingBack.BlocksBack.{high}
use Rattle.cells.proofs.WritingBack.SectionBack.{Here, long_enough, root_read_law, nodes_here, links_here}
use Rattle.cells.proofs.WritingBack.SectionBack.{junctions_here, heights_here, refs_here}
use Rattle.cells.proofs.WritingBack.WrittenBack.{Told, write_told}
use Rattle.cells.proofs.WritingBack.WrittenFew.{written_few}
use Rattle.std.specs.Prelude.{Result, Ok, Err}
use Rattle.numbers.specs.Refusals.{Answer, refuse_if, unless as otherwise}
use Rattle.numbers.specs.declared.refusal.Refusal.{Refusal}
use Rattle.numbers.specs.declared.refusal.Refusal.TheVariants.{LinksOutside, ValuesOutside, TooManyNodes}
use Rattle.numbers.specs.declared.refusal.Refusal.TheVariants.{TooManyJunctions}
use Rattle.numbers.specs.declared.refusal.Array.TheVariants as array
use Rattle.cells.specs.declared.link.PathLink.{PathLink}
use Rattle.cells.specs.declared.junction_entry.JunctionEntry.{JunctionEntry}

-- ---- scans and sums

pub scan_same : (cause : ℕ → Refusal) (f g : ℕ → Bool) (i k : ℕ) → ((j : ℕ) → j < i + k → f j ≡ g j)
    → scan cause f i k ≡ scan cause g i k
unfolding scan
scan_same cause f g i zero e = refl
scan_same cause f g i (suc k) e = λ q. refuse_if (e i (omega arith) q) (cause i)
    (scan_same cause f g (suc i) k (λ j h. e j (omega arith)) q)

pub scan_none : (cause : ℕ → Refusal) (i k : ℕ) → scan cause (λ j. false) i k ≡ Ok tt
unfolding scan
scan_none cause i zero = refl
scan_none cause i (suc k) = scan_none cause (suc i) k

pub sum_same : (f g : ℕ → ℕ) (n : ℕ) → ((j : ℕ) → j < n → f j ≡ g j) → sum_to f n ≡ sum_to g n
unfolding sum_to
sum_same f g zero e = refl
sum_same f g (suc n) e = λ q. sum_same f g n (λ j h. e j (omega arith)) q + e n (omega arith) q

sum_first : (g : ℕ → ℕ) (n : ℕ) → sum_to g (suc n) ≡ g 0 + sum_to (λ i. g (suc i)) n
unfolding sum_to
sum_first g zero = omega arith
sum_first g (suc n) = omega (arith, sum_first g n)

pub sum_joined : {A B : Type 0} (f : A → List B) (xs : List A) (z : A)
    → sum_to (λ i. length (f (get_or xs i z))) (length xs) ≡ length (joined f xs)
unfolding sum_to joined
sum_joined f [] z = refl
sum_joined f (x ∷ xs) z = omega (
  arith,
  sum_first (λ i. length (f (get_or (x ∷ xs) i z))) (length xs),
  sum_joined f
      xs z,
  length-append (f x) (joined f xs),
)

pub part_ends : {A B : Type 0} (f : A → List B) (xs : List A) (i : ℕ) (z : A) → i < length xs
    → length (joined f (take i xs)) + length (f (get_or xs i z)) ≤ length (joined f xs)
unfolding joined
part_ends f [] i z lt = absurd (omega arith)
part_ends f (x ∷ xs) zero z lt = omega (arith, length-append (f x) (joined f xs))
part_ends f (x ∷ xs) (suc i) z lt = omega (
  arith,
  part_ends f xs i z (omega arith),
  length-append (f x) (joined f xs),
  length-append (f x) (joined f (take i xs)),
)

-- ---- what the records say, with no bound on the entries

module _ (links : List PathLink) (nodes : List NodeEntry)
    (ok : accepted (check_nodes (λ n. length (links_in links n)) 0 0 nodes) ≡ true) where
  abbrev block : List ℕ
  block = nodes_block links nodes

  count_at : (i : ℕ) → i < length nodes → links_at block i ≡ length (links_in links (get_or nodes i no_entry))
  count_at i lt = ap (λ (b : ℕ). b / 8) (flags_law links nodes ok i lt)
      ∙ high (length (links_in links (get_or nodes i no_entry))) (get_or nodes i no_entry).flags5

  start_at : (i : ℕ) → i < length nodes → (node_at block (i * 40)).link_id ≡ start_of links nodes i
  start_at i lt = start_law links nodes ok i lt

  size : length block / 40 ≡ length nodes
  size = omega (arith, nodes_length links nodes)

  pub no_4 : nodes_scan block (links_block links nodes) ≡ Ok tt
  no_4 =
      ap (scan LinksOutside (bad_node block (length (links_block links nodes) / 8)) 0) size
      ∙ scan_same LinksOutside (bad_node block (length (links_block links nodes) / 8)) (λ j. false) 0 (length nodes)
      (λ i h. let lt : i < length nodes = omega arith in
      le-ltb (length (links_block links nodes) / 8) ((node_at block (i * 40)).link_id + links_at block i)
      (let q : (node_at block (i * 40)).link_id + links_at block i ≤ length (links_block links nodes) / 8 = omega (
        arith,
        start_at i lt,
        start_most (length (joined (links_in links) (take i nodes))) (length (links_in links
            (get_or nodes i no_entry))),
        count_at i lt,
        part_ends (links_in links) nodes i no_entry lt,
        links_length links nodes,
      ) in q))
      ∙ scan_none LinksOutside 0 (length nodes)

  pub links_sum : sum_to (links_at block) (length block / 40) ≡ length (joined (links_in links) nodes)
  links_sum = ap (sum_to (links_at block)) size
      ∙ sum_same (links_at block) (λ i. length (links_in links (get_or nodes i no_entry))) (length nodes) count_at
      ∙ sum_joined (links_in links) nodes no_entry

module _ (heights : List ℕ) (js : List JunctionEntry)
    (ok : accepted (check_junctions (λ j. length (values_in heights j)) 0 0 js) ≡ true) (sized : All Sized js) where
  abbrev block_j : List ℕ
  block_j = junctions_block heights js

  junction_record_law : (i : ℕ) → i < length js
      → junction_at block_j (i * 12)
      ≡ file_junction (length (joined (values_in heights) (take i js))) (get_or js i no_map)
  junction_record_law i lt =
      let w = get_or js i no_map in
      let start = length (joined (values_in heights) (take i js)) in
      let low : 0 + start ≤ 65535 = junctions_ok (values_in heights) 0 0 js i ok lt in
      junction_back (file_junction start w) (junction_in_law start w (All-get_or Sized js i no_map lt sized) (omega
      (arith, low))) block_j
      (i * 12)
      (stands_at block_j (junction_record start w) 12 i (junction_length (file_junction start w))
      (laid_at (values_in heights) junction_record 12
      (λ s j. junction_length (file_junction s j)) 0 js i no_map lt
      ∙ ap (λ (s : ℕ). junction_bytes (file_junction s w)) (zero-add start)))

  size_j : length block_j / 12 ≡ length js
  size_j = omega (arith, junctions_length heights js)

  -- no heightmap is cut: all values are written
  module _ (pool : ℕ) (all : maps_cut pool js ≡ false) (lent : pool ≤ length heights) where
    values_all : (i : ℕ) → i < length js → value_count (get_or js i no_map)
        ≡ length (values_in heights (get_or js i no_map))
    unfolding values_within
    values_all i lt = omega (arith, maps_at pool js i no_map all lt, value_count_law heights (get_or js i no_map), lent)

    count_j : (i : ℕ) → i < length js → values_at block_j i ≡ length (values_in heights (get_or js i no_map))
    unfolding file_junction
    count_j i lt = ap (λ r. r.heightmap_dim_x * r.heightmap_dim_y) (junction_record_law i lt) ∙ values_all i lt

    start_j : (i : ℕ) → i < length js → (junction_at block_j (i * 12)).heightmap_ptr
        ≡ length (joined (values_in heights) (take i js))
    unfolding file_junction
    start_j i lt = ap (λ r. r.heightmap_ptr) (junction_record_law i lt)

    pub no_5 : junctions_scan block_j (heights_block heights js) ≡ Ok tt
    no_5 =
        ap (scan ValuesOutside (bad_junction block_j (length (heights_block heights js))) 0) size_j
        ∙ scan_same ValuesOutside (bad_junction block_j (length (heights_block heights js))) (λ j. false) 0 (length js)
        (λ i h. let lt : i < length js = omega arith in
        le-ltb (length (heights_block heights js)) ((junction_at block_j (i * 12)).heightmap_ptr + values_at block_j i)
        (let q : (junction_at block_j (i * 12)).heightmap_ptr + values_at block_j i ≤ length
        (heights_block heights js) = omega
        (arith, start_j i lt, count_j i lt, part_ends (values_in heights) js i no_map lt) in q))
        ∙ scan_none ValuesOutside 0 (length js)

    pub heights_sum : sum_to (values_at block_j) (length block_j / 12) ≡ length (joined (values_in heights) js)
    heights_sum = ap (sum_to (values_at block_j)) size_j
        ∙ sum_same (values_at block_j) (λ i. length (values_in heights (get_or js i no_map))) (length js) count_j
        ∙ sum_joined (values_in heights) js no_map

-- ---- from the section

not_few : (h : Memory) → too_few (length (written h)) ≡ false
not_few h = rw (le-ltb (length (written h)) 112 (long_enough h))

-- what reading finds in the section that h was written as
module _ (h : Memory) (told : Told h) where
  abbrev w : List ℕ
  w = written h

  few : length w ≤ 16777216
  few = written_few h told

  sizes_back : sizes_check (length w) 0 ≡ Ok tt
  unfolding sizes_check
  sizes_back = rw (le-ltb 16777216 (length w) few, not_few h)

  abbrev here : {a count width : ℕ} {b : List ℕ} → Here a count width w b → Part
  here x = x.part

  pub arrays_back : Arrays
  arrays_back = record {
    nodes = here (nodes_here h told.refs_told few);
    links = here (links_here h told.refs_told few);
    junctions = here (junctions_here h told.refs_told few);
    heights = here (heights_here h told.refs_told few);
    refs = here (refs_here h told.refs_told few);
  }

  pub found_back : arrays_found (root_read w) (length w) 0 ≡ Ok arrays_back
  unfolding arrays_found arrays_back
  found_back =
      ap (λ (r : Root). arrays_found r (length w) 0) (root_read_law h told.refs_told few)
      ∙ (λ i.
      opened array.Nodes ((nodes_here h told.refs_told few).is_at i) λ n.
      opened array.Links ((links_here h told.refs_told few).is_at i) λ l.
      opened array.Junctions ((junctions_here h told.refs_told few).is_at i) λ j.
      opened array.Heightmap ((heights_here h told.refs_told few).is_at i) λ t.
      opened array.Refs ((refs_here h told.refs_told few).is_at i) λ f.
      Ok (record { nodes = n; links = l; junctions = j; heights = t; refs = f }))

  abbrev ns : List ℕ
  ns = nodes_block h.links h.nodes

  abbrev ls : List ℕ
  ls = links_block h.links h.nodes

  abbrev hs : List ℕ
  hs = heights_block h.heights h.junctions

  abbrev js : List ℕ
  js = junctions_block h.heights h.junctions

  abbrev rs : List ℕ
  rs = refs_block h.refs

  counts_are : counts_of ns js rs ≡ held_counts h
  counts_are = λ i. record {
    nodes = size h.links h.nodes told.nodes_told i;
    links = links_sum h.links h.nodes told.nodes_told i;
    junctions = size_j h.heights h.junctions told.junctions_told told.sized i;
    heights =
        heights_sum h.heights h.junctions told.junctions_told told.sized h.ynd.heightmap_count told.maps_told
        told.values_lent i;
    refs = (let e : length rs / 8 ≡ length h.refs = omega (arith, refs_length h.refs) in e) i;
  }

  arrays_counted : arrays_check ns ls js hs rs ≡ Ok (held_counts h)
  unfolding arrays_check
  arrays_counted =
      (λ i. refuse_if (ltb 65536 (size h.links h.nodes told.nodes_told i)) TooManyNodes
      (refuse_if (ltb 4096 (size_j h.heights h.junctions told.junctions_told told.sized i)) TooManyJunctions
      (otherwise (no_4 h.links h.nodes told.nodes_told i)
      (otherwise
      (no_5 h.heights h.junctions told.junctions_told told.sized h.ynd.heightmap_count told.maps_told
      told.values_lent i)
      (Ok (counts_are i))))))
      ∙ (λ i. refuse_if (le-ltb 65536 (length h.nodes) told.nodes_few i) TooManyNodes
      (refuse_if (le-ltb 4096 (length h.junctions) told.junctions_few i) TooManyJunctions (Ok (held_counts h))))

  -- the bytes of what is found
  abbrev bytes_here : Part → List ℕ
  bytes_here p = bytes_of p w []

  pub counted_back : arrays_check (bytes_here arrays_back.nodes) (bytes_here arrays_back.links)
      (bytes_here arrays_back.junctions) (bytes_here arrays_back.heights) (bytes_here arrays_back.refs)
      ≡ Ok (held_counts h)
  unfolding arrays_back
  counted_back =
      (λ i. arrays_check ((nodes_here h told.refs_told few).bytes i) ((links_here h told.refs_told few).bytes i)
      ((junctions_here h told.refs_told few).bytes i) ((heights_here h told.refs_told few).bytes i)
      ((refs_here h told.refs_told few).bytes i))
      ∙ arrays_counted

  pub refs_short : length (bytes_here arrays_back.refs) ≤ 16777216
  refs_short = part_short arrays_back.refs w [] 16777216 few (omega arith)

  -- the memory m, into which so much is read
  abbrev filled_by : Counts → Memory → Memory
  filled_by k m =
      filled (root_read w) k (bytes_here arrays_back.nodes) (bytes_here arrays_back.links)
      (bytes_here arrays_back.junctions) (bytes_here arrays_back.heights) (bytes_here arrays_back.refs) m

  abbrev pub filled_back : Memory → Memory
  filled_back m = filled_by (held_counts h) m

  -- reading back, after an accepted writing
  pub read_back : (m : Memory)
      → read_of w [] m ≡ unless (back_check h (lengths m)) m (record { answer = Ok tt; memory = filled_back m })
  unfolding read_of read_arrays back_check
  read_back m =
      ap (λ (c : Answer). unless c m (if_found (arrays_found (root_read w) (length w) 0) m reading)) sizes_back
      ∙ ap (λ (x : Result Arrays Refusal). if_found x m reading) found_back
      ∙ ap (λ (c : Result Counts Refusal). if_held c m held_so) counted_back
    where
      reading : Part → Part → Part → Part → Part → Left
      reading n l j t r =
          read_arrays (root_read w) (bytes_here n) (bytes_here l) (bytes_here j) (bytes_here t) (bytes_here r) m

      held_so : Counts → Left
      held_so k = unless (back_tests k (lengths m)) m (record { answer = Ok tt; memory = filled_by k m })

  pub read_back_done : (m : Memory) → (read_of w [] m).answer ≡ back_check h (lengths m)
  read_back_done m = ap (λ (x : Left). x.answer) (read_back m) ∙ room_done (back_check h (lengths m)) (filled_back m)
    where
      room_done : (c : Answer) (x : Memory) → (unless c m (record { answer = Ok tt; memory = x })).answer ≡ c
      room_done (Ok tt) x = refl
      room_done (Err a) x = refl

-- So no call writes a section that reading refuses, whatever memory it is lent, but for lists that are too short (7).
-- That a junction's sizes have 8 bits is its type's: `write` proves it of what it is lent, and says this with no premise
-- (clause `reads_back`).
pub read_after_write : (m lent : Memory) → All Sized (held m).junctions → (s : List ℕ) (n : ℕ)
    → (write_call m s).answer ≡ Ok n
    → (read_of (take n (write_call m s).section) [] lent).answer ≡ back_tests (held_counts (held m)) (lengths lent)
unfolding back_check
read_after_write m lent sized s n e =
    let w = write_told m sized s n e in
    ap (λ (x : List ℕ). (read_of x [] lent).answer) w.bytes ∙ read_back_done (held m) w.told lent

-- so write-then-read may test first, and write only what will be read back
pub tested_first : (m : Memory) → All Sized (held m).junctions → (s : List ℕ) (n : ℕ) → (write_call m s).answer ≡ Ok n
    → write_read_of m s ≡ if_read n (write_call m s).section (back_check (held m) (lengths m))
    (read_of (written (held m)) [] m).memory m s
unfolding write_read_of
tested_first m sized s n e =
    let t = (write_call m s).section in
    let w = write_told m sized s n e in
    ap (λ (a : Result ℕ Refusal). if_written a t m s) e
    ∙ ap (λ (x : List ℕ). if_read n t (read_of x [] m).answer (read_of x [] m).memory m s) w.bytes
    ∙ ap (λ (c : Answer). if_read n t c (read_of (written (held m)) [] m).memory m s)
    (read_back_done (held m) w.told m)
