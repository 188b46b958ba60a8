-- Two pairs of sections that agree are read alike.
-- Assumes nothing.
use Rattle.numbers.specs.declared.refusal.Refusal.TheVariants.{TooManyNodes, TooManyJunctions, LinksOutside}
use Rattle.numbers.specs.declared.refusal.Refusal.TheVariants.{ValuesOutside}
use mathlib.Core.List.{[], ◌∷◌, ◌++◌}
use mathlib.Core.Path.{ap}
use Prim.Native.Nat.{◌+◌, ◌*◌, ◌/◌}
use Rattle.numbers.specs.Refusals.{when, done, decided, each}
use Rattle.agreement.proofs.SameReads.{raw_nodes, raw_junctions, filled_same}
use Rattle.records.specs.declared.junction.NodeJunction.{NodeJunction}
use Rattle.records.specs.declared.node.Node as raw-node
use Rattle.records.specs.Records.{node_at, junction_at}
use Rattle.cells.specs.Lists.{sum_to}
use Rattle.cells.specs.Memory.{refuse}
use Rattle.cells.specs.Read.{filled}
use Rattle.cells.specs.Memory.{room_causes}
use Rattle.cells.proofs.Reading.Listed.{count_listed, read_listed}
use Rattle.cells.specs.FileCauses.{file_causes, file_counts, read_causes, file_read, lost}
use Prim.Native.Nat.{ℕ, ◌≤◌, ◌<◌}
use native.Mathlib.Omega.{arith}
use mathlib.Core.Path.{◌≡◌, refl, sym, ◌∙◌}
use mathlib.Core.Bool.{Bool, true, false}
use mathlib.Core.Logic.{inl, inr}
use mathlib.Core.List.{List}
use lib.Dec.{ltb}
use lib.ListN.{length}
use borrow.Author.Tests.{lt-ltb, ne_eqb}
use Rattle.std.proofs.lemmas.Bool.{cases_lt}
use Rattle.records.specs.Sections.{located, bytes_of, part_bytes, array_at}
use Rattle.records.specs.declared.root.Root.{Root}
use Rattle.records.specs.declared.section.Part.{Part}
use Rattle.cells.specs.Checks.{root_read, too_few, sizes_check, arrays_found, count_of}
use Rattle.cells.specs.Memory.{Memory, Left, unless}
use Rattle.cells.proofs.Reading.Undrawn.{root_drawn}
use Rattle.cells.specs.Read.{if_found, read_arrays, read_of}
use Rattle.agreement.specs.Agree.{SameArrays, Agree}
use Rattle.cells.specs.FileCauses.{Arrays, arrays_of}
use Rattle.agreement.proofs.SameBytes.{anywhere, part_long}
use Rattle.agreement.proofs.SameRoots.{root_same}
use Rattle.agreement.proofs.SameReads.{Alike, SameRanges, ranges_of}
use Rattle.std.specs.Prelude.{Ok, Err, Option, Some, None}
use Rattle.numbers.specs.Refusals.{Answer, refuse_if, and_then}
use Rattle.numbers.specs.Refusals as numbers
use Rattle.numbers.specs.declared.refusal.Refusal.{Refusal}
use Rattle.numbers.specs.declared.refusal.Refusal.TheVariants.{SystemTooShort, SystemTooLong, GraphicsTooLong}
use Rattle.numbers.specs.declared.refusal.Refusal.TheVariants.{BadArray}
use Rattle.numbers.specs.declared.refusal.Array.TheVariants as array

-- ---- the arrays where a root puts them, in sections of so many bytes

-- where each lies
pub record Places : Type 0 where
  pub nodes : Option Part
  pub links : Option Part
  pub junctions : Option Part
  pub heights : Option Part
  pub refs : Option Part

abbrev pub places_by : Root → ℕ → ℕ → Places
places_by r s g = record {
  nodes = located r.nodes r.node_count 40 s g;
  links = located r.links r.link_count 8 s g;
  junctions = located r.junctions r.junction_count 12 s g;
  heights = located r.heightmap r.heightmap_count 1 s g;
  refs = located r.refs r.ref_count 8 s g;
}

-- from where they lie
abbrev pub reading : Root → Memory → List ℕ → List ℕ → Part → Part → Part → Part → Part → Left
reading root m s g n l j h r = read_arrays root (bytes_of n s g) (bytes_of l s g) (bytes_of j s g) (bytes_of h s g)
    (bytes_of r s g) m

-- ---- a system section of 1 to 111 bytes has no root: 2, 1

abbrev refused_short : ℕ → ℕ → Answer
refused_short s g =
    decided (when (ltb 16777216 s) SystemTooLong ∷ when (ltb 16777216 g) GraphicsTooLong
    ∷ when true SystemTooShort ∷ [])

too_few_of : (s : ℕ) → 0 < s → s < 112 → too_few s ≡ true
too_few_of s some few = rw (lt-ltb s 112 few, ne_eqb s 0 (λ z. absurd (omega arith)))

module _ (s g : List ℕ) (t : too_few (length s) ≡ true) where
  short_read : (m : Memory) → read_of s g m ≡ unless (refused_short (length s) (length g)) m (refuse SystemTooShort m)
  unfolding file_causes
  short_read m = read_listed s g m ∙ rw t (go (ltb 16777216 (length s)) (ltb 16777216 (length g)))
    where
      go : (a b : Bool) → unless (decided (when a SystemTooLong ∷ when b GraphicsTooLong ∷ when true SystemTooShort
          ∷ [])) m (record { answer = done; memory = file_read s g m })
          ≡ unless (decided (when a SystemTooLong ∷ when b GraphicsTooLong ∷ when true SystemTooShort ∷ [])) m
          (refuse SystemTooShort m)
      go true b = refl
      go false true = refl
      go false false = refl

  short_count : count_of s g ≡ numbers.unless (refused_short (length s) (length g)) (Err SystemTooShort)
  unfolding file_causes
  short_count = count_listed s g ∙ rw t (go (ltb 16777216 (length s)) (ltb 16777216 (length g)))
    where
      go : (a b : Bool) → numbers.unless (decided (when a SystemTooLong ∷ when b GraphicsTooLong
          ∷ when true SystemTooShort ∷ [])) (Ok (file_counts s g))
          ≡ numbers.unless (decided (when a SystemTooLong ∷ when b GraphicsTooLong ∷ when true SystemTooShort ∷ []))
          (Err SystemTooShort)
      go true b = refl
      go false true = refl
      go false false = refl

-- ---- the whole, by the root

module _ (s g s' g' : List ℕ) (es : length s ≡ length s') (eg : length g ≡ length g')
    (roots : root_read s ≡ root_read s') where
  abbrev a : Arrays
  a = arrays_of s g

  abbrev b : Arrays
  b = arrays_of s' g'

  located_long : (l : Option Part) → length (part_bytes l s g) ≡ length (part_bytes l s' g')
  located_long (Some p) = part_long p s g s' g' es eg
  located_long None = refl

  long_at : (address count width : ℕ) → length (array_at address count width s g)
      ≡ length (array_at address count width s' g')
  unfolding array_at
  long_at address count width =
      located_long (located address count width (length s) (length g))
      ∙ (λ i. length (part_bytes (located address count width (es i) (eg i)) s' g'))

  -- the arrays are equally long
  pub arrays_alike : Alike a b
  unfolding arrays_of
  arrays_alike =
      let r = root_read s in
      record {
        nodes = long_at r.nodes r.node_count 40
            ∙ (λ i. length (array_at (roots i).nodes (roots i).node_count 40 s' g'));
        links = long_at r.links r.link_count 8
            ∙ (λ i. length (array_at (roots i).links (roots i).link_count 8 s' g'));
        junctions = long_at r.junctions r.junction_count 12
            ∙ (λ i. length (array_at (roots i).junctions (roots i).junction_count 12 s' g'));
        heights = long_at r.heightmap r.heightmap_count 1
            ∙ (λ i. length (array_at (roots i).heightmap (roots i).heightmap_count 1 s' g'));
        refs = long_at r.refs r.ref_count 8
            ∙ (λ i. length (array_at (roots i).refs (roots i).ref_count 8 s' g'));
      }

  -- what is refused, and how much is read, goes by the root, the nodes and the junctions alone
  module _ (same : SameRanges a b) where
    abbrev long : Alike a b
    long = arrays_alike

    ns : ◌≡◌ {A = ℕ → raw-node.Node} (node_at a.nodes) (node_at b.nodes)
    ns = raw_nodes a b long same

    js : ◌≡◌ {A = ℕ → NodeJunction} (junction_at a.junctions) (junction_at b.junctions)
    js = raw_junctions a b long same

    counts_are : file_counts s g ≡ file_counts s' g'
    counts_are = λ q. record {
      nodes = long.nodes q / 40;
      links = sum_to (λ i. (ns q (i * 40)).link_count_flags / 8) (long.nodes q / 40);
      junctions = long.junctions q / 12;
      heights = sum_to (λ i. (js q (i * 12)).heightmap_dim_x * (js q (i * 12)).heightmap_dim_y)
          (long.junctions q / 12);
      refs = long.refs q / 8;
    }

    causes_are : file_causes s g ≡ file_causes s' g'
    unfolding file_causes
    causes_are = λ q.
        let r = roots q in
        when (ltb 16777216 (es q)) SystemTooLong
        ∷ when (ltb 16777216 (eg q)) GraphicsTooLong
        ∷ when (too_few (es q)) SystemTooShort
        ∷ when (lost (located r.nodes r.node_count 40 (es q) (eg q))) (BadArray array.Nodes)
        ∷ when (lost (located r.links r.link_count 8 (es q) (eg q))) (BadArray array.Links)
        ∷ when (lost (located r.junctions r.junction_count 12 (es q) (eg q))) (BadArray array.Junctions)
        ∷ when (lost (located r.heightmap r.heightmap_count 1 (es q) (eg q))) (BadArray array.Heightmap)
        ∷ when (lost (located r.refs r.ref_count 8 (es q) (eg q))) (BadArray array.Refs)
        ∷ when (ltb 65536 (long.nodes q / 40)) TooManyNodes
        ∷ when (ltb 4096 (long.junctions q / 12)) TooManyJunctions
        ∷ each LinksOutside (λ i. ltb (long.links q / 8) ((ns q (i * 40)).link_id
        + (ns q (i * 40)).link_count_flags / 8)) 0 (long.nodes q / 40)
        ++ each ValuesOutside (λ i. ltb (long.heights q) ((js q (i * 12)).heightmap_ptr
        + (js q (i * 12)).heightmap_dim_x * (js q (i * 12)).heightmap_dim_y)) 0 (long.junctions q / 12)

    reads_causes : (m : Memory) → read_causes s g m ≡ read_causes s' g' m
    reads_causes m = λ q. causes_are q ++ room_causes (counts_are q) (length m.nodes) (length m.links)
        (length m.junctions) (length m.heights) (length m.refs)

  -- where an array is bad no array needs to agree
  pub bad_by : (cause : Refusal) → arrays_found (root_read s) (length s) (length g) ≡ Err cause → (m : Memory)
      → read_of s g m ≡ read_of s' g' m
  unfolding read_of
  bad_by cause e m =
      (λ i. unless (sizes_check (length s) (length g)) m (if_found (e i) m (reading (root_read s) m s g)))
      ∙ (λ i. unless (sizes_check (length s) (length g)) m (if_found (sym e i) m (reading (root_read s) m s' g')))
      ∙ (λ i. unless (sizes_check (es i) (eg i)) m
      (if_found (arrays_found (roots i) (es i) (eg i)) m (reading (roots i) m s' g')))

  module _ (drawn : 0 < length s) where
    -- 1 to 111 bytes, or a root
    by_size : {P : Type 0} → (too_few (length s) ≡ true → too_few (length s') ≡ true → P) → (112 ≤ length s → P) → P
    by_size short root = elim (cases_lt (length s) 112) [
      | inl l ↦ short (too_few_of (length s) drawn l) (too_few_of (length s') (omega (arith, es)) (omega (arith, es)))
      | inr h ↦ root h
    ]

    pub reads_by : (112 ≤ length s → SameArrays a b) → (m : Memory) → read_of s g m ≡ read_of s' g' m
    reads_by same m = by_size
        (λ t u. short_read s g t m ∙ (λ i. unless (refused_short (es i) (eg i)) m (refuse SystemTooShort m))
        ∙ sym (short_read s' g' u m))
        (λ h.
        let ranges = ranges_of a b (same h) in
        read_listed s g m
        ∙ (λ i. unless (decided (reads_causes ranges m i)) m (record {
          answer = done;
          memory = filled_same a b arrays_alike (same h) (root_read s) m i;
        }))
        ∙ (λ i. unless (decided (read_causes s' g' m)) m (record {
          answer = done;
          memory = filled (roots i) (counts_are ranges i) b.nodes b.links b.junctions b.heights b.refs m;
        }))
        ∙ sym (read_listed s' g' m))

    -- whether it is refused, and with what, goes by the root, the nodes and the junctions alone
    pub answers_by : (112 ≤ length s → SameRanges a b) → (m : Memory) → (read_of s g m).answer
        ≡ (read_of s' g' m).answer
    answers_by same m = by_size
        (λ t u. ap (λ (l : Left). l.answer) (short_read s g t m
        ∙ (λ i. unless (refused_short (es i) (eg i)) m (refuse SystemTooShort m)) ∙ sym (short_read s' g' u m)))
        (λ h. ap (λ (l : Left). l.answer) (read_listed s g m)
        ∙ told (decided (read_causes s g m)) (file_read s g m)
        ∙ ap decided (reads_causes (same h) m)
        ∙ sym (told (decided (read_causes s' g' m)) (file_read s' g' m))
        ∙ ap (λ (l : Left). l.answer) (sym (read_listed s' g' m)))
      where
        told : (c : Answer) (after : Memory) → (unless c m (record { answer = done; memory = after })).answer ≡ c
        told (Ok tt) after = refl
        told (Err cause) after = refl

    pub counts_by : (112 ≤ length s → SameRanges a b) → count_of s g ≡ count_of s' g'
    counts_by same = by_size
        (λ t u. short_count s g t ∙ (λ i. numbers.unless (refused_short (es i) (eg i)) (Err SystemTooShort))
        ∙ sym (short_count s' g' u))
        (λ h. count_listed s g ∙ (λ i. numbers.unless (decided (causes_are (same h) i)) (Ok (counts_are (same h) i)))
        ∙ sym (count_listed s' g'))

-- ---- the whole, by the agreement

module _ (s g s' g' : List ℕ) (h : Agree s g s' g') where
  roots_same : root_read s ≡ root_read s'
  roots_same =
      root_drawn s h.not_empty
      ∙ root_same s s' (λ k low counts. anywhere s s' h.same_system k (λ inside. h.same_root k low inside counts))
      ∙ sym (root_drawn s' (omega (arith, h.not_empty, h.same_system)))

  pub agree_alike : Alike (arrays_of s g) (arrays_of s' g')
  agree_alike = arrays_alike s g s' g' h.same_system h.same_graphics roots_same

  pub reads_same : (m : Memory) → read_of s g m ≡ read_of s' g' m
  reads_same = reads_by s g s' g' h.same_system h.same_graphics roots_same h.not_empty h.same_arrays

  pub counts_same : count_of s g ≡ count_of s' g'
  counts_same = counts_by s g s' g' h.same_system h.same_graphics roots_same h.not_empty
      (λ root. ranges_of (arrays_of s g) (arrays_of s' g') (h.same_arrays root))
