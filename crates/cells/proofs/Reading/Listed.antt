-- Reading refuses by the list of its causes, in the order of the page, and by nothing else. Assumes nothing.
use Prim.Native.Nat.{ℕ, zero, suc, ◌/◌}
use mathlib.Core.Path.{◌≡◌, refl, sym, ap, ◌∙◌}
use mathlib.Core.Bool.{Bool, true, false}
use mathlib.Core.List.{List, [], ◌∷◌, ◌++◌}
use lib.Dec.{ltb}
use lib.ListN.{length}
use Rattle.std.specs.Prelude.{Result, Ok, Err, Option, Some, None}
use Rattle.numbers.specs.Refusals.{Answer, Cause, when, done, decided, refuse_if, each, and_then}
use Rattle.numbers.specs.Refusals.{unless as or_else}
use Rattle.numbers.specs.declared.refusal.Refusal.{Refusal}
use Rattle.numbers.specs.declared.refusal.Refusal.TheVariants.{BadArray, LinksOutside, ValuesOutside}
use Rattle.numbers.specs.declared.refusal.Refusal.TheVariants.{SystemTooShort, SystemTooLong, GraphicsTooLong}
use Rattle.numbers.specs.declared.refusal.Refusal.TheVariants.{TooManyNodes, TooManyJunctions}
use Rattle.numbers.specs.declared.refusal.Array.TheVariants as array
use Rattle.numbers.proofs.Refusing.{decided_append}
use Rattle.records.specs.declared.section.Part.{Part}
use Rattle.records.specs.Sections.{located, bytes_of, part_bytes, array_at}
use Rattle.cells.specs.declared.counts.Counts.{Counts}
use Rattle.cells.specs.declared.arrays.Arrays.{Arrays}
use Rattle.cells.specs.Checks.{root_read, too_few, sizes_check, opened, arrays_found, scan, bad_node, bad_junction}
use Rattle.cells.specs.Checks.{counts_of, arrays_check, count_of}
use Rattle.cells.specs.Memory.{Memory, Left, unless}
use Rattle.cells.specs.Read.{room_check, filled, if_held, if_found, read_arrays, read_of}
use Rattle.cells.specs.Memory.{room_causes}
use Rattle.cells.specs.FileCauses.{arrays_of, lost, file_causes, file_counts, read_causes, file_read}

-- ---- refusals handed on

handed : {A : Type 0} (a b : Answer) (x : Result A Refusal) → or_else (or_else a b) x ≡ or_else a (or_else b x)
handed (Ok _) b x = refl
handed (Err c) b x = refl

left_by : (a b : Answer) (m : Memory) (x : Left) → unless (or_else a b) m x ≡ unless a m (unless b m x)
left_by (Ok _) b m x = refl
left_by (Err c) b m x = refl

held_by : (a : Answer) (k : Counts) (m : Memory) (next : Counts → Left) → if_held (or_else a (Ok k)) m next
    ≡ unless a m (next k)
held_by (Ok _) k m next = refl
held_by (Err c) k m next = refl

-- ---- the parts of the list

scan_listed : (cause : ℕ → Refusal) (bad : ℕ → Bool) (i n : ℕ) → scan cause bad i n ≡ decided (each cause bad i n)
unfolding scan each
scan_listed cause bad i zero = refl
scan_listed cause bad i (suc n) = ap (refuse_if (bad i) (cause i)) (scan_listed cause bad (suc i) n)

-- 3, by where the arrays lie
abbrev lost_of : Option Part → Option Part → Option Part → Option Part → Option Part → List Cause
lost_of n l j h r =
    when (lost n) (BadArray array.Nodes)
    ∷ when (lost l) (BadArray array.Links)
    ∷ when (lost j) (BadArray array.Junctions)
    ∷ when (lost h) (BadArray array.Heightmap)
    ∷ when (lost r) (BadArray array.Refs)
    ∷ []

abbrev found_of : Option Part → Option Part → Option Part → Option Part → Option Part → Result Arrays Refusal
found_of n l j h r =
    opened array.Nodes n λ n.
    opened array.Links l λ l.
    opened array.Junctions j λ j.
    opened array.Heightmap h λ h.
    opened array.Refs r λ r.
    Ok (record { nodes = n; links = l; junctions = j; heights = h; refs = r })

module _ (s g : List ℕ) where
  found_counts : {A : Type 0} (next : List ℕ → List ℕ → List ℕ → List ℕ → List ℕ → Result A Refusal)
      (n l j h r : Option Part)
      → and_then (found_of n l j h r) (λ a. next (bytes_of a.nodes s g) (bytes_of a.links s g)
      (bytes_of a.junctions s g) (bytes_of a.heights s g) (bytes_of a.refs s g))
      ≡ or_else (decided (lost_of n l j h r)) (next (part_bytes n s g) (part_bytes l s g) (part_bytes j s g)
      (part_bytes h s g) (part_bytes r s g))
  found_counts next None l j h r = refl
  found_counts next (Some n) None j h r = refl
  found_counts next (Some n) (Some l) None h r = refl
  found_counts next (Some n) (Some l) (Some j) None r = refl
  found_counts next (Some n) (Some l) (Some j) (Some h) None = refl
  found_counts next (Some n) (Some l) (Some j) (Some h) (Some r) = refl

  found_left : (m : Memory) (next : List ℕ → List ℕ → List ℕ → List ℕ → List ℕ → Memory → Left)
      (n l j h r : Option Part)
      → if_found (found_of n l j h r) m (λ n l j h r. next (bytes_of n s g) (bytes_of l s g) (bytes_of j s g)
      (bytes_of h s g) (bytes_of r s g) m)
      ≡ unless (decided (lost_of n l j h r)) m (next (part_bytes n s g) (part_bytes l s g) (part_bytes j s g)
      (part_bytes h s g) (part_bytes r s g) m)
  found_left m next None l j h r = refl
  found_left m next (Some n) None j h r = refl
  found_left m next (Some n) (Some l) None h r = refl
  found_left m next (Some n) (Some l) (Some j) None r = refl
  found_left m next (Some n) (Some l) (Some j) (Some h) None = refl
  found_left m next (Some n) (Some l) (Some j) (Some h) (Some r) = refl

-- 6, 4, 5
abbrev limits : List ℕ → List ℕ → List Cause
limits n j = when (ltb 65536 (length n / 40)) TooManyNodes ∷ when (ltb 4096 (length j / 12)) TooManyJunctions ∷ []

abbrev nodes_each : List ℕ → List ℕ → List Cause
nodes_each n l = each LinksOutside (bad_node n (length l / 8)) 0 (length n / 40)

abbrev junctions_each : List ℕ → List ℕ → List Cause
junctions_each j h = each ValuesOutside (bad_junction j (length h)) 0 (length j / 12)

abbrev behind : List ℕ → List ℕ → List ℕ → List ℕ → Answer
behind n l j h = or_else (decided (limits n j)) (or_else (decided (nodes_each n l)) (decided (junctions_each j h)))

arrays_listed : (n l j h r : List ℕ) → arrays_check n l j h r ≡ or_else (behind n l j h) (Ok (counts_of n j r))
unfolding arrays_check
arrays_listed n l j h r =
    (λ i. refuse_if (ltb 65536 (length n / 40)) TooManyNodes (refuse_if (ltb 4096 (length j / 12)) TooManyJunctions
    (or_else (scan_listed LinksOutside (bad_node n (length l / 8)) 0 (length n / 40) i)
    (or_else (scan_listed ValuesOutside (bad_junction j (length h)) 0 (length j / 12) i) (Ok (counts_of n j r))))))
    ∙ go (ltb 65536 (length n / 40)) (ltb 4096 (length j / 12))
  where
    x : Result Counts Refusal
    x = or_else (decided (nodes_each n l)) (or_else (decided (junctions_each j h)) (Ok (counts_of n j r)))

    go : (a b : Bool) → refuse_if a TooManyNodes (refuse_if b TooManyJunctions x)
        ≡ or_else (or_else (decided (when a TooManyNodes ∷ when b TooManyJunctions ∷ []))
        (or_else (decided (nodes_each n l)) (decided (junctions_each j h)))) (Ok (counts_of n j r))
    go true b = refl
    go false true = refl
    go false false = sym (handed (decided (nodes_each n l)) (decided (junctions_each j h)) (Ok (counts_of n j r)))

-- ---- the whole list

module _ (s g : List ℕ) where
  abbrev sizes : List Cause
  sizes =
      when (ltb 16777216 (length s)) SystemTooLong
      ∷ when (ltb 16777216 (length g)) GraphicsTooLong
      ∷ when (too_few (length s)) SystemTooShort
      ∷ []

  abbrev arrays : List Cause
  arrays = lost_of (located (root_read s).nodes (root_read s).node_count 40 (length s) (length g))
      (located (root_read s).links (root_read s).link_count 8 (length s) (length g))
      (located (root_read s).junctions (root_read s).junction_count 12 (length s) (length g))
      (located (root_read s).heightmap (root_read s).heightmap_count 1 (length s) (length g))
      (located (root_read s).refs (root_read s).ref_count 8 (length s) (length g))

  in_parts : decided (file_causes s g) ≡ or_else (decided sizes) (or_else (decided arrays)
      (behind (arrays_of s g).nodes (arrays_of s g).links (arrays_of s g).junctions (arrays_of s g).heights))
  unfolding file_causes arrays_of
  in_parts =
      let n = nodes_each (arrays_of s g).nodes (arrays_of s g).links in
      let j = junctions_each (arrays_of s g).junctions (arrays_of s g).heights in
      let l = limits (arrays_of s g).nodes (arrays_of s g).junctions in
      decided_append (sizes ++ (arrays ++ (l ++ n))) j
      ∙ ap (λ (a : Answer). or_else a (decided j)) (decided_append sizes (arrays ++ (l ++ n)))
      ∙ handed (decided sizes) (decided (arrays ++ (l ++ n))) (decided j)
      ∙ ap (or_else (decided sizes)) (ap (λ (a : Answer). or_else a (decided j)) (decided_append arrays (l ++ n))
      ∙ handed (decided arrays) (decided (l ++ n)) (decided j)
      ∙ ap (or_else (decided arrays)) (ap (λ (a : Answer). or_else a (decided j)) (decided_append l n)
      ∙ handed (decided l) (decided n) (decided j)))

  -- what `count` answers
  pub count_listed : count_of s g ≡ or_else (decided (file_causes s g)) (Ok (file_counts s g))
  unfolding count_of sizes_check arrays_found array_at arrays_of
  count_listed =
      let k : Result Counts Refusal = Ok (file_counts s g) in
      let a = arrays_of s g in
      let rest = behind a.nodes a.links a.junctions a.heights in
      ap (or_else (decided sizes)) (found_counts s g arrays_check
      (located (root_read s).nodes (root_read s).node_count 40 (length s) (length g))
      (located (root_read s).links (root_read s).link_count 8 (length s) (length g))
      (located (root_read s).junctions (root_read s).junction_count 12 (length s) (length g))
      (located (root_read s).heightmap (root_read s).heightmap_count 1 (length s) (length g))
      (located (root_read s).refs (root_read s).ref_count 8 (length s) (length g))
      ∙ ap (or_else (decided arrays))
      (arrays_listed a.nodes a.links a.junctions a.heights a.refs)
      ∙ sym (handed (decided arrays) rest k))
      ∙ sym (handed (decided sizes) (or_else (decided arrays) rest) k)
      ∙ ap (λ (a : Answer). or_else a k) (sym in_parts)

  -- what `read` answers and leaves
  pub read_listed : (m : Memory) → read_of s g m
      ≡ unless (decided (read_causes s g m)) m (record { answer = done; memory = file_read s g m })
  unfolding read_of read_arrays sizes_check arrays_found array_at room_check arrays_of
  read_listed m =
      let a = arrays_of s g in
      let k = file_counts s g in
      let rest = behind a.nodes a.links a.junctions a.heights in
      let room = room_causes k (length m.nodes) (length m.links) (length m.junctions) (length m.heights)
      (length m.refs) in
      let x : Left = record { answer = done; memory = file_read s g m } in
      let y : Left = unless (decided room) m x in
      let next : Counts → Left = λ k. unless
      (room_check k (length m.nodes) (length m.links) (length m.junctions) (length m.heights) (length m.refs)) m
      (record { answer = done; memory = filled (root_read s) k a.nodes a.links a.junctions a.heights a.refs m }) in
      ap (unless (decided sizes) m) (found_left s g m (read_arrays (root_read s))
      (located (root_read s).nodes (root_read s).node_count 40 (length s) (length g))
      (located (root_read s).links (root_read s).link_count 8 (length s) (length g))
      (located (root_read s).junctions (root_read s).junction_count 12 (length s) (length g))
      (located (root_read s).heightmap (root_read s).heightmap_count 1 (length s) (length g))
      (located (root_read s).refs (root_read s).ref_count 8 (length s) (length g))
      ∙ ap (unless (decided arrays) m) (ap (λ (c : Result Counts Refusal). if_held c m next)
      (arrays_listed a.nodes a.links a.junctions a.heights a.refs) ∙ held_by rest k m next)
      ∙ sym (left_by (decided arrays) rest m y))
      ∙ sym (left_by (decided sizes) (or_else (decided arrays) rest) m y)
      ∙ ap (λ (c : Answer). unless c m y) (sym in_parts)
      ∙ sym (left_by (decided (file_causes s g)) (decided room) m x)
      ∙ ap (λ (c : Answer). unless c m x) (sym (decided_append (file_causes s g) room))
