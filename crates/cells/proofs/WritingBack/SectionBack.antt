-- The root and the five arrays, found in the section that a cell was written as. No law needs a bound on what
-- memory holds.
use Prim.Native.Nat.{ℕ, zero, suc, ◌+◌, ◌*◌, ◌/◌, ◌%◌, ◌≤◌, ◌<◌}
use native.Mathlib.Omega.{arith}
use mathlib.Core.Path.{◌≡◌, refl, sym, ap, ◌∙◌}
use mathlib.Core.Bool.{Bool, true, false, cond}
use mathlib.Core.List.{List, [], ◌∷◌, ◌++◌, map, append-nil}
use lib.Dec.{eqb}
use lib.ListN.{length, get_or, length-append}
use Rattle.records.specs.Bytes.{number_bytes, bytes16, bytes32, bytes64}
use Rattle.records.specs.Put.{joined}
use Rattle.records.specs.Sections.{located, bytes_of, part_bytes, array_at}
use Rattle.records.specs.Root.{root_of, root_bytes, pages_address}
use Rattle.records.specs.Layout.{header_size, header_bytes, lay, offset, address, places_of, section_bytes}
use Rattle.records.specs.declared.root.Root.{Root}
use Rattle.records.specs.declared.section.Part.{Part}
use Rattle.records.proofs.Laid.{header_length}
use Rattle.records.proofs.RootBack.{RootFits}
use Rattle.records.proofs.SectionBack as section
use Rattle.cells.specs.Checks.{root_read}
use Rattle.cells.specs.Memory.{Memory}
use Rattle.cells.specs.Entries.{links_in}
use Rattle.cells.specs.Blocks.{refs_block, heights_block, junctions_block, links_block, nodes_block, arrays, blocks}
use Rattle.cells.specs.Blocks.{root_for, written}
use Rattle.cells.proofs.Reading.Undrawn.{root_drawn}
use Rattle.cells.proofs.Writing.BlockLaws.{nodes_length, links_length, junctions_length, refs_length}
use Rattle.std.specs.Prelude.{Option, Some}

-- the section is long enough for a root
pub long_enough : (h : Memory) → 112 ≤ length (written h)
unfolding written section_bytes
long_enough h =
    let r = root_for h (map length (blocks h)) in
    omega (arith, length-append (header_bytes r) (lay header_size (blocks h)), header_length r)

-- ---- the root's own words are stored in 32 bits

bytes_cut : (n : ℕ) → bytes32 n ≡ bytes32 (n % 4294967296)
unfolding number_bytes
bytes_cut n = λ i. byte0 n i ∷ byte1 n i ∷ byte2 n i ∷ byte3 n i ∷ []
  where
    byte0 : (n : ℕ) → n % 256 ≡ n % 4294967296 % 256
    byte0 n = omega arith

    byte1 : (n : ℕ) → n / 256 % 256 ≡ n % 4294967296 / 256 % 256
    byte1 n = omega arith

    byte2 : (n : ℕ) → n / 256 / 256 % 256 ≡ n % 4294967296 / 256 / 256 % 256
    byte2 n = omega arith

    byte3 : (n : ℕ) → n / 256 / 256 / 256 % 256 ≡ n % 4294967296 / 256 / 256 / 256 % 256
    byte3 n = omega arith

-- the seven unk words, each in 32 bits
abbrev pub seven_of : List ℕ → List ℕ
seven_of u =
    get_or u 0 0 % 4294967296 ∷ get_or u 1 0 % 4294967296 ∷ get_or u 2 0 % 4294967296 ∷ get_or u 3 0 % 4294967296
    ∷ get_or u 4 0 % 4294967296 ∷ get_or u 5 0 % 4294967296 ∷ get_or u 6 0 % 4294967296 ∷ []

-- the root as it is read when r was written
abbrev pub stored_root : Root → Root
stored_root r = record {
  vft = r.vft % 4294967296;
  nodes = r.nodes;
  node_count = r.node_count;
  vehicle_node_count = r.vehicle_node_count % 4294967296;
  ped_node_count = r.ped_node_count % 4294967296;
  links = r.links;
  link_count = r.link_count;
  junctions = r.junctions;
  heightmap = r.heightmap;
  refs = r.refs;
  ref_count = r.ref_count;
  junction_count = r.junction_count;
  heightmap_count = r.heightmap_count;
  unknowns = seven_of r.unknowns;
}

same_bytes : (r : Root) → root_bytes r ≡ root_bytes (stored_root r)
unfolding root_bytes
same_bytes r = λ i.
    bytes_cut r.vft i ++ bytes32 1 ++ bytes64 pages_address
    ++ bytes64 r.nodes ++ bytes32 r.node_count ++ bytes_cut r.vehicle_node_count i ++ bytes_cut r.ped_node_count i
    ++ bytes_cut (get_or r.unknowns 0 0) i
    ++ bytes64 r.links ++ bytes32 r.link_count ++ bytes_cut (get_or r.unknowns 1 0) i
    ++ bytes64 r.junctions ++ bytes64 r.heightmap ++ bytes_cut (get_or r.unknowns 2 0) i
    ++ bytes_cut (get_or r.unknowns 3 0) i
    ++ bytes64 r.refs ++ bytes16 r.ref_count ++ bytes16 r.ref_count ++ bytes_cut (get_or r.unknowns 4 0) i
    ++ bytes32 r.junction_count ++ bytes32 r.heightmap_count ++ bytes_cut (get_or r.unknowns 5 0) i
    ++ bytes_cut (get_or r.unknowns 6 0) i

same_section : (r : Root) (bs : List (List ℕ)) → section_bytes r bs ≡ section_bytes (stored_root r) bs
unfolding section_bytes header_bytes
same_section r bs = rw (same_bytes r)

word_in : (u : List ℕ) (k : ℕ) → get_or (seven_of u) k 0 < 4294967296
word_in u zero = omega arith
word_in u (suc zero) = omega arith
word_in u (suc (suc zero)) = omega arith
word_in u (suc (suc (suc zero))) = omega arith
word_in u (suc (suc (suc (suc zero)))) = omega arith
word_in u (suc (suc (suc (suc (suc zero))))) = omega arith
word_in u (suc (suc (suc (suc (suc (suc zero)))))) = omega arith
word_in u (suc (suc (suc (suc (suc (suc (suc k))))))) = omega arith

-- ---- the section of a cell

address_in : (o : ℕ) → o ≤ 16777216 → address o < 18446744073709551616
unfolding address
address_in o h = go (eqb o 0)
  where
    go : (b : Bool) → cond b 0 (0x50000000 + o) < 18446744073709551616
    go true = omega arith
    go false = omega arith

-- an array that is found, and its bytes
pub record Here (a count width : ℕ) (s b : List ℕ) : Type 0 where
  pub part : Part
  pub is_at : located a count width (length s) 0 ≡ Some part
  pub bytes : bytes_of part s [] ≡ b

pub array_back : (a count width : ℕ) (s b : List ℕ) → Here a count width s b → array_at a count width s [] ≡ b
unfolding array_at
array_back a count width s b h = ap (λ (l : Option Part). part_bytes l s []) h.is_at ∙ h.bytes

module _ (h : Memory) (few : length h.refs ≤ 65535) (small : length (written h) ≤ 16777216) where
  abbrev sizes : List ℕ
  sizes = map length (blocks h)

  abbrev root : Root
  root = root_for h sizes

  few_bytes : length (section_bytes root (blocks h)) ≤ 0x1000_0000
  unfolding written
  few_bytes = omega arith

  -- block i, by its bytes
  size_in : (i : ℕ) (b : List ℕ) → get_or (blocks h) i [] ≡ b → offset header_size sizes i + length b ≤ 16777216
  unfolding written
  size_in i b e = omega (arith, section.block_inside root (blocks h) few_bytes i, ap length e, small)

  block_here : (i count width : ℕ) (b : List ℕ) → get_or (blocks h) i [] ≡ b → length b ≡ count * width
      → Here (address (offset header_size sizes i)) count width (written h) b
  unfolding written
  block_here i count width b e long = record {
    part = section.block_part root (blocks h) few_bytes i;
    is_at = section.located_back root (blocks h) few_bytes i count width 0 (ap length e ∙ long);
    bytes = section.bytes_back root (blocks h) few_bytes i [] ∙ e;
  }

  root_in : RootFits (stored_root root)
  unfolding root_for places_of arrays
  root_in =
      let s0 = size_in 0 (refs_block h.refs) refl in
      let s1 = size_in 1 (heights_block h.heights h.junctions) refl in
      let s2 = size_in 2 (junctions_block h.heights h.junctions) refl in
      let s3 = size_in 3 (links_block h.links h.nodes) refl in
      let s4 = size_in 4 (nodes_block h.links h.nodes) refl in
      record {
        vft = omega arith;
        nodes = address_in (offset header_size sizes 4) (omega (arith, s4));
        node_count = omega (arith, s4, nodes_length h.links h.nodes);
        vehicle_node_count = omega arith;
        ped_node_count = omega arith;
        links = address_in (offset header_size sizes 3) (omega (arith, s3));
        link_count = omega (arith, s3, links_length h.links h.nodes);
        junctions = address_in (offset header_size sizes 2) (omega (arith, s2));
        heightmap = address_in (offset header_size sizes 1) (omega (arith, s1));
        refs = address_in (offset header_size sizes 0) (omega (arith, s0));
        ref_count = omega (arith, few);
        junction_count = omega (arith, s2, junctions_length h.heights h.junctions);
        heightmap_count = omega (arith, s1);
        words = word_in h.ynd.unknowns;
        seven = refl;
      }

  pub root_read_law : root_read (written h) ≡ stored_root root
  unfolding written
  root_read_law = root_drawn (written h) (omega (arith, long_enough h))
      ∙ ap root_of (same_section root (blocks h) ∙ sym (append-nil (section_bytes (stored_root root) (blocks h))))
      ∙ section.root_in (stored_root root) (blocks h) [] root_in

  pub nodes_here : Here root.nodes root.node_count 40 (written h) (nodes_block h.links h.nodes)
  unfolding root_for places_of arrays
  nodes_here = block_here 4 (length h.nodes) 40 (nodes_block h.links h.nodes) refl
      (omega (arith, nodes_length h.links h.nodes))

  pub links_here : Here root.links root.link_count 8 (written h) (links_block h.links h.nodes)
  unfolding root_for places_of arrays
  links_here = block_here 3 (length (joined (links_in h.links) h.nodes)) 8 (links_block h.links h.nodes) refl
      (omega (arith, links_length h.links h.nodes))

  pub junctions_here : Here root.junctions root.junction_count 12 (written h) (junctions_block h.heights h.junctions)
  unfolding root_for places_of arrays
  junctions_here = block_here 2 (length h.junctions) 12 (junctions_block h.heights h.junctions) refl
      (omega (arith, junctions_length h.heights h.junctions))

  pub heights_here : Here root.heightmap root.heightmap_count 1 (written h) (heights_block h.heights h.junctions)
  unfolding root_for places_of arrays
  heights_here = let b = heights_block h.heights h.junctions in block_here 1 (length b) 1 b refl (omega arith)

  pub refs_here : Here root.refs root.ref_count 8 (written h) (refs_block h.refs)
  unfolding root_for places_of arrays
  refs_here = block_here 0 (length h.refs) 8 (refs_block h.refs) refl (omega (arith, refs_length h.refs))
