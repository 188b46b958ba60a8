-- "Causes of refusal", reading: all of them in the order of the page. The first that fits counts. That `count` and
-- `read` refuse by this list and by nothing else: laws Listed `count_listed`, `read_listed`.
use Rattle.std.specs.Prelude.{ℕ, ◌/◌, Bool, true, false, List, ◌∷◌, ◌++◌, ltb, length, Option, Some, None}
use Rattle.numbers.specs.Refusals.{Cause, when, each}
use Rattle.numbers.specs.declared.refusal.Refusal.TheVariants.{SystemTooShort, SystemTooLong, GraphicsTooLong}
use Rattle.numbers.specs.declared.refusal.Refusal.TheVariants.{BadArray, LinksOutside, ValuesOutside}
use Rattle.numbers.specs.declared.refusal.Refusal.TheVariants.{TooManyNodes, TooManyJunctions}
use Rattle.numbers.specs.declared.refusal.Array.TheVariants as array
use Rattle.records.specs.declared.section.Part.{Part}
use Rattle.records.specs.Sections.{located, array_at}
use Rattle.cells.specs.Checks.{root_read, too_few, bad_node, bad_junction, counts_of}
use Rattle.cells.specs.Read.{filled}
use Rattle.cells.specs.Memory.{room_causes}
use Rattle.cells.specs.Memory.{Memory}
use Rattle.cells.specs.declared.counts.Counts.{Counts}

-- ---- the five arrays of a file, by their bytes, where its root says: none where an array is empty or bad

pub record Arrays : Type 0 where
  pub nodes : List ℕ
  pub links : List ℕ
  pub junctions : List ℕ
  pub heights : List ℕ
  pub refs : List ℕ

unfoldable pub arrays_of : List ℕ → List ℕ → Arrays
arrays_of s g = record {
  nodes = array_at (root_read s).nodes (root_read s).node_count 40 s g;
  links = array_at (root_read s).links (root_read s).link_count 8 s g;
  junctions = array_at (root_read s).junctions (root_read s).junction_count 12 s g;
  heights = array_at (root_read s).heightmap (root_read s).heightmap_count 1 s g;
  refs = array_at (root_read s).refs (root_read s).ref_count 8 s g;
}

-- ---- its causes

-- 3: an address or an extent is bad, so that no part of a section is named
abbrev pub lost : Option Part → Bool
lost None = true
lost (Some p) = false

-- of `count` entries of `width` bytes at an address
abbrev pub bad_array : ℕ → ℕ → ℕ → List ℕ → List ℕ → Bool
bad_array address count width s g = lost (located address count width (length s) (length g))

-- 2, 1, 3, 6, 4, 5. (`++` joins all that stands before it and all that stands behind it.)
unfoldable pub file_causes : List ℕ → List ℕ → List Cause
file_causes s g =
    let r = root_read s in
    let a = arrays_of s g in
    when (ltb 16777216 (length s)) SystemTooLong
    ∷ when (ltb 16777216 (length g)) GraphicsTooLong
    ∷ when (too_few (length s)) SystemTooShort
    ∷ when (bad_array r.nodes r.node_count 40 s g) (BadArray array.Nodes)
    ∷ when (bad_array r.links r.link_count 8 s g) (BadArray array.Links)
    ∷ when (bad_array r.junctions r.junction_count 12 s g) (BadArray array.Junctions)
    ∷ when (bad_array r.heightmap r.heightmap_count 1 s g) (BadArray array.Heightmap)
    ∷ when (bad_array r.refs r.ref_count 8 s g) (BadArray array.Refs)
    ∷ when (ltb 65536 (length a.nodes / 40)) TooManyNodes
    ∷ when (ltb 4096 (length a.junctions / 12)) TooManyJunctions
    ∷ each LinksOutside (bad_node a.nodes (length a.links / 8)) 0 (length a.nodes / 40)
    ++ each ValuesOutside (bad_junction a.junctions (length a.heights)) 0 (length a.junctions / 12)

-- ---- what is read, if no cause fits

-- how much the file holds
abbrev pub file_counts : List ℕ → List ℕ → Counts
file_counts s g = counts_of (arrays_of s g).nodes (arrays_of s g).junctions (arrays_of s g).refs

-- "In this order, then 7": the memory lent holds it
abbrev pub read_causes : List ℕ → List ℕ → Memory → List Cause
read_causes s g m =
    file_causes s g
    ++ room_causes (file_counts s g) (length m.nodes) (length m.links) (length m.junctions) (length m.heights)
    (length m.refs)

-- and the memory after it
abbrev pub file_read : List ℕ → List ℕ → Memory → Memory
file_read s g m =
    let a = arrays_of s g in
    filled (root_read s) (file_counts s g) a.nodes a.links a.junctions a.heights a.refs m
