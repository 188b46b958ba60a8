-- Reading's checks, in their order: 2, 1, 3, 6, 4, 5. Lists are bytes: of the sections s and g, and of the five
-- arrays n, l, j, h, r.
use Rattle.cells.specs.Memory.{per_list}
use Rattle.std.specs.Prelude.{ℕ, zero, suc, ◌+◌, ◌*◌, ◌/◌, Bool, not, ◌&&◌, List, [], ◌∷◌, ltb}
use Rattle.std.specs.Prelude.{eqb, length}
use Rattle.numbers.specs.Refusals.{when, decided, refuse_if, unless, and_then}
use Rattle.records.specs.declared.section.Part.{Part}
use Rattle.records.specs.declared.root.Root.{Root}
use Rattle.records.specs.Sections.{located, bytes_of}
use Rattle.records.specs.Root.{root_of}
use Rattle.records.specs.Records.{node_at, junction_at}
use Rattle.cells.specs.Lists.{sum_to}
use Rattle.cells.specs.NewYnd.{new_root}
use Rattle.cells.specs.declared.counts.Counts.{Counts}
use Rattle.std.specs.Prelude.{Result, Ok, Err, Option, Some, None}
use Rattle.numbers.specs.Refusals.{Answer, done}
use Rattle.numbers.specs.declared.refusal.Refusal.{Refusal}
use Rattle.numbers.specs.declared.refusal.Refusal.TheVariants.{SystemTooShort, SystemTooLong, GraphicsTooLong}
use Rattle.numbers.specs.declared.refusal.Refusal.TheVariants.{BadArray, LinksOutside, ValuesOutside}
use Rattle.numbers.specs.declared.refusal.Refusal.TheVariants.{TooManyNodes, TooManyJunctions}
use Rattle.numbers.specs.declared.refusal.Array.{Array}
use Rattle.numbers.specs.declared.refusal.Array.TheVariants as array
use Rattle.cells.specs.declared.arrays.Arrays.{Arrays}

-- Section 2: the root that reading goes by. T-02: no system bytes at all mean the cell of `Ynd::new`.
abbrev pub root_read : List ℕ → Root
root_read [] = new_root
root_read (b ∷ bs) = root_of (b ∷ bs)

-- ---- 2 and 1: the sections' sizes

-- 1: a system section without a whole root. T-02: from 1 to 111 bytes; none is a yard not drawn yet
abbrev pub too_few : ℕ → Bool
too_few s = ltb s 112 && not (eqb s 0)

unfoldable pub sizes_check : ℕ → ℕ → Answer
sizes_check s g =
    decided
    (when (ltb 16777216 s) SystemTooLong
    ∷ when (ltb 16777216 g) GraphicsTooLong
    ∷ when (too_few s) SystemTooShort
    ∷ [])

-- ---- 3: where the arrays lie, in sections of s and g bytes

abbrev pub opened : Array → Option Part → (Part → Result Arrays Refusal) → Result Arrays Refusal
opened a None next = Err (BadArray a)
opened a (Some p) next = next p

unfoldable pub arrays_found : Root → ℕ → ℕ → Result Arrays Refusal
arrays_found r s g =
    opened array.Nodes (located r.nodes r.node_count 40 s g) λ n.
    opened array.Links (located r.links r.link_count 8 s g) λ l.
    opened array.Junctions (located r.junctions r.junction_count 12 s g) λ j.
    opened array.Heightmap (located r.heightmap r.heightmap_count 1 s g) λ h.
    opened array.Refs (located r.refs r.ref_count 8 s g) λ f.
    Ok (record { nodes = n; links = l; junctions = j; heights = h; refs = f })

-- ---- 6, 4, 5: what the arrays hold

-- the first place, of k from i on, at which `bad` says so
unfoldable pub scan : (ℕ → Refusal) → (ℕ → Bool) → ℕ → ℕ → Answer
scan cause bad i zero = done
scan cause bad i (suc k) = refuse_if (bad i) (cause i) (scan cause bad (suc i) k)

-- how many links node i has
abbrev pub links_at : List ℕ → ℕ → ℕ
links_at n i = (node_at n (i * 40)).link_count_flags / 8

-- how many values junction i has
abbrev pub values_at : List ℕ → ℕ → ℕ
values_at j i = (junction_at j (i * 12)).heightmap_dim_x * (junction_at j (i * 12)).heightmap_dim_y

-- the range of node i is not within `links` links; of junction i not within `bytes` heightmap bytes
abbrev pub bad_node : List ℕ → ℕ → ℕ → Bool
bad_node n links i = ltb links ((node_at n (i * 40)).link_id + links_at n i)

abbrev pub bad_junction : List ℕ → ℕ → ℕ → Bool
bad_junction j bytes i = ltb bytes ((junction_at j (i * 12)).heightmap_ptr + values_at j i)

-- a sum, if nothing is bad
abbrev pub total_of : Answer → ℕ → Result ℕ Refusal
total_of a n = unless a (Ok n)

-- 4: each node's range, by the length of the list of links; 5: each junction's, by the length of the heightmap bytes
abbrev pub nodes_scan : List ℕ → List ℕ → Answer
nodes_scan n l = scan LinksOutside (bad_node n (length l / 8)) 0 (length n / 40)

abbrev pub junctions_scan : List ℕ → List ℕ → Answer
junctions_scan j h = scan ValuesOutside (bad_junction j (length h)) 0 (length j / 12)

abbrev pub counts_of : List ℕ → List ℕ → List ℕ → Counts
counts_of n j r =
    per_list (length n / 40) (sum_to (links_at n) (length n / 40)) (length j / 12)
    (sum_to (values_at j) (length j / 12)) (length r / 8)

unfoldable pub arrays_check : List ℕ → List ℕ → List ℕ → List ℕ → List ℕ → Result Counts Refusal
arrays_check n l j h r =
    refuse_if (ltb 65536 (length n / 40)) TooManyNodes
    (refuse_if (ltb 4096 (length j / 12)) TooManyJunctions
    (unless (nodes_scan n l)
    (unless (junctions_scan j h)
    (Ok (counts_of n j r)))))

-- ---- all of them: what `count` answers

unfoldable pub count_of : List ℕ → List ℕ → Result Counts Refusal
count_of s g =
    unless (sizes_check (length s) (length g))
    (and_then (arrays_found (root_read s) (length s) (length g)) λ a.
    arrays_check (bytes_of a.nodes s g) (bytes_of a.links s g) (bytes_of a.junctions s g) (bytes_of a.heights s g)
    (bytes_of a.refs s g))
