-- What reading leaves.
use Rattle.std.specs.Prelude.{ℕ, ◌+◌, ◌*◌, List, ◌++◌, length, drop}
use Rattle.numbers.specs.Refusals.{decided}
use Rattle.records.specs.Bytes.{byte_at}
use Rattle.records.specs.Sections.{bytes_of}
use Rattle.records.specs.Records.{node_at, link_at, junction_at, ref_at}
use Rattle.records.specs.declared.root.Root.{Root}
use Rattle.records.specs.declared.section.Part.{Part}
use Rattle.cells.specs.Lists.{up_to, join_to, sum_to}
use Rattle.cells.specs.Paths.{path_node, path_link, path_junction}
use Rattle.cells.specs.Checks.{root_read, sizes_check, arrays_found, arrays_check, links_at, values_at}
use Rattle.cells.specs.Memory.{Memory, memory, Left, refuse, unless, room_causes}
use Rattle.cells.specs.declared.ynd.Ynd.{Ynd}
use Rattle.cells.specs.declared.counts.Counts.{Counts}
use Rattle.std.specs.Prelude.{Result, Ok, Err}
use Rattle.numbers.specs.Refusals.{Answer}
use Rattle.numbers.specs.declared.refusal.Refusal.{Refusal}
use Rattle.cells.specs.declared.arrays.Arrays.{Arrays}
use Rattle.cells.specs.declared.node_entry.NodeEntry.{NodeEntry}
use Rattle.cells.specs.declared.link.PathLink.{PathLink}
use Rattle.cells.specs.declared.junction_entry.JunctionEntry.{JunctionEntry}
use Rattle.records.specs.declared.junction_ref.NodeJunctionRef.{NodeJunctionRef}

-- `count` links of the array l, from link `from` on; `count` values of the bytes h, from `from` on
unfoldable pub links_from : List ℕ → ℕ → ℕ → List PathLink
links_from l from count = up_to (λ k. path_link (link_at l ((from + k) * 8))) count

unfoldable pub values_from : List ℕ → ℕ → ℕ → List ℕ
values_from h from count = up_to (λ k. byte_at h (from + k)) count

-- node i of the array n in memory, its links after those of the nodes before it; its own copy of its links
unfoldable pub node_in : List ℕ → ℕ → NodeEntry
node_in n i = path_node (node_at n (i * 40)) (sum_to (links_at n) i)

unfoldable pub links_in : List ℕ → List ℕ → ℕ → List PathLink
links_in n l i = links_from l (node_at n (i * 40)).link_id (links_at n i)

-- junction i of the array j, and its values, likewise
unfoldable pub junction_in : List ℕ → ℕ → JunctionEntry
junction_in j i = path_junction (junction_at j (i * 12)) (sum_to (values_at j) i)

unfoldable pub values_in : List ℕ → List ℕ → ℕ → List ℕ
values_in j h i = values_from h (junction_at j (i * 12)).heightmap_ptr (values_at j i)

unfoldable pub ref_in : List ℕ → ℕ → NodeJunctionRef
ref_in r i = ref_at r (i * 8)

-- 7: the memory lent holds what is read
unfoldable pub room_check : Counts → ℕ → ℕ → ℕ → ℕ → ℕ → Answer
room_check k nodes links junctions heights refs = decided (room_causes k nodes links junctions heights refs)

unfoldable pub cell_read : Root → Counts → Ynd
cell_read root k = record {
  node_count = k.nodes;
  link_count = k.links;
  junction_count = k.junctions;
  heightmap_count = k.heights;
  ref_count = k.refs;
  vft = root.vft;
  vehicle_node_count = root.vehicle_node_count;
  ped_node_count = root.ped_node_count;
  unknowns = root.unknowns;
}

-- what is read stands in front of each list, and the rest stays
unfoldable pub filled : Root → Counts → List ℕ → List ℕ → List ℕ → List ℕ → List ℕ → Memory → Memory
filled root k n l j h r m =
    memory
    (cell_read root k)
    (up_to (node_in n) k.nodes ++ drop k.nodes m.nodes)
    (join_to (links_in n l) k.nodes ++ drop k.links m.links)
    (up_to (junction_in j) k.junctions ++ drop k.junctions m.junctions)
    (join_to (values_in j h) k.junctions ++ drop k.heights m.heights)
    (up_to (ref_in r) k.refs ++ drop k.refs m.refs)

abbrev pub if_held : Result Counts Refusal → Memory → (Counts → Left) → Left
if_held (Err cause) m next = refuse cause m
if_held (Ok k) m next = next k

abbrev pub if_found : Result Arrays Refusal → Memory → (Part → Part → Part → Part → Part → Left) → Left
if_found (Err cause) m next = refuse cause m
if_found (Ok p) m next = next p.nodes p.links p.junctions p.heights p.refs

-- from the five arrays
unfoldable pub read_arrays : Root → List ℕ → List ℕ → List ℕ → List ℕ → List ℕ → Memory → Left
read_arrays root n l j h r m =
    if_held (arrays_check n l j h r) m λ k.
    unless (room_check k (length m.nodes) (length m.links) (length m.junctions) (length m.heights) (length m.refs)) m
    (record { answer = Ok tt; memory = filled root k n l j h r m })

-- from the two sections
unfoldable pub read_of : List ℕ → List ℕ → Memory → Left
read_of s g m =
    unless (sizes_check (length s) (length g)) m
    (if_found (arrays_found (root_read s) (length s) (length g)) m λ n l j h r.
    read_arrays (root_read s) (bytes_of n s g) (bytes_of l s g) (bytes_of j s g) (bytes_of h s g) (bytes_of r s g) m)
