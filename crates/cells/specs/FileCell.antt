-- Sections 1 to 4: the cell that two sections hold.
use Rattle.std.specs.Prelude.{ℕ, ◌+◌, ◌*◌, ◌/◌, List, length}
use Rattle.std.specs.Float.{binary32}
use Rattle.std.specs.Float.Ieee.{to_bits}
use Rattle.numbers.specs.Steps.{unstep}
use Rattle.records.specs.Bytes.{byte_at}
use Rattle.records.specs.Sections.{array_at}
use Rattle.records.specs.Records.{node_at, link_at, junction_at, ref_at}
use Rattle.cells.specs.Lists.{up_to}
use Rattle.cells.specs.Checks.{root_read}
use Rattle.cells.specs.Paths.{path_node, path_link}
use Rattle.cells.specs.declared.node_entry.NodeEntry.{NodeEntry}
use Rattle.cells.specs.Cell.{Node, Junction, Cell, body_of}
use Rattle.records.specs.declared.root.Root.{Root}
use Rattle.records.specs.declared.node.Node as raw-node
use Rattle.records.specs.declared.junction.NodeJunction.{NodeJunction}
use Rattle.records.specs.declared.junction_ref.NodeJunctionRef.{NodeJunctionRef}

-- ---- records. T-10: a node's unused fields are kept. Section 3: coordinates are read from their steps.

abbrev pub file_body : raw-node.Node → NodeEntry
file_body n = body_of (path_node n 0)

-- Section 4: its links are those of the array l from `link_id` on, as many as the top five bits of `link_count_flags`
-- say. Each node gets its copy.
abbrev pub file_node_of : List ℕ → raw-node.Node → Node
file_node_of l n = record {
  area = n.area_id;
  number = n.node_id;
  links = up_to (λ k. path_link (link_at l ((n.link_id + k) * 8))) (n.link_count_flags / 8);
  body = file_body n;
}

-- Section 4: its heightmap is width × height of the bytes h, from `heightmap_ptr` on.
abbrev pub file_junction_of : List ℕ → NodeJunction → Junction
file_junction_of h j = record {
  x = to_bits binary32 (unstep 2 j.position_x);
  y = to_bits binary32 (unstep 2 j.position_y);
  low = to_bits binary32 (unstep 5 j.min_z);
  high = to_bits binary32 (unstep 5 j.max_z);
  width = j.heightmap_dim_x;
  height = j.heightmap_dim_y;
  values = up_to (λ k. byte_at h (j.heightmap_ptr + k)) (j.heightmap_dim_x * j.heightmap_dim_y);
}

-- ---- the five arrays, by their bytes: n nodes, l links, j junctions, h heightmap, r refs

unfoldable pub file_nodes : List ℕ → List ℕ → List Node
file_nodes n l = up_to (λ i. file_node_of l (node_at n (i * 40))) (length n / 40)

unfoldable pub file_junctions : List ℕ → List ℕ → List Junction
file_junctions j h = up_to (λ i. file_junction_of h (junction_at j (i * 12))) (length j / 12)

unfoldable pub file_refs : List ℕ → List NodeJunctionRef
file_refs r = up_to (λ i. ref_at r (i * 8)) (length r / 8)

-- Section 4: a cell holds nodes, each with its links, junctions with heightmaps, refs, the root's own words.
unfoldable pub cell_from : Root → List ℕ → List ℕ → List ℕ → List ℕ → List ℕ → Cell
cell_from root n l j h r = record {
  nodes = file_nodes n l;
  junctions = file_junctions j h;
  refs = file_refs r;
  vehicles = root.vehicle_node_count;
  peds = root.ped_node_count;
  vft = root.vft;
  words = root.unknowns;
}

-- Sections 1 and 2: the arrays lie where the root says.
unfoldable pub cell_by : Root → List ℕ → List ℕ → Cell
cell_by r s g =
    cell_from r (array_at r.nodes r.node_count 40 s g) (array_at r.links r.link_count 8 s g)
    (array_at r.junctions r.junction_count 12 s g) (array_at r.heightmap r.heightmap_count 1 s g)
    (array_at r.refs r.ref_count 8 s g)

unfoldable pub file_cell : List ℕ → List ℕ → Cell
file_cell s g = cell_by (root_read s) s g
