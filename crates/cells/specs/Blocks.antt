-- Section 4, writing: the five arrays, and the section that a cell is written as.
use Rattle.std.specs.Prelude.{ℕ, ◌+◌, List, [], ◌∷◌, ◌++◌, map, length}
use Rattle.records.specs.Put.{joined}
use Rattle.records.specs.Records.{node_bytes, link_bytes, junction_bytes, ref_bytes}
use Rattle.records.specs.Layout.{places_of, section_bytes}
use Rattle.records.specs.declared.root.Root.{Root}
use Rattle.cells.specs.Entries.{links_in, values_in, stored_start, file_node, file_link, file_junction}
use Rattle.cells.specs.Memory.{Memory}
use Rattle.cells.specs.declared.node_entry.NodeEntry.{NodeEntry}
use Rattle.cells.specs.declared.link.PathLink.{PathLink}
use Rattle.cells.specs.declared.junction_entry.JunctionEntry.{JunctionEntry}
use Rattle.records.specs.declared.junction_ref.NodeJunctionRef.{NodeJunctionRef}

-- ---- records

abbrev pub link_record : PathLink → List ℕ
link_record l = link_bytes (file_link l)

-- with how many bytes of heightmaps stand before its own
abbrev pub junction_record : ℕ → JunctionEntry → List ℕ
junction_record start j = junction_bytes (file_junction start j)

-- with how many links stand before its own
abbrev pub node_record : List PathLink → ℕ → NodeEntry → List ℕ
node_record links before n =
    node_bytes (file_node (stored_start before (length (links_in links n))) (length (links_in links n)) n)

-- ---- arrays

-- g of each, with where its own part of the joined lists starts, counted from k
unfoldable pub laid : {A B C : Type 0} → (A → List B) → (ℕ → A → List C) → ℕ → List A → List C
laid f g k [] = []
laid f g k (x ∷ xs) = g k x ++ laid f g (k + length (f x)) xs

abbrev pub refs_block : List NodeJunctionRef → List ℕ
refs_block refs = joined ref_bytes refs

-- heightmaps in junction order
abbrev pub heights_block : List ℕ → List JunctionEntry → List ℕ
heights_block heights junctions = joined (values_in heights) junctions

abbrev pub junctions_block : List ℕ → List JunctionEntry → List ℕ
junctions_block heights junctions = laid (values_in heights) junction_record 0 junctions

abbrev pub links_records : List PathLink → NodeEntry → List ℕ
links_records links n = joined link_record (links_in links n)

-- links in node order
abbrev pub links_block : List PathLink → List NodeEntry → List ℕ
links_block links nodes = joined (links_records links) nodes

abbrev pub nodes_block : List PathLink → List NodeEntry → List ℕ
nodes_block links nodes = laid (links_in links) (node_record links) 0 nodes

-- refs, heightmap bytes, junctions, links, nodes
unfoldable pub arrays : List NodeEntry → List PathLink → List JunctionEntry → List ℕ → List NodeJunctionRef
    → List (List ℕ)
arrays nodes links junctions heights refs =
    refs_block refs ∷ heights_block heights junctions ∷ junctions_block heights junctions
    ∷ links_block links nodes ∷ nodes_block links nodes ∷ []

abbrev pub blocks : Memory → List (List ℕ)
blocks m = arrays m.nodes m.links m.junctions m.heights m.refs

-- ---- the section

unfoldable pub root_for : Memory → List ℕ → Root
root_for m sizes = record {
  vft = m.ynd.vft;
  nodes = (places_of sizes).nodes;
  node_count = length m.nodes;
  vehicle_node_count = m.ynd.vehicle_node_count;
  ped_node_count = m.ynd.ped_node_count;
  links = (places_of sizes).links;
  link_count = length (joined (links_in m.links) m.nodes);
  junctions = (places_of sizes).junctions;
  heightmap = (places_of sizes).heightmap;
  refs = (places_of sizes).refs;
  ref_count = length m.refs;
  junction_count = length m.junctions;
  heightmap_count = length (heights_block m.heights m.junctions);
  unknowns = m.ynd.unknowns;
}

unfoldable pub written : Memory → List ℕ
written m = section_bytes (root_for m (map length (blocks m))) (blocks m)
