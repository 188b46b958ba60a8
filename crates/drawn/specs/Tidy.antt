-- What every cell has that a new cell or reading and any list of public calls made, in the memory lent to them.
use Rattle.std.specs.Prelude.{ℕ, ◌≤◌, List, length, get_or}
use Rattle.cells.specs.declared.node_entry.NodeEntry.{NodeEntry}
use Rattle.cells.specs.declared.junction_entry.JunctionEntry.{JunctionEntry}
use Rattle.cells.specs.Nodes.{no_entry, no_map, value_count}
use Rattle.cells.specs.Memory.{Memory}
use Rattle.drawn.specs.Separate.{Separate}

-- the ranges of links of n nodes, of l links: inside, and apart
abbrev pub LinksApart : ℕ → ℕ → List NodeEntry → Type 0
LinksApart n l nodes =
    Separate (λ q. (get_or nodes q no_entry).link_id) (λ q. (get_or nodes q no_entry).link_count) n l

-- the ranges of values of n junctions, of l values: inside, and apart. A junction's count of values is width × height.
abbrev pub ValuesApart : ℕ → ℕ → List JunctionEntry → Type 0
ValuesApart n l junctions =
    Separate (λ q. (get_or junctions q no_map).heightmap_ptr) (λ q. value_count (get_or junctions q no_map)) n l

pub record Tidy (m : Memory) : Type 0 where
  -- counts within section 4's limits; a node's count of links is a byte, so at most 255
  pub few_nodes : m.ynd.node_count ≤ 65536
  pub few_junctions : m.ynd.junction_count ≤ 4096
  -- each list is as long as its count says
  pub nodes_lie : m.ynd.node_count ≤ length m.nodes
  pub links_lie : m.ynd.link_count ≤ length m.links
  pub junctions_lie : m.ynd.junction_count ≤ length m.junctions
  pub values_lie : m.ynd.heightmap_count ≤ length m.heights
  pub refs_lie : m.ynd.ref_count ≤ length m.refs
  -- each node has its own links, each junction its own values
  pub links_apart : LinksApart m.ynd.node_count m.ynd.link_count m.nodes
  pub values_apart : ValuesApart m.ynd.junction_count m.ynd.heightmap_count m.junctions
