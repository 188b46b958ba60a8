-- A cell in memory as reading leaves it. That calls leave it so: AsReadKept, and of made cells drawn TidyAsRead.
use Prim.Native.Nat.{ℕ, ◌*◌, ◌<◌, ◌≤◌}
use Rattle.std.specs.List.{All}
use mathlib.Core.Path.{◌≡◌}
use mathlib.Core.Bool.{Bool, true}
use lib.Dec.{eqb}
use lib.ListN.{length}
use Rattle.records.specs.Put.{joined}
use Rattle.cells.specs.Lists.{every}
use Rattle.cells.specs.Cell.{Junction, Cell}
use Rattle.cells.specs.CellOf.{cell_of}
use Rattle.cells.specs.Memory.{Memory}

-- a junction has width × height values
abbrev pub whole_map : Junction → Bool
whole_map j = eqb (length j.values) (j.width * j.height)

-- its own counts are bytes
pub record SizedMap (j : Junction) : Type 0 where
  pub width : j.width < 256
  pub height : j.height < 256

-- how many links the nodes have, and how many values the junctions, each its own copy
abbrev pub links_held : Cell → ℕ
links_held c = length (joined (λ n. n.links) c.nodes)

abbrev pub values_held : Cell → ℕ
values_held c = length (joined (λ j. j.values) c.junctions)

-- within the limits of 6, heightmaps whole, and lists long enough for every node's own links and every junction's
-- own values
pub record AsRead (m : Memory) : Type 0 where
  pub few_nodes : length (cell_of m).nodes ≤ 65536
  pub few_junctions : length (cell_of m).junctions ≤ 4096
  pub sized : All SizedMap (cell_of m).junctions
  pub maps_whole : every whole_map (cell_of m).junctions ≡ true
  pub links_fit : links_held (cell_of m) ≤ length m.links
  pub values_fit : values_held (cell_of m) ≤ length m.heights
