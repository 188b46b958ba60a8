-- Section 4: a cell that holds nothing, with the root's own words as the Rust's `Ynd::new` sets them.
use Rattle.cells.specs.Cell.{Cell}
use Rattle.std.specs.Prelude.{[], ◌∷◌}
use Rattle.records.specs.declared.root.Root.{Root}
use Rattle.cells.specs.declared.ynd.Ynd.{Ynd}

unfoldable pub new_ynd : Ynd
new_ynd = record {
  vft = 0x4061E3B0;
  vehicle_node_count = 0;
  ped_node_count = 0;
  unknowns = 0 ∷ 0 ∷ 1 ∷ 0 ∷ 0 ∷ 0 ∷ 0 ∷ [];
  node_count = 0;
  link_count = 0;
  junction_count = 0;
  heightmap_count = 0;
  ref_count = 0;
}

-- T-02: the root of a section that holds nothing yet: these words, and no array
unfoldable pub new_root : Root
new_root = record {
  vft = new_ynd.vft;
  nodes = 0;
  node_count = 0;
  vehicle_node_count = new_ynd.vehicle_node_count;
  ped_node_count = new_ynd.ped_node_count;
  links = 0;
  link_count = 0;
  junctions = 0;
  heightmap = 0;
  refs = 0;
  ref_count = 0;
  junction_count = 0;
  heightmap_count = 0;
  unknowns = new_ynd.unknowns;
}

-- the cell that it is
abbrev pub new_cell : Cell
new_cell = record {
  nodes = [];
  junctions = [];
  refs = [];
  vehicles = 0;
  peds = 0;
  vft = new_ynd.vft;
  words = new_ynd.unknowns;
}
