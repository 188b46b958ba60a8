-- Document 01's starred pairs, as one proved list over the definitions that the contracts cite. A decimal is the
-- f32 nearest to it.
use Prim.Native.Nat.{ℕ, ◌+◌, ◌-◌, ◌*◌, ◌≤◌}
use mathlib.Core.Path.{◌≡◌, ap}
use mathlib.Core.Bool.{true, false}
use mathlib.Core.List.{List, [], ◌∷◌}
use lib.IntN.{pos, negsuc}
use lib.Ieee.{nan, binary32, round}
use lib.ListN.{length, take}
use Rattle.numbers.specs.Steps.{step_of}
use Rattle.numbers.specs.Grid.{cell_along, cell_of_area}
use Rattle.numbers.specs.Lengths.{length_of}
use Rattle.numbers.specs.Pairs as numbers
use Rattle.records.specs.Bytes.{le64}
use Rattle.cells.specs.Memory.{Memory, memory}
use Rattle.cells.specs.Renumber.{Renumbered, renumber}
use Rattle.cells.specs.Blocks.{written}
use Rattle.cells.specs.Write.{refuse, held, write_call}
use Rattle.cells.specs.declared.ynd.Ynd.{Ynd}
use Rattle.cells.specs.Nodes.{no_entry}
use Rattle.cells.specs.declared.node_entry.NodeEntry.{NodeEntry}
use Rattle.cells.specs.declared.link.PathLink.{PathLink}
use Rattle.records.specs.declared.junction_ref.NodeJunctionRef.{NodeJunctionRef}
use Rattle.cells.proofs.Worked.Pairs as renumbering
use Rattle.cells.proofs.Worked.WritePairs.{one_node, links_31, links_32, bare_node, bare_address}
use Rattle.std.specs.Prelude.{Ok}
use Rattle.numbers.specs.declared.refusal.Refusal.TheVariants.{TooManyLinks}

-- a node of area 1177 with this number, these flags1 and five unused fields from `tag` on; a link; a ref
abbrev node : ℕ → ℕ → ℕ → NodeEntry
node k flags1 tag =
    record no_entry {
      area_id = 1177;
      node_id = k;
      street_name = 1;
      flags1 = flags1;
      flags3 = 6;
      link_id = 7;
      unused0 = tag;
      unused1 = tag + 1;
      unused2 = tag + 2;
      unused3 = tag + 3;
      unused4 = tag + 4;
    }

abbrev link : ℕ → ℕ → PathLink
link area k = record { area_id = area; node_id = k; flags0 = 5; flags1 = 0; flags2 = 6; length = 0 }

abbrev ref : ℕ → ℕ → NodeJunctionRef
ref area k = record { area_id = area; node_id = k; junction_id = 5; unk0 = 6 }

-- nodes numbered 7, 3 (ped) and 9, with four links and a ref; each list has one entry more than is counted
abbrev cell : Ynd
cell = record {
  vft = 8;
  vehicle_node_count = 0;
  ped_node_count = 0;
  unknowns = 1 ∷ 2 ∷ 3 ∷ 4 ∷ 5 ∷ 6 ∷ 7 ∷ [];
  node_count = 3;
  link_count = 4;
  junction_count = 0;
  heightmap_count = 0;
  ref_count = 1;
}

abbrev three : Memory
three =
    memory cell (node 7 0 10 ∷ node 3 80 20 ∷ node 9 0 30 ∷ node 5 0 40 ∷ [])
    (link 1177 3 ∷ link 1177 9 ∷ link 1178 9 ∷ link 1177 5 ∷ link 1177 7 ∷ []) [] [] (ref 1177 7 ∷ ref 1177 3 ∷ [])

abbrev renumbered : Renumbered
renumbered = renumber three 65536 (50 ∷ 51 ∷ 52 ∷ 53 ∷ [])

pub record Starred : Type 0 where
  -- x -0.3 stores -1; 8191.75 and 8192 store 32767; NaN 0. z -1024 stores -32768
  pub x_tenths : step_of 2 (round binary32 true 3 10) ≡ negsuc 0
  pub x_last : step_of 2 (round binary32 false 32767 4) ≡ pos 32767
  pub x_over : step_of 2 (round binary32 false 8192 1) ≡ pos 32767
  pub x_nan : step_of 2 nan ≡ pos 0
  pub z_least : step_of 5 (round binary32 true 1024 1) ≡ negsuc 32767
  -- grid x -1/8192 gives 16, -1/2048 gives 15
  pub grid_up : cell_along (round binary32 true 1 8192) ≡ 16
  pub grid_below : cell_along (round binary32 true 1 2048) ≡ 15
  -- s = 25 gives 5; s = 32761 - 1/512 gives 181
  pub length_whole : length_of (round binary32 false 25 1) ≡ 5
  pub length_rounded : length_of (round binary32 false (32761 * 512 - 1) 512) ≡ 181
  -- area 1177 is cell (25, 4)
  pub area_island : cell_of_area 1177 ≡ record { x = 25; y = 4 }
  -- numbers 7, 3 (ped), 9 become 0, 2, 1: by the new places, and by the nodes in their new order
  pub new_numbers : take 3 renumbered.places ≡ 0 ∷ 2 ∷ 1 ∷ []
  pub new_order : take 3 renumbered.memory.nodes ≡ node 0 0 10 ∷ node 1 0 30 ∷ node 2 80 20 ∷ []
  -- 31 links write, wherever there is room; 32 don't
  pub links_31 : (section : List ℕ) → 1448 ≤ length section → (write_call (one_node 31) section).answer ≡ Ok 1448
  pub links_32 : (section : List ℕ) → write_call (one_node 32) section ≡ refuse (TooManyLinks 0) section
  -- one bare node writes 1,192 bytes, nodes address 0x50000480
  pub bare_node : (section : List ℕ) → 1192 ≤ length section → (write_call (one_node 0) section).answer ≡ Ok 1192
  pub bare_address : le64 (written (held (one_node 0))) 16 ≡ 0x50000480

pub starred : Starred
starred = record {
  x_tenths = numbers.steps_x_tenths;
  x_last = numbers.steps_x_last;
  x_over = numbers.steps_x_over;
  x_nan = numbers.steps_x_nan;
  z_least = numbers.steps_z_least;
  grid_up = numbers.grid_rounded_up;
  grid_below = numbers.grid_below;
  length_whole = numbers.length_whole;
  length_rounded = numbers.length_rounded;
  area_island = numbers.area_island;
  new_numbers = ap (λ (r : Renumbered). take 3 r.places) renumbering.renumber_pair;
  new_order = ap (λ (r : Renumbered). take 3 r.memory.nodes) renumbering.renumber_pair;
  links_31 = links_31;
  links_32 = links_32;
  bare_node = bare_node;
  bare_address = bare_address;
}
