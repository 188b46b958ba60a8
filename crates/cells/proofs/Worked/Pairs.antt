-- Document 01's starred pairs, over the definitions that the contracts cite.
-- Assumes nothing.
use Prim.Native.Nat.{ℕ, ◌+◌}
use mathlib.Core.Path.{◌≡◌, refl}
use mathlib.Core.List.{[], ◌∷◌}
use Rattle.cells.specs.Area.{belongs}
use Rattle.cells.specs.Order.{keep, rank, parted, new_place, new_places, listed, last_with, new_number, renamed}
use Rattle.cells.specs.Nodes.{area_of, number_of, is_ped, numbered}
use Rattle.cells.specs.Nodes.{number_from, reordered, first_area, old_of, no_entry}
use Rattle.cells.specs.Nodes.{relinked, rereffed}
use Rattle.cells.specs.Memory.{Memory, memory, over_limit, short_of}
use Rattle.cells.specs.Renumber.{vehicles, peds, renumber_lists, recounted, answer_of, new_lists, renumber_memory}
use Rattle.cells.specs.Renumber.{renumber}
use Rattle.cells.specs.declared.ynd.Ynd.{Ynd}
use Rattle.cells.specs.declared.node_entry.NodeEntry.{NodeEntry}
use Rattle.cells.specs.declared.link.PathLink.{PathLink}
use Rattle.records.specs.declared.junction_ref.NodeJunctionRef.{NodeJunctionRef}
use Rattle.std.specs.Prelude.{Ok}

-- ---- renumbering

-- a node of area 1177 with this number, these flags1 and five unused words from `tag` on
abbrev node : ℕ → ℕ → ℕ → NodeEntry
node k flags1 tag =
    record no_entry {
      area_id = 1177;
      node_id = k;
      street_name = 1;
      flags1 = flags1;
      flags3 = 6;
      link_id = 7;
      unused0 = tag;
      unused1 = tag + 1;
      unused2 = tag + 2;
      unused3 = tag + 3;
      unused4 = tag + 4;
    }

abbrev link : ℕ → ℕ → PathLink
link area k = record { area_id = area; node_id = k; flags0 = 5; flags1 = 0; flags2 = 6; length = 0 }

abbrev ref : ℕ → ℕ → NodeJunctionRef
ref area k = record { area_id = area; node_id = k; junction_id = 5; unk0 = 6 }

-- three nodes, four links and one ref, with these counts of vehicle and ped nodes
abbrev cell : ℕ → ℕ → Ynd
cell v p = record {
  vft = 8;
  vehicle_node_count = v;
  ped_node_count = p;
  unknowns = 1 ∷ 2 ∷ 3 ∷ 4 ∷ 5 ∷ 6 ∷ 7 ∷ [];
  node_count = 3;
  link_count = 4;
  junction_count = 0;
  heightmap_count = 0;
  ref_count = 1;
}

abbrev pub three : Memory
three =
    memory (cell 0 0) (node 7 0 10 ∷ node 3 80 20 ∷ node 9 0 30 ∷ node 5 0 40 ∷ [])
    (link 1177 3 ∷ link 1177 9 ∷ link 1178 9 ∷ link 1177 5 ∷ link 1177 7 ∷ []) [] [] (ref 1177 7 ∷ ref 1177 3 ∷ [])

-- numbers 7, 3 (ped), 9 become 0, 2, 1; each list has one entry more than is counted, which stays;
-- a link of another area, and one whose number no node had, stay too; the unused words go with their nodes (T-10)
pub renumber_pair : renumber three 65536 (50 ∷ 51 ∷ 52 ∷ 53 ∷ [])
    ≡ record {
      answer = (Ok tt);
      memory =
          memory (cell 2 1) (node 0 0 10 ∷ node 1 0 30 ∷ node 2 80 20 ∷ node 5 0 40 ∷ [])
          (link 1177 2 ∷ link 1177 1 ∷ link 1178 9 ∷ link 1177 5 ∷ link 1177 7 ∷ []) [] []
          (ref 1177 0 ∷ ref 1177 3 ∷ []);
      places = 0 ∷ 2 ∷ 1 ∷ 53 ∷ [];
    }
unfolding renumber over_limit answer_of short_of renumber_memory new_lists recounted vehicles peds renumber_lists
    reordered number_from numbered parted keep is_ped relinked rereffed renamed belongs new_number last_with new_place
    new_places listed rank old_of first_area area_of number_of
renumber_pair = refl

-- of two equal numbers the last node counts
pub last_counts : new_number (old_of 3 (node 4 0 0 ∷ node 4 0 0 ∷ node 8 0 0 ∷ [])) 4 ≡ 1
unfolding new_number last_with new_place rank keep is_ped old_of first_area area_of number_of
last_counts = refl
