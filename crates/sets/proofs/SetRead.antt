-- The claim's hypotheses hold of something: two files, each read by an accepted reading, whose cells link into each
-- other.
use Prim.Native.Nat.{ℕ, suc, zero, ◌<◌}
use native.Mathlib.Omega.{arith}
use mathlib.Core.Path.{◌≡◌, refl}
use mathlib.Core.Bool.{true}
use mathlib.Core.List.{List, [], ◌∷◌, ◌++◌}
use lib.IntN.{pos}
use lib.ListN.{length}
use Rattle.records.specs.Bytes.{number_at, number_bytes, bits16}
use Rattle.records.specs.Sections.{located, extent, bytes_of}
use Rattle.records.specs.Root.{unknowns_of, root_of, root_bytes}
use Rattle.records.specs.Records.{node_at, node_bytes, link_at, link_bytes, junction_at}
use Rattle.cells.specs.Lists.{up_to, join_to, sum_to, every}
use Rattle.cells.specs.Paths.{path_node, path_link}
use Rattle.cells.specs.Checks.{sizes_check, arrays_found, scan, arrays_check}
use Rattle.cells.specs.Memory.{Memory, memory}
use Rattle.cells.specs.Read.{links_from, node_in, links_in, room_check, cell_read, filled, read_arrays, read_of}
use Rattle.cells.specs.Area.{belongs}
use Rattle.cells.specs.Nodes.{no_entry, no_link}
use Rattle.cells.specs.CellOf.{nodes_of, junctions_of, refs_of, cell_of}
use Rattle.cells.specs.Lookup.{first_with}
use Rattle.walks.specs.Sound.{differing, sound}
use Rattle.sets.specs.Members.{member_for, every_from}
use Rattle.sets.specs.SetSound.{set_sound}
use Rattle.sets.specs.MemberList.{member_at, cells_of}
use Rattle.sets.specs.SetCalls.{SetCall}
use Rattle.sets.specs.SetClaim.{CellAsRead, SetUnnoticed}
use Rattle.sets.proofs.SetDemand.{set_unnoticed, as_read}
use Rattle.std.specs.Prelude.{Ok}

-- a root with two nodes and two links behind it, and no other array
abbrev root : List ℕ
root = root_bytes (record {
  vft = 0;
  nodes = 0x50000070;
  node_count = 2;
  vehicle_node_count = 0;
  ped_node_count = 0;
  links = 0x500000c0;
  link_count = 2;
  junctions = 0;
  heightmap = 0;
  refs = 0;
  ref_count = 0;
  junction_count = 0;
  heightmap_count = 0;
  unknowns = [];
})

abbrev node_from : ℕ → ℕ → ℕ → ℕ → List ℕ
node_from area number link flags1 = node_bytes (record {
  unused0 = 0;
  unused1 = 0;
  unused2 = 0;
  unused3 = 0;
  area_id = area;
  node_id = number;
  street_name = 0;
  unused4 = 0;
  link_id = link;
  position_x = pos 4;
  position_y = pos 4;
  flags0 = 0;
  flags1 = flags1;
  position_z = pos 32;
  flags2 = 0;
  link_count_flags = 8;
  flags3 = 0;
  flags4 = 0;
})

abbrev link_from : ℕ → ℕ → List ℕ
link_from area number = link_bytes (record {
  area_id = area;
  node_id = number;
  flags0 = 0;
  flags1 = 0;
  flags2 = 0;
  link_length = 1;
})

-- a file of this area: nodes 7 (a ped node) and 3, with links to node 3 and node 7 of the other area
unfoldable pub file_of : ℕ → ℕ → List ℕ
file_of area other = root ++ node_from area 7 0 80 ++ node_from area 3 1 0 ++ link_from other 3 ++ link_from other 7

unfoldable pub room : Memory
room =
    memory
    (record {
      vft = 0;
      vehicle_node_count = 0;
      ped_node_count = 0;
      unknowns = [];
      node_count = 0;
      link_count = 0;
      junction_count = 0;
      heightmap_count = 0;
      ref_count = 0;
    })
    (no_entry ∷ no_entry ∷ []) (no_link ∷ no_link ∷ []) [] [] []

pub reads_5 : (read_of (file_of 5 6) [] room).answer ≡ (Ok tt)
unfolding file_of room root_bytes node_bytes link_bytes number_bytes bits16 read_of sizes_check arrays_found located
    root_of unknowns_of number_at bytes_of extent read_arrays arrays_check scan node_at junction_at sum_to room_check
reads_5 = refl

pub reads_6 : (read_of (file_of 6 5) [] room).answer ≡ (Ok tt)
unfolding file_of room root_bytes node_bytes link_bytes number_bytes bits16 read_of sizes_check arrays_found located
    root_of unknowns_of number_at bytes_of extent read_arrays arrays_check scan node_at junction_at sum_to room_check
reads_6 = refl

abbrev pub members : List Memory
members = (read_of (file_of 5 6) [] room).memory ∷ (read_of (file_of 6 5) [] room).memory ∷ []

pub members_sound : set_sound (cells_of members) ≡ true
unfolding file_of room root_bytes node_bytes link_bytes number_bytes bits16 read_of sizes_check arrays_found located
    root_of unknowns_of number_at bytes_of extent read_arrays arrays_check scan node_at link_at junction_at sum_to
    up_to join_to room_check filled cell_read node_in links_in links_from path_link path_node set_sound sound every
    every_from member_for belongs first_with cell_of nodes_of junctions_of refs_of differing
members_sound = refl

each : (i : ℕ) → i < length members → CellAsRead (member_at members i)
each zero lt = as_read (file_of 5 6) [] room reads_5
each (suc zero) lt = as_read (file_of 6 5) [] room reads_6
each (suc (suc i)) lt = absurd (omega arith)

-- the claim, of these two members and every list of calls on them
pub two_members : (calls : List SetCall) → SetUnnoticed members calls
two_members = set_unnoticed members each members_sound
