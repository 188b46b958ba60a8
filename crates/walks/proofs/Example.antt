-- Demand 3 speaks of something: bytes that read as a sound cell of three nodes, one of them a ped node with a
-- junction,
-- and a list of calls on it: an accepted renumbering, a refused one, and an accepted write-then-read. All of it is
-- computed. What the claim's own words give here is in ClaimFacts.
use Prim.Native.Nat.{ℕ, ◌+◌}
use mathlib.Core.Path.{◌≡◌, refl}
use mathlib.Core.Bool.{Bool, true, false}
use mathlib.Core.List.{List, [], ◌∷◌, ◌++◌, map}
use lib.IntN.{pos}
use lib.ListN.{replicate}
use Rattle.numbers.specs.Steps.{step_of, unstep}
use Rattle.records.specs.Bytes.{number_at, number_bytes, signed16, bits16}
use Rattle.records.specs.Sections.{located, extent, bytes_of, array_at}
use Rattle.records.specs.Root.{unknowns_of, root_of, root_bytes}
use Rattle.records.specs.Records.{node_at, node_bytes, link_at, link_bytes, junction_at, junction_bytes, ref_at}
use Rattle.records.specs.Records.{ref_bytes}
use Rattle.records.specs.Put.{joined}
use Rattle.records.specs.Layout.{pages, header_bytes, gap_for, padded, start_of, lay, offset, total, address}
use Rattle.records.specs.Layout.{places_of, section_bytes}
use Rattle.cells.specs.Lists.{up_to, join_to, sum_to, every}
use Rattle.cells.specs.Paths.{path_node, path_link, path_junction}
use Rattle.cells.specs.Checks.{sizes_check, arrays_found, scan, arrays_check}
use Rattle.cells.specs.Memory.{Memory, memory, over_limit, short_of}
use Rattle.cells.specs.Read.{links_from, node_in, links_in, values_from, junction_in, values_in, ref_in, room_check}
use Rattle.cells.specs.Read.{cell_read, filled, read_arrays, read_of}
use Rattle.cells.specs.Area.{belongs}
use Rattle.cells.specs.Order.{keep, rank, parted, new_place, listed, new_places, last_with, new_number, renamed}
use Rattle.cells.specs.Nodes.{no_entry, no_link, no_map, no_ref}
use Rattle.cells.specs.Nodes.{is_ped, number_from, reordered, first_area, old_of}
use Rattle.cells.specs.CellOf.{nodes_of, cell_of}
use Rattle.cells.specs.Unused.{unused_of}
use Rattle.cells.specs.FileCell.{file_nodes, file_junctions, file_refs, cell_from, cell_by, file_cell}
use Rattle.cells.specs.Lookup.{first_with}
use Rattle.cells.specs.Renumber.{vehicles, peds, renumber_lists, recounted, answer_of, new_lists, renumber_memory}
use Rattle.cells.specs.Renumber.{renumber}
use Rattle.cells.specs.Entries.{file_node, file_link, file_junction}
use Rattle.cells.specs.Entries as entries
use Rattle.cells.specs.WriteChecks.{values_within, maps_cut, check_nodes, check_junctions}
use Rattle.cells.specs.Blocks.{laid, arrays, root_for, written}
use Rattle.cells.specs.Write.{held, stored, write_held, write_call}
use Rattle.cells.specs.WriteRead.{write_read_of}
use Rattle.walks.specs.Sound.{differing, sound}
use Rattle.walks.specs.Calls.{Call, renumbering, write_read, after, run, renumbers, moved}
use Rattle.std.specs.Prelude.{Result, Ok, Err}
use Rattle.numbers.specs.declared.refusal.Refusal.{Refusal}

-- a root with three nodes behind it, three links, a junction, its one heightmap byte and a ref; no two words alike
abbrev root : List ℕ
root = root_bytes (record {
  vft = 28;
  nodes = 0x50000070;
  node_count = 3;
  vehicle_node_count = 29;
  ped_node_count = 30;
  links = 0x500000e8;
  link_count = 3;
  junctions = 0x50000100;
  heightmap = 0x5000010c;
  refs = 0x5000010d;
  ref_count = 1;
  junction_count = 1;
  heightmap_count = 1;
  unknowns = 21 ∷ 22 ∷ 23 ∷ 24 ∷ 25 ∷ 26 ∷ 27 ∷ [];
})

-- a node with one link, its fields told apart; its five unused fields go by its number (T-10)
abbrev node_from : ℕ → ℕ → ℕ → ℕ → ℕ → List ℕ
node_from area number link steps flags1 = node_bytes (record {
  unused0 = 100000 + number;
  unused1 = 200000 + number;
  unused2 = 300000 + number;
  unused3 = 4000000000 + number;
  area_id = area;
  node_id = number;
  street_name = 11;
  unused4 = 60000 + number;
  link_id = link;
  position_x = pos steps;
  position_y = pos (steps + 4);
  flags0 = 1;
  flags1 = flags1;
  position_z = pos (steps + 64);
  flags2 = 3;
  link_count_flags = 14;
  flags3 = 4;
  flags4 = 5;
})

abbrev link_from : ℕ → ℕ → List ℕ
link_from area number = link_bytes (record {
  area_id = area;
  node_id = number;
  flags0 = 7;
  flags1 = 8;
  flags2 = 9;
  link_length = 10;
})

-- a junction of one value, and the ref that gives it to the node 3
abbrev junction : List ℕ
junction = junction_bytes (record {
  max_z = pos 96;
  position_x = pos 8;
  position_y = pos 12;
  min_z = pos 32;
  heightmap_ptr = 0;
  heightmap_dim_x = 1;
  heightmap_dim_y = 1;
})

abbrev ref : ℕ → List ℕ
ref area = ref_bytes (record { area_id = area; node_id = 3; junction_id = 0; unk0 = 12 })

-- numbers 7, 3 (a ped node) and 9, each with a link to the next; the nodes' area, and the one that links and ref name
abbrev pub yard : ℕ → ℕ → List ℕ
yard own named =
    root ++ node_from own 7 0 32 2 ++ node_from own 3 1 0 82 ++ node_from own 9 2 64 2
    ++ link_from named 3 ++ link_from named 9 ++ link_from named 7 ++ junction ++ (77 ∷ []) ++ ref named

unfoldable pub bytes : List ℕ
bytes = yard 5 5

unfoldable pub room : Memory
room =
    memory
    (record {
      vft = 0;
      vehicle_node_count = 0;
      ped_node_count = 0;
      unknowns = [];
      node_count = 0;
      link_count = 0;
      junction_count = 0;
      heightmap_count = 0;
      ref_count = 0;
    })
    (no_entry ∷ no_entry ∷ no_entry ∷ []) (no_link ∷ no_link ∷ no_link ∷ []) (no_map ∷ []) (0 ∷ []) (no_ref ∷ [])

pub reads : (read_of bytes [] room).answer ≡ (Ok tt)
unfolding bytes room root_bytes node_bytes link_bytes junction_bytes ref_bytes number_bytes bits16 read_of
    sizes_check arrays_found located root_of unknowns_of number_at bytes_of extent read_arrays arrays_check scan
    node_at junction_at sum_to room_check
reads = refl

pub is_sound : sound (file_cell bytes []) ≡ true
unfolding path_node path_link path_junction bytes root_bytes node_bytes link_bytes junction_bytes ref_bytes
    number_bytes bits16 located root_of
    unknowns_of number_at bytes_of extent array_at node_at link_at junction_at ref_at up_to file_nodes
    file_junctions file_refs cell_from cell_by file_cell every first_with differing sound belongs
is_sound = refl

-- what reading leaves
abbrev pub first : Memory
first = (read_of bytes [] room).memory

-- an accepted renumbering, a refused one (no scratch), a write-then-read
abbrev pub accepted : Call
accepted = renumbering (replicate 65536 9) (9 ∷ 9 ∷ 9 ∷ [])

abbrev pub refused : Call
refused = renumbering [] []

abbrev pub stored_read : Call
stored_read = write_read (replicate 1400 9)

pub renumbered : renumbers first accepted ≡ true
unfolding bytes room root_bytes node_bytes link_bytes junction_bytes ref_bytes number_bytes bits16 read_of
    sizes_check arrays_found located root_of unknowns_of number_at bytes_of extent read_arrays arrays_check scan
    node_at link_at junction_at sum_to up_to join_to room_check filled cell_read node_in links_in links_from
    path_link path_node junction_in values_in values_from path_junction ref_in
    ref_at renumbers renumber over_limit answer_of short_of
renumbered = refl

pub not_renumbered_law : renumbers (after first accepted) refused ≡ false
unfolding bytes room root_bytes node_bytes link_bytes junction_bytes ref_bytes number_bytes bits16 read_of
    sizes_check arrays_found located root_of unknowns_of number_at bytes_of extent read_arrays arrays_check scan
    node_at link_at junction_at sum_to up_to join_to room_check filled cell_read node_in links_in links_from
    path_link path_node junction_in values_in values_from path_junction ref_in
    ref_at renumbers renumber over_limit answer_of short_of after run renumber_memory new_lists
    renumber_lists recounted vehicles peds reordered number_from parted keep is_ped
    old_of first_area renamed new_number new_place new_places listed rank last_with belongs
not_renumbered_law = refl

abbrev pub is_wrote : Result ℕ Refusal → Bool
is_wrote (Ok n) = true
is_wrote (Err cause) = false

pub written_read : is_wrote (write_read_of (run first (accepted ∷ refused ∷ [])) (replicate 1400 9)).answer ≡ true
unfolding bytes room root_bytes node_bytes link_bytes junction_bytes ref_bytes number_bytes bits16 read_of
    sizes_check arrays_found located root_of unknowns_of number_at bytes_of extent read_arrays arrays_check scan
    node_at link_at junction_at sum_to up_to join_to room_check filled cell_read node_in links_in links_from
    path_link path_node junction_in values_in values_from path_junction ref_in
    ref_at renumber over_limit answer_of short_of after run renumber_memory new_lists renumber_lists
    recounted vehicles peds reordered number_from parted keep is_ped old_of first_area
    renamed new_number new_place new_places listed rank last_with belongs write_read_of write_call
    write_held maps_cut values_within held check_nodes check_junctions stored written arrays laid joined file_node
    file_link file_junction entries.values_in root_for pages header_bytes
    section_bytes lay padded gap_for start_of offset total address places_of entries.links_in step_of unstep signed16
written_read = refl

-- where the three nodes stand after all three calls
pub moves : map (moved first (accepted ∷ refused ∷ stored_read ∷ [])) (0 ∷ 1 ∷ 2 ∷ []) ≡ 0 ∷ 2 ∷ 1 ∷ []
unfolding bytes room root_bytes node_bytes link_bytes junction_bytes ref_bytes number_bytes bits16 read_of
    sizes_check arrays_found located root_of unknowns_of number_at bytes_of extent read_arrays arrays_check scan
    node_at link_at junction_at sum_to up_to join_to room_check filled cell_read node_in links_in links_from
    path_link path_node junction_in values_in values_from path_junction ref_in
    ref_at renumbers renumber over_limit answer_of short_of after run renumber_memory new_lists
    renumber_lists recounted vehicles peds reordered number_from parted keep is_ped
    old_of first_area renamed new_number new_place new_places listed rank last_with belongs write_read_of
    write_call write_held maps_cut values_within held check_nodes check_junctions stored written arrays laid joined
    file_node file_link file_junction entries.values_in root_for pages
    header_bytes section_bytes lay padded gap_for start_of offset total address places_of entries.links_in step_of
    unstep signed16 moved cell_of nodes_of
moves = refl

-- T-10: after all three calls the five tags stand with their nodes, of the numbers 7, 9 and 3
pub tags : map unused_of (cell_of (run first (accepted ∷ refused ∷ stored_read ∷ []))).nodes
    ≡ (100007 ∷ 200007 ∷ 300007 ∷ 4000000007 ∷ 60007 ∷ [])
    ∷ (100009 ∷ 200009 ∷ 300009 ∷ 4000000009 ∷ 60009 ∷ [])
    ∷ (100003 ∷ 200003 ∷ 300003 ∷ 4000000003 ∷ 60003 ∷ [])
    ∷ []
unfolding bytes room root_bytes node_bytes link_bytes junction_bytes ref_bytes number_bytes bits16 read_of
    sizes_check arrays_found located root_of unknowns_of number_at bytes_of extent read_arrays arrays_check scan
    node_at link_at junction_at sum_to up_to join_to room_check filled cell_read node_in links_in links_from
    path_link path_node junction_in values_in values_from path_junction ref_in
    ref_at renumbers renumber over_limit answer_of short_of after run renumber_memory new_lists
    renumber_lists recounted vehicles peds reordered number_from parted keep is_ped
    old_of first_area renamed new_number new_place new_places listed rank last_with belongs write_read_of
    write_call write_held maps_cut values_within held check_nodes check_junctions stored written arrays laid joined
    file_node file_link file_junction entries.values_in root_for pages
    header_bytes section_bytes lay padded gap_for start_of offset total address places_of entries.links_in step_of
    unstep signed16 moved cell_of nodes_of
tags = refl
