-- T-05: nodes without links, by bytes that read as a sound cell of four nodes. The second, a ped node, and the last
-- have
-- no links; in the file their starts are 2 and 3. Renumbered, written and read back, every start of such a node is
-- 0, and
-- the walk to the last one goes where it went. All of that is computed; what else is shown is demand 3's.
use Prim.Native.Nat.{ℕ, ◌+◌, ◌*◌}
use mathlib.Core.Path.{◌≡◌, refl}
use mathlib.Core.Bool.{true}
use mathlib.Core.List.{List, [], ◌∷◌, ◌++◌, map}
use lib.IntN.{pos}
use lib.ListN.{replicate}
use Rattle.numbers.specs.Steps.{step_of, unstep}
use Rattle.records.specs.Bytes.{number_at, number_bytes, le16, signed16, bits16}
use Rattle.records.specs.Sections.{located, extent, bytes_of, array_at}
use Rattle.records.specs.Root.{unknowns_of, root_of, root_bytes}
use Rattle.records.specs.Records.{node_at, node_bytes, link_at, link_bytes, junction_at, ref_at}
use Rattle.records.specs.Put.{joined}
use Rattle.records.specs.Layout.{pages, header_bytes, gap_for, padded, start_of, lay, offset, total, address}
use Rattle.records.specs.Layout.{places_of, section_bytes}
use Rattle.cells.specs.Lists.{up_to, join_to, sum_to, every}
use Rattle.cells.specs.Paths.{path_node, path_link, path_junction}
use Rattle.cells.specs.Checks.{sizes_check, arrays_found, scan, arrays_check}
use Rattle.cells.specs.Memory.{Memory, memory, over_limit, short_of}
use Rattle.cells.specs.Read.{links_from, node_in, links_in, values_from, junction_in, values_in, ref_in, room_check}
use Rattle.cells.specs.Read.{cell_read, filled, read_arrays, read_of}
use Rattle.cells.specs.Area.{belongs, ref_for}
use Rattle.cells.specs.Order.{keep, rank, parted, new_place, listed, new_places, last_with, new_number, renamed}
use Rattle.cells.specs.Nodes.{no_entry, no_link}
use Rattle.cells.specs.Nodes.{is_ped, number_from, reordered, first_area, old_of}
use Rattle.cells.specs.CellOf.{nodes_of, junctions_of, refs_of, cell_of}
use Rattle.cells.specs.FileCell.{file_nodes, file_junctions, file_refs, cell_from, cell_by, file_cell}
use Rattle.cells.specs.Lookup.{first_with, find, ref_of, junction_of}
use Rattle.cells.specs.Renumber.{vehicles, peds, renumber_lists, recounted, answer_of, new_lists, renumber_memory}
use Rattle.cells.specs.Renumber.{renumber}
use Rattle.cells.specs.Entries.{file_node, file_link, file_junction}
use Rattle.cells.specs.Entries as entries
use Rattle.cells.specs.WriteChecks.{maps_cut, check_nodes, check_junctions}
use Rattle.cells.specs.Blocks.{laid, arrays, root_for, written}
use Rattle.cells.specs.Write.{held, stored, write_held, write_call}
use Rattle.cells.specs.WriteRead.{write_read_of}
use Rattle.walks.specs.Sound.{differing, sound}
use Rattle.walks.specs.Calls.{Call, renumbering, write_read, after, run, renumbers, moved}
use Rattle.walks.specs.Walk.{Visit, Trail, next, see, walk_in, walk}
use Rattle.walks.specs.Claim.{Unnoticed}
use Rattle.walks.specs.declared.walk.End.TheVariants.{NoLink}
use Rattle.walks.proofs.Demand.{demand_3}
use Rattle.std.specs.Prelude.{Ok}

abbrev root : List ℕ
root = root_bytes (record {
  vft = 0;
  nodes = 0x50000070;
  node_count = 4;
  vehicle_node_count = 0;
  ped_node_count = 0;
  links = 0x50000110;
  link_count = 3;
  junctions = 0;
  heightmap = 0;
  refs = 0;
  ref_count = 0;
  junction_count = 0;
  heightmap_count = 0;
  unknowns = replicate 7 0;
})

-- a node of the area 5, by its number, where its links start, how many it has, and its flags1
abbrev node_from : ℕ → ℕ → ℕ → ℕ → List ℕ
node_from number start count flags1 = node_bytes (record {
  unused0 = 0;
  unused1 = 0;
  unused2 = 0;
  unused3 = 0;
  area_id = 5;
  node_id = number;
  street_name = number + 100;
  unused4 = 0;
  link_id = start;
  position_x = pos number;
  position_y = pos 0;
  flags0 = 0;
  flags1 = flags1;
  position_z = pos 0;
  flags2 = 0;
  link_count_flags = count * 8;
  flags3 = 0;
  flags4 = 0;
})

abbrev link_from : ℕ → List ℕ
link_from number = link_bytes (record {
  area_id = 5;
  node_id = number;
  flags0 = 7;
  flags1 = 8;
  flags2 = 9;
  link_length = number;
})

-- number 7 has links to 3 and 9, number 9 one to 4
unfoldable pub bytes : List ℕ
bytes =
    root ++ node_from 7 0 2 2 ++ node_from 3 2 0 82 ++ node_from 9 2 1 2 ++ node_from 4 3 0 2 ++ link_from 3
    ++ link_from 9 ++ link_from 4

unfoldable pub room : Memory
room =
    memory
    (record {
      vft = 0;
      vehicle_node_count = 0;
      ped_node_count = 0;
      unknowns = [];
      node_count = 0;
      link_count = 0;
      junction_count = 0;
      heightmap_count = 0;
      ref_count = 0;
    })
    (no_entry ∷ no_entry ∷ no_entry ∷ no_entry ∷ []) (no_link ∷ no_link ∷ no_link ∷ []) [] [] []

pub reads : (read_of bytes [] room).answer ≡ (Ok tt)
unfolding bytes room root_bytes node_bytes link_bytes number_bytes bits16 read_of sizes_check arrays_found located
    root_of unknowns_of number_at bytes_of extent read_arrays arrays_check scan node_at junction_at sum_to room_check
reads = refl

pub is_sound : sound (file_cell bytes []) ≡ true
unfolding path_node path_link path_junction bytes root_bytes node_bytes link_bytes number_bytes bits16 located
    root_of unknowns_of number_at bytes_of
    extent array_at node_at link_at junction_at ref_at up_to file_nodes file_junctions file_refs cell_from cell_by
    file_cell every first_with differing sound belongs
is_sound = refl

-- what reading leaves, and two calls on it
abbrev pub first : Memory
first = (read_of bytes [] room).memory

abbrev pub renumbered : Call
renumbered = renumbering (replicate 65536 9) (9 ∷ 9 ∷ 9 ∷ 9 ∷ [])

abbrev pub calls : List Call
calls = renumbered ∷ write_read (replicate 1400 9) ∷ []

-- the starts that the file's four nodes have, and those in the section written after the renumbering: 7, 9, 4, 3
pub starts : map (λ i. le16 bytes (112 + i * 40 + 26)) (0 ∷ 1 ∷ 2 ∷ 3 ∷ []) ≡ 0 ∷ 2 ∷ 2 ∷ 3 ∷ []
unfolding bytes root_bytes node_bytes link_bytes number_bytes bits16 number_at unknowns_of
starts = refl

pub starts_written : map (λ i. le16 (write_read_of (run first (renumbered ∷ [])) (replicate 1400 9)).section
    (1184 + i * 40 + 26)) (0 ∷ 1 ∷ 2 ∷ 3 ∷ []) ≡ 0 ∷ 2 ∷ 0 ∷ 0 ∷ []
unfolding bytes room root_bytes node_bytes link_bytes number_bytes bits16 read_of sizes_check arrays_found located
    root_of unknowns_of number_at bytes_of extent read_arrays arrays_check scan node_at link_at junction_at sum_to
    up_to join_to room_check filled cell_read node_in links_in links_from path_link path_node
    junction_in values_in values_from path_junction ref_in ref_at renumber over_limit
    answer_of short_of after run renumber_memory new_lists renumber_lists recounted vehicles peds reordered
    number_from parted keep is_ped old_of first_area renamed new_number
    new_place new_places listed rank last_with belongs write_read_of write_call write_held maps_cut held check_nodes
    check_junctions stored written arrays laid joined file_node file_link file_junction
    entries.values_in root_for pages header_bytes section_bytes lay padded gap_for start_of offset total
    address places_of entries.links_in step_of unstep signed16
starts_written = refl

-- from 7 over its second link to 9, on to 4, which has no link
pub ends : (walk (file_cell bytes []) (1 ∷ 0 ∷ 0 ∷ []) 0).ending ≡ NoLink
unfolding walk walk_in next see junction_of find first_with ref_of ref_for belongs bytes root_bytes node_bytes
    link_bytes number_bytes bits16 located root_of unknowns_of number_at bytes_of extent array_at node_at link_at
    junction_at ref_at up_to file_nodes file_junctions file_refs cell_from cell_by file_cell path_node path_link
    path_junction signed16
ends = refl

pub visits : map (λ (v : Visit ℕ). v.place) (walk (file_cell bytes []) (1 ∷ 0 ∷ 0 ∷ []) 0).visits ≡ 0 ∷ 2 ∷ 3 ∷ []
unfolding walk walk_in next see junction_of find first_with ref_of ref_for belongs bytes root_bytes node_bytes
    link_bytes number_bytes bits16 located root_of unknowns_of number_at bytes_of extent array_at node_at link_at
    junction_at ref_at up_to file_nodes file_junctions file_refs cell_from cell_by file_cell path_node path_link
    path_junction signed16
visits = refl

-- after both calls: the same end, the places moved, the streets and link counts as they were
abbrev after_all : Trail ℕ
after_all = walk (cell_of (run first calls)) (1 ∷ 0 ∷ 0 ∷ []) 0

abbrev told : Trail ℕ → List (List ℕ)
told t = map (λ (v : Visit ℕ). v.place ∷ v.seen.body.street_name ∷ v.seen.count ∷ []) t.visits

pub ends_after : after_all.ending ≡ NoLink
unfolding bytes room root_bytes node_bytes link_bytes number_bytes bits16 read_of sizes_check arrays_found located
    root_of unknowns_of number_at bytes_of extent read_arrays arrays_check scan node_at link_at junction_at sum_to
    up_to join_to room_check filled cell_read node_in links_in links_from path_link path_node
    junction_in values_in values_from path_junction ref_in ref_at renumbers renumber
    over_limit answer_of short_of after run renumber_memory new_lists renumber_lists recounted vehicles peds
    reordered number_from parted keep is_ped old_of first_area renamed
    new_number new_place new_places listed rank last_with belongs write_read_of write_call write_held maps_cut held
    check_nodes check_junctions stored written arrays laid joined file_node file_link file_junction
    entries.values_in root_for pages header_bytes section_bytes lay padded gap_for start_of
    offset total address places_of entries.links_in step_of unstep signed16 moved walk walk_in next see junction_of
    find first_with ref_of ref_for file_nodes file_junctions file_refs cell_from cell_by file_cell array_at cell_of
    nodes_of junctions_of refs_of
ends_after = refl

pub visits_after : told after_all ≡ (0 ∷ 107 ∷ 2 ∷ []) ∷ (1 ∷ 109 ∷ 1 ∷ []) ∷ (2 ∷ 104 ∷ 0 ∷ []) ∷ []
unfolding bytes room root_bytes node_bytes link_bytes number_bytes bits16 read_of sizes_check arrays_found located
    root_of unknowns_of number_at bytes_of extent read_arrays arrays_check scan node_at link_at junction_at sum_to
    up_to join_to room_check filled cell_read node_in links_in links_from path_link path_node
    junction_in values_in values_from path_junction ref_in ref_at renumbers renumber
    over_limit answer_of short_of after run renumber_memory new_lists renumber_lists recounted vehicles peds
    reordered number_from parted keep is_ped old_of first_area renamed
    new_number new_place new_places listed rank last_with belongs write_read_of write_call write_held maps_cut held
    check_nodes check_junctions stored written arrays laid joined file_node file_link file_junction
    entries.values_in root_for pages header_bytes section_bytes lay padded gap_for start_of
    offset total address places_of entries.links_in step_of unstep signed16 moved walk walk_in next see junction_of
    find first_with ref_of ref_for file_nodes file_junctions file_refs cell_from cell_by file_cell array_at cell_of
    nodes_of junctions_of refs_of
visits_after = refl

-- and everything else that is shown, by demand 3
pub unnoticed : Unnoticed (file_cell bytes []) first calls
unnoticed = demand_3 bytes [] room reads is_sound calls

pub moves : map (moved first calls) (0 ∷ 1 ∷ 2 ∷ 3 ∷ []) ≡ 0 ∷ 3 ∷ 1 ∷ 2 ∷ []
unfolding bytes room root_bytes node_bytes link_bytes number_bytes bits16 read_of sizes_check arrays_found located
    root_of unknowns_of number_at bytes_of extent read_arrays arrays_check scan node_at link_at junction_at sum_to
    up_to join_to room_check filled cell_read node_in links_in links_from path_link path_node
    junction_in values_in values_from path_junction ref_in ref_at renumbers renumber
    over_limit answer_of short_of after run renumber_memory new_lists renumber_lists recounted vehicles peds
    reordered number_from parted keep is_ped old_of first_area renamed
    new_number new_place new_places listed rank last_with belongs write_read_of write_call write_held maps_cut held
    check_nodes check_junctions stored written arrays laid joined file_node file_link file_junction
    entries.values_in root_for pages header_bytes section_bytes lay padded gap_for start_of
    offset total address places_of entries.links_in step_of unstep signed16 moved cell_of nodes_of
moves = refl
