-- T-07: an island, whose area is 5 with the bit 1024, and whose own links and ref name the area 5: the bytes of
-- Example
-- with these areas. It is sound; renumbered, written and read back it is walked as before: to the end, not *left*
-- at the
-- first step, and the junction is shown. All of that is computed; the rest of what is shown is demand 3's.
use Prim.Native.Nat.{ℕ}
use mathlib.Core.Path.{◌≡◌, refl}
use mathlib.Core.Bool.{Bool, true, false}
use mathlib.Core.List.{List, [], ◌∷◌, map}
use mathlib.Core.Option.{Option, none, some}
use Rattle.numbers.specs.Steps.{step_of, unstep}
use Rattle.records.specs.Bytes.{number_at, number_bytes, signed16, bits16}
use Rattle.records.specs.Sections.{located, extent, bytes_of, array_at}
use Rattle.records.specs.Root.{unknowns_of, root_of, root_bytes}
use Rattle.records.specs.Records.{node_at, node_bytes, link_at, link_bytes, junction_at, junction_bytes, ref_at}
use Rattle.records.specs.Records.{ref_bytes}
use Rattle.records.specs.Put.{joined}
use Rattle.records.specs.Layout.{pages, header_bytes, gap_for, padded, start_of, lay, offset, total, address}
use Rattle.records.specs.Layout.{places_of, section_bytes}
use Rattle.cells.specs.Lists.{up_to, join_to, sum_to, every}
use Rattle.cells.specs.Paths.{path_node, path_link, path_junction}
use Rattle.cells.specs.Checks.{sizes_check, arrays_found, scan, arrays_check}
use Rattle.cells.specs.Memory.{Memory, over_limit, short_of}
use Rattle.cells.specs.Cell.{Node, Junction}
use Rattle.cells.specs.declared.link.PathLink.{PathLink}
use Rattle.records.specs.declared.junction_ref.NodeJunctionRef.{NodeJunctionRef}
use Rattle.cells.specs.Read.{links_from, node_in, links_in, values_from, junction_in, values_in, ref_in, room_check}
use Rattle.cells.specs.Read.{cell_read, filled, read_arrays, read_of}
use Rattle.cells.specs.Area.{belongs, ref_for}
use Rattle.cells.specs.Order.{keep, rank, parted, new_place, listed, new_places, last_with, new_number, renamed}
use Rattle.cells.specs.Nodes.{is_ped, number_from, reordered, first_area, old_of}
use Rattle.cells.specs.CellOf.{nodes_of, junctions_of, refs_of, cell_of}
use Rattle.cells.specs.FileCell.{file_nodes, file_junctions, file_refs, cell_from, cell_by, file_cell}
use Rattle.cells.specs.Lookup.{first_with, find, ref_of, junction_of}
use Rattle.cells.specs.Renumber.{vehicles, peds, renumber_lists, recounted, answer_of, new_lists, renumber_memory}
use Rattle.cells.specs.Renumber.{renumber}
use Rattle.cells.specs.Entries.{file_node, file_link, file_junction}
use Rattle.cells.specs.Entries as entries
use Rattle.cells.specs.WriteChecks.{values_within, maps_cut, check_nodes, check_junctions}
use Rattle.cells.specs.Blocks.{laid, arrays, root_for, written}
use Rattle.cells.specs.Write.{held, stored, write_held, write_call}
use Rattle.cells.specs.WriteRead.{write_read_of}
use Rattle.walks.specs.Sound.{differing, sound}
use Rattle.walks.specs.Calls.{Call, after, run, renumbers, moved}
use Rattle.walks.specs.Walk.{Visit, Trail, next, see, walk_in, walk}
use Rattle.walks.specs.Claim.{Unnoticed}
use Rattle.walks.specs.declared.walk.End.TheVariants.{Done}
use Rattle.walks.proofs.Demand.{demand_3}
use Rattle.walks.proofs.Example.{yard, room, accepted, stored_read}
use Rattle.std.specs.Prelude.{Ok}

unfoldable pub bytes : List ℕ
bytes = yard 1029 5

pub reads : (read_of bytes [] room).answer ≡ (Ok tt)
unfolding bytes root_bytes node_bytes link_bytes junction_bytes ref_bytes number_bytes bits16 room read_of
    sizes_check arrays_found located root_of unknowns_of number_at bytes_of extent read_arrays arrays_check scan
    node_at junction_at sum_to room_check
reads = refl

pub is_sound : sound (file_cell bytes []) ≡ true
unfolding path_node path_link path_junction bytes root_bytes node_bytes link_bytes junction_bytes ref_bytes
    number_bytes bits16 located root_of
    unknowns_of number_at bytes_of extent array_at node_at link_at junction_at ref_at up_to file_nodes
    file_junctions file_refs cell_from cell_by file_cell every first_with differing sound belongs
is_sound = refl

abbrev is_there : Option Junction → Bool
is_there (some j) = true
is_there none = false

-- what reading leaves, and two calls on it
abbrev pub first : Memory
first = (read_of bytes [] room).memory

abbrev pub calls : List Call
calls = accepted ∷ stored_read ∷ []

-- three links are followed, before the calls and after them
pub goes_on : (walk (file_cell bytes []) (0 ∷ 0 ∷ 0 ∷ []) 0).ending ≡ Done
unfolding bytes root_bytes node_bytes link_bytes junction_bytes ref_bytes number_bytes bits16 walk walk_in next see
    junction_of find first_with ref_of ref_for file_nodes file_junctions file_refs cell_from cell_by file_cell
    array_at belongs located root_of unknowns_of number_at bytes_of extent node_at link_at junction_at ref_at up_to
    path_node path_link path_junction signed16
goes_on = refl

abbrev after_all : Trail ℕ
after_all = walk (cell_of (run first calls)) (0 ∷ 0 ∷ 0 ∷ []) 0

pub goes_on_after : after_all.ending ≡ Done
unfolding bytes root_bytes node_bytes link_bytes junction_bytes ref_bytes number_bytes bits16 room read_of
    sizes_check arrays_found located root_of unknowns_of number_at bytes_of extent read_arrays arrays_check scan
    node_at link_at junction_at sum_to up_to join_to room_check filled cell_read node_in links_in links_from
    path_link path_node junction_in values_in values_from path_junction ref_in
    ref_at renumbers renumber over_limit answer_of short_of after run renumber_memory new_lists
    renumber_lists recounted vehicles peds reordered number_from parted keep is_ped
    old_of first_area renamed new_number new_place new_places listed rank last_with belongs write_read_of
    write_call write_held maps_cut values_within held check_nodes check_junctions stored written arrays laid joined
    file_node file_link file_junction entries.values_in root_for pages
    header_bytes section_bytes lay padded gap_for start_of offset total address places_of entries.links_in step_of
    unstep signed16 moved walk walk_in next see junction_of find first_with ref_of ref_for file_nodes file_junctions
    file_refs cell_from cell_by file_cell array_at cell_of nodes_of junctions_of refs_of
goes_on_after = refl

pub visits_after : map (λ (v : Visit ℕ). v.place) after_all.visits ≡ 0 ∷ 2 ∷ 1 ∷ 0 ∷ []
unfolding bytes root_bytes node_bytes link_bytes junction_bytes ref_bytes number_bytes bits16 room read_of
    sizes_check arrays_found located root_of unknowns_of number_at bytes_of extent read_arrays arrays_check scan
    node_at link_at junction_at sum_to up_to join_to room_check filled cell_read node_in links_in links_from
    path_link path_node junction_in values_in values_from path_junction ref_in
    ref_at renumbers renumber over_limit answer_of short_of after run renumber_memory new_lists
    renumber_lists recounted vehicles peds reordered number_from parted keep is_ped
    old_of first_area renamed new_number new_place new_places listed rank last_with belongs write_read_of
    write_call write_held maps_cut values_within held check_nodes check_junctions stored written arrays laid joined
    file_node file_link file_junction entries.values_in root_for pages
    header_bytes section_bytes lay padded gap_for start_of offset total address places_of entries.links_in step_of
    unstep signed16 moved walk walk_in next see junction_of find first_with ref_of ref_for file_nodes file_junctions
    file_refs cell_from cell_by file_cell array_at cell_of nodes_of junctions_of refs_of
visits_after = refl

-- and what is shown is what was shown, by demand 3
pub unnoticed : Unnoticed (file_cell bytes []) first calls
unnoticed = demand_3 bytes [] room reads is_sound calls

-- the ref leads from the second node visited, the ped node
pub shows : map (λ (v : Visit ℕ). is_there v.seen.junction) after_all.visits ≡ false ∷ true ∷ false ∷ false ∷ []
unfolding bytes root_bytes node_bytes link_bytes junction_bytes ref_bytes number_bytes bits16 room read_of
    sizes_check arrays_found located root_of unknowns_of number_at bytes_of extent read_arrays arrays_check scan
    node_at link_at junction_at sum_to up_to join_to room_check filled cell_read node_in links_in links_from
    path_link path_node junction_in values_in values_from path_junction ref_in
    ref_at renumbers renumber over_limit answer_of short_of after run renumber_memory new_lists
    renumber_lists recounted vehicles peds reordered number_from parted keep is_ped
    old_of first_area renamed new_number new_place new_places listed rank last_with belongs write_read_of
    write_call write_held maps_cut values_within held check_nodes check_junctions stored written arrays laid joined
    file_node file_link file_junction entries.values_in root_for pages
    header_bytes section_bytes lay padded gap_for start_of offset total address places_of entries.links_in step_of
    unstep signed16 walk walk_in next see junction_of find first_with ref_of ref_for file_nodes file_junctions
    file_refs cell_from cell_by file_cell array_at cell_of nodes_of junctions_of refs_of
shows = refl

abbrev named : PathLink → List ℕ
named l = l.area_id ∷ l.node_id ∷ []

-- links and ref have new numbers and the area that they had
pub links_after_law : map (λ (n : Node). map named n.links) (cell_of (run first calls)).nodes
    ≡ ((5 ∷ 2 ∷ []) ∷ []) ∷ ((5 ∷ 0 ∷ []) ∷ []) ∷ ((5 ∷ 1 ∷ []) ∷ []) ∷ []
unfolding bytes root_bytes node_bytes link_bytes junction_bytes ref_bytes number_bytes bits16 room read_of
    sizes_check arrays_found located root_of unknowns_of number_at bytes_of extent read_arrays arrays_check scan
    node_at link_at junction_at sum_to up_to join_to room_check filled cell_read node_in links_in links_from
    path_link path_node junction_in values_in values_from path_junction ref_in
    ref_at renumbers renumber over_limit answer_of short_of after run renumber_memory new_lists
    renumber_lists recounted vehicles peds reordered number_from parted keep is_ped
    old_of first_area renamed new_number new_place new_places listed rank last_with belongs write_read_of
    write_call write_held maps_cut values_within held check_nodes check_junctions stored written arrays laid joined
    file_node file_link file_junction entries.values_in root_for pages
    header_bytes section_bytes lay padded gap_for start_of offset total address places_of entries.links_in step_of
    unstep signed16 cell_of nodes_of junctions_of refs_of
links_after_law = refl

pub ref_after : map (λ (r : NodeJunctionRef). r.area_id ∷ r.node_id ∷ []) (cell_of (run first calls)).refs
    ≡ (5 ∷ 2 ∷ []) ∷ []
unfolding bytes root_bytes node_bytes link_bytes junction_bytes ref_bytes number_bytes bits16 room read_of
    sizes_check arrays_found located root_of unknowns_of number_at bytes_of extent read_arrays arrays_check scan
    node_at link_at junction_at sum_to up_to join_to room_check filled cell_read node_in links_in links_from
    path_link path_node junction_in values_in values_from path_junction ref_in
    ref_at renumbers renumber over_limit answer_of short_of after run renumber_memory new_lists
    renumber_lists recounted vehicles peds reordered number_from parted keep is_ped
    old_of first_area renamed new_number new_place new_places listed rank last_with belongs write_read_of
    write_call write_held maps_cut values_within held check_nodes check_junctions stored written arrays laid joined
    file_node file_link file_junction entries.values_in root_for pages
    header_bytes section_bytes lay padded gap_for start_of offset total address places_of entries.links_in step_of
    unstep signed16 cell_of nodes_of junctions_of refs_of
ref_after = refl
