-- What the words of demand 3's claim give at the bytes of Example: a definition in it that said less would make one of
-- these false. Computed, but for the two that take the claim itself apart.
use Prim.Native.Nat.{ℕ, ◌+◌, ◌<◌}
use mathlib.Core.Path.{◌≡◌, refl, ap}
use mathlib.Core.Bool.{true, false}
use mathlib.Core.List.{List, [], ◌∷◌}
use mathlib.Core.Option.{Option, none, some}
use lib.IntN.{pos}
use lib.ListN.{length, replicate}
use lib.Ieee.{binary32, to_bits}
use Rattle.numbers.specs.Steps.{unstep}
use Rattle.records.specs.Bytes.{number_at, number_bytes, signed16, bits16}
use Rattle.records.specs.Sections.{located, extent, bytes_of, array_at}
use Rattle.records.specs.Root.{unknowns_of, root_of, root_bytes}
use Rattle.records.specs.Records.{node_at, node_bytes, link_at, link_bytes, junction_at, junction_bytes, ref_at}
use Rattle.records.specs.Records.{ref_bytes}
use Rattle.cells.specs.Area.{belongs, ref_for}
use Rattle.cells.specs.Lists.{up_to, join_to, sum_to, every}
use Rattle.cells.specs.Paths.{path_node, path_link, path_junction}
use Rattle.cells.specs.Cell.{Junction, Node, Cell, no_body}
use Rattle.walks.specs.declared.shown.SeenLink.{SeenLink}
use Rattle.cells.specs.Cell as held-cell
use Rattle.cells.specs.Memory.{Memory, memory, over_limit, short_of}
use Rattle.cells.specs.CellOf.{junctions_of, refs_of, cell_of, nodes_of}
use Rattle.cells.specs.FileCell.{file_nodes, file_junctions, file_refs, cell_from, cell_by, file_cell}
use Rattle.cells.specs.Lookup.{first_with, find, ref_of, junction_of}
use Rattle.cells.specs.Renumber.{renumber, vehicles, peds, renumber_lists, recounted, answer_of, new_lists}
use Rattle.cells.specs.Renumber.{renumber_memory}
use Rattle.cells.specs.WriteRead.{write_read_of}
use Rattle.walks.specs.Walk.{Seen, next, see, walk_in, walk}
use Rattle.walks.specs.Calls.{Call, after, run, any_renumbers, renumbers, moved}
use Rattle.walks.specs.WalkCall.{route, walk_left, walk_call}
use Rattle.cells.specs.Edit.{junction_entry, entry_at}
use Rattle.walks.specs.Shown.{values_at, values_left, shown_values}
use Rattle.walks.specs.Claim.{shown, followed, SameWalk, Unnoticed}
use Rattle.walks.specs.declared.walk.End.TheVariants.{NoLink}
use Rattle.walks.proofs.Demand.{demand_3}
use Rattle.walks.proofs.Example.{bytes, room, reads, is_sound, first, accepted, refused, stored_read}
use Rattle.records.specs.Put.{put}
use Rattle.cells.specs.Checks.{sizes_check, arrays_found, scan, arrays_check}
use Rattle.cells.specs.Read.{links_from, node_in, links_in, values_from, junction_in, values_in, ref_in, room_check}
use Rattle.cells.specs.Read.{cell_read, filled, read_arrays, read_of}
use Rattle.cells.specs.Order.{keep, rank, parted, new_place, listed, new_places, last_with, new_number, renamed}
use Rattle.cells.specs.Nodes.{no_entry, no_map}
use Rattle.cells.specs.Nodes.{is_ped, number_from, reordered, first_area, old_of}
use Rattle.walks.specs.Sound.{differing, sound}
use Rattle.std.specs.Prelude.{Ok}

-- what is shown of a node of the bytes, by its number, its steps, its flags1 and its junction
abbrev seen_at : ℕ → ℕ → ℕ → Option Junction → Seen
seen_at number steps flags1 j = record {
  area = 5;
  body = record no_entry {
    position = record {
      x = to_bits binary32 (unstep 2 (pos steps));
      y = to_bits binary32 (unstep 2 (pos (steps + 4)));
      z = to_bits binary32 (unstep 5 (pos (steps + 64)));
    };
    street_name = 11;
    flags0 = 1;
    flags1 = flags1;
    flags2 = 3;
    flags3 = 4;
    flags4 = 5;
    flags5 = 6;
    unused0 = 100000 + number;
    unused1 = 200000 + number;
    unused2 = 300000 + number;
    unused3 = 4000000000 + number;
    unused4 = 60000 + number;
  };
  count = 1;
  junction = j;
}

abbrev the_link : SeenLink
the_link = record { flags0 = 7; flags1 = 8; flags2 = 9; length = 10 }

abbrev the_junction : Junction
the_junction = record {
  x = to_bits binary32 (unstep 2 (pos 8));
  y = to_bits binary32 (unstep 2 (pos 12));
  low = to_bits binary32 (unstep 5 (pos 32));
  high = to_bits binary32 (unstep 5 (pos 96));
  width = 1;
  height = 1;
  values = 77 ∷ [];
}

-- from the node 7 over its link to the node 3, which has no sixth link
pub walked : walk (file_cell bytes []) (0 ∷ 5 ∷ []) 0
    ≡ record {
      ending = NoLink;
      visits = record { place = 0; seen = seen_at 7 32 2 none; link = some the_link }
          ∷ record { place = 1; seen = seen_at 3 0 82 (some the_junction); link = none } ∷ [];
    }
unfolding walk walk_in next see junction_of find first_with ref_of ref_for belongs bytes root_bytes node_bytes
    link_bytes junction_bytes ref_bytes number_bytes bits16 located root_of unknowns_of number_at bytes_of extent
    array_at node_at link_at junction_at ref_at up_to file_nodes file_junctions file_refs cell_from cell_by
    file_cell path_node path_link path_junction signed16
walked = refl

pub shows : shown (walk (file_cell bytes []) (0 ∷ 5 ∷ []) 0) ≡ (seen_at 7 32 2 none, some the_link)
    ∷ (seen_at 3 0 82 (some the_junction), none) ∷ []
shows = ap shown walked

pub follows : followed (walk (file_cell bytes []) (0 ∷ 5 ∷ []) 0) ≡ 1
follows = ap followed walked

-- a write-then-read is a call, too
pub ran : run first (accepted ∷ stored_read ∷ [])
    ≡ (write_read_of (renumber first 65536 (9 ∷ 9 ∷ 9 ∷ [])).memory (replicate 1400 9)).memory
unfolding run after
ran = refl

-- a list has an accepted renumbering, or it has none
pub once : any_renumbers first (refused ∷ accepted ∷ []) ≡ true
unfolding any_renumbers bytes room root_bytes node_bytes link_bytes junction_bytes ref_bytes number_bytes bits16
    read_of sizes_check arrays_found located root_of unknowns_of number_at bytes_of extent read_arrays arrays_check
    scan node_at link_at junction_at sum_to up_to join_to room_check filled cell_read node_in links_in links_from
    path_link path_node junction_in values_in values_from path_junction ref_in
    ref_at renumbers renumber over_limit answer_of short_of after run renumber_memory new_lists
    renumber_lists recounted vehicles peds reordered number_from parted keep is_ped
    old_of first_area renamed new_number new_place new_places listed rank last_with belongs
once = refl

pub never : any_renumbers first (refused ∷ stored_read ∷ []) ≡ false
unfolding any_renumbers bytes room root_bytes node_bytes link_bytes junction_bytes ref_bytes number_bytes bits16
    read_of sizes_check arrays_found located root_of unknowns_of number_at bytes_of extent read_arrays arrays_check
    scan node_at link_at junction_at sum_to up_to join_to room_check filled cell_read node_in links_in links_from
    path_link path_node junction_in values_in values_from path_junction ref_in
    ref_at renumbers renumber over_limit answer_of short_of after run renumber_memory new_lists
    renumber_lists recounted vehicles peds reordered number_from parted keep is_ped
    old_of first_area renamed new_number new_place new_places listed rank last_with belongs
never = refl

-- the walk from the ped node, which moves from place 1 to place 2, and its parts compared
pub same_here : SameWalk (moved first (accepted ∷ refused ∷ [])) (walk (file_cell bytes []) (0 ∷ 0 ∷ []) 1)
    (walk (cell_of (run first (accepted ∷ refused ∷ []))) (0 ∷ 0 ∷ []) 2)
unfolding bytes room root_bytes node_bytes link_bytes junction_bytes ref_bytes number_bytes bits16 read_of
    sizes_check arrays_found located root_of unknowns_of number_at bytes_of extent read_arrays arrays_check scan
    node_at link_at junction_at sum_to up_to join_to room_check filled cell_read node_in links_in links_from
    path_link path_node junction_in values_in values_from path_junction ref_in
    ref_at renumbers renumber over_limit answer_of short_of after run renumber_memory new_lists
    renumber_lists recounted vehicles peds reordered number_from parted keep is_ped
    old_of first_area renamed new_number new_place new_places listed rank last_with belongs walk walk_in
    next see junction_of find first_with ref_of ref_for file_nodes file_junctions file_refs cell_from cell_by
    file_cell array_at cell_of nodes_of junctions_of refs_of moved signed16
same_here = record { same_shown = refl; same_count = refl; same_end = refl; same_places = refl }

-- the root's own words are the cell's
pub root_words_law : (file_cell bytes []).words ≡ 21 ∷ 22 ∷ 23 ∷ 24 ∷ 25 ∷ 26 ∷ 27 ∷ []
unfolding bytes root_bytes node_bytes link_bytes junction_bytes ref_bytes number_bytes bits16 located root_of
    unknowns_of number_at bytes_of extent array_at file_nodes file_junctions file_refs cell_from cell_by file_cell
root_words_law = refl

pub root_counts : ((file_cell bytes []).vft ≡ 28) × ((file_cell bytes []).vehicles ≡ 29)
    × ((file_cell bytes []).peds ≡ 30)
unfolding bytes root_bytes node_bytes link_bytes junction_bytes ref_bytes number_bytes bits16 located root_of
    unknowns_of number_at bytes_of extent array_at file_nodes file_junctions file_refs cell_from cell_by file_cell
root_counts = (refl, refl, refl)

-- the claim at this example, taken apart
abbrev calls : List Call
calls = accepted ∷ refused ∷ stored_read ∷ []

pub on_example : Unnoticed (file_cell bytes []) first calls
on_example = demand_3 bytes [] room reads is_sound calls

one_accepted : any_renumbers first calls ≡ true
unfolding bytes room root_bytes node_bytes link_bytes junction_bytes ref_bytes number_bytes bits16 read_of
    sizes_check arrays_found located root_of unknowns_of number_at bytes_of extent read_arrays arrays_check scan
    node_at link_at junction_at sum_to up_to join_to room_check filled cell_read node_in links_in links_from
    path_link path_node junction_in values_in values_from path_junction ref_in
    ref_at renumbers renumber over_limit answer_of short_of after run renumber_memory new_lists
    renumber_lists recounted vehicles peds reordered number_from parted keep is_ped
    old_of first_area renamed new_number new_place new_places listed rank last_with belongs any_renumbers
one_accepted = refl

pub numbers_places : (q : ℕ) → q < length (cell_of (run first calls)).nodes
    → (held-cell.node_at (cell_of (run first calls)).nodes q).number ≡ q
numbers_places = on_example.numbered one_accepted

-- ---- the check and the call

-- one node, number 5 of area 5, without links
abbrev alone : Node
alone = record { area = 5; number = 5; links = []; body = no_body }

-- a ref of the own area to a number that no node has
pub ref_to_nobody : sound (record {
  nodes = alone ∷ [];
  junctions = [];
  refs = record { area_id = 5; node_id = 8; junction_id = 0; unk0 = 0 } ∷ [];
  vehicles = 0;
  peds = 0;
  vft = 0;
  words = [];
}) ≡ false
unfolding sound differing first_with every belongs
ref_to_nobody = refl

-- a visited list that is just full is enough, and a choice that is not followed visits no place
abbrev bare : Memory
bare =
    memory
    (record {
      vft = 0;
      vehicle_node_count = 0;
      ped_node_count = 0;
      unknowns = [];
      node_count = 1;
      link_count = 0;
      junction_count = 0;
      heightmap_count = 0;
      ref_count = 0;
    })
    (record no_entry { area_id = 5; node_id = 7 } ∷ []) [] [] [] []

pub just_full : walk_call bare (0 ∷ []) 0 (9 ∷ []) ≡ walk_left (Ok (record { end = NoLink; count = 1 })) (0 ∷ [])
unfolding walk_call over_limit route next nodes_of
just_full = refl

-- a list as long as a junction's values is enough: a heightmap of one value
abbrev mapped : Memory
mapped =
    memory
    (record {
      vft = 0;
      vehicle_node_count = 0;
      ped_node_count = 0;
      unknowns = [];
      node_count = 0;
      link_count = 0;
      junction_count = 1;
      heightmap_count = 1;
      ref_count = 0;
    })
    [] [] (record no_map { width = 1; height = 1 } ∷ []) (77 ∷ []) []

pub values_just_fit : shown_values mapped 0 (9 ∷ []) ≡ values_left (Ok 1) (77 ∷ [])
unfolding shown_values junction_entry entry_at over_limit values_at cell_of junctions_of put
values_just_fit = refl
