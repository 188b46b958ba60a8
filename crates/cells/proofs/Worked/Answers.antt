-- Answers at named inputs, where a believable slip would give another one, over the definitions that the contracts
-- cite.
-- Assumes nothing.
use Prim.Native.Nat.{ℕ, ◌*◌}
use mathlib.Core.Path.{◌≡◌, refl, ap}
use mathlib.Core.Bool.{true, false}
use mathlib.Core.List.{List, [], ◌∷◌, ◌++◌, map}
use lib.ListN.{length, replicate}
use lib.Ieee.{nan}
use Rattle.numbers.specs.Steps.{step_of}
use Rattle.records.specs.Bytes.{number_at, number_bytes, bits16}
use Rattle.records.specs.Records.{node_at, node_bytes, junction_at}
use Rattle.records.specs.Root.{root_of, unknowns_of}
use Rattle.records.specs.Sections.{located, extent, bytes_of}
use Rattle.cells.specs.Lists.{up_to, join_to, sum_to}
use Rattle.cells.specs.NewYnd.{new_ynd, new_root}
use Rattle.cells.specs.Checks.{sizes_check, arrays_found, scan, arrays_check}
use Rattle.cells.specs.Read.{room_check, cell_read, filled, read_arrays, read_of}
use Rattle.cells.specs.WriteChecks.{check_nodes}
use Rattle.cells.specs.Nodes.{is_ped}
use Rattle.cells.specs.Paths.{path_node}
use Rattle.cells.specs.Nodes.{no_entry, no_link}
use Rattle.cells.specs.NodeAccess.{new_node}
use Rattle.cells.specs.EntryForms.{node_as_entry}
use Rattle.cells.specs.Unused.{file_unused}
use Rattle.cells.specs.Entries.{links_in, stored_start, file_node}
use Rattle.cells.specs.Blocks.{laid, node_record}
use Rattle.cells.specs.Memory.{Memory, memory, refuse, over_limit}
use Rattle.cells.specs.LinkAccess.{link_to}
use Rattle.cells.specs.Edit.{held_in}
use Rattle.cells.specs.AddLink.{add_link, room_for_link, behind, inserted}
use Rattle.cells.specs.Renumber.{Renumbered, renumber}
use Rattle.cells.proofs.Worked.Pairs.{three, renumber_pair}
use Rattle.cells.specs.declared.node_entry.NodeEntry.{NodeEntry}
use Rattle.std.specs.Prelude.{Ok, Err}
use Rattle.numbers.specs.declared.refusal.Refusal.TheVariants.{SystemTooShort, LinksOutside, LinksStartTooHigh}

-- a node of the file whose links start at 1, with no links; a junction whose values start at 1, with no values
abbrev late_node : List ℕ
late_node = replicate 26 0 ++ 1 ∷ replicate 13 0

abbrev late_junction : List ℕ
late_junction = replicate 8 0 ++ 1 ∷ replicate 3 0

-- the start counts even with no links
pub start_with_no_links : arrays_check late_node [] [] [] [] ≡ Err (LinksOutside 0)
unfolding arrays_check scan node_at number_at
start_with_no_links = refl

-- 4 comes before 5
pub nodes_first : arrays_check late_node [] late_junction [] [] ≡ Err (LinksOutside 0)
unfolding arrays_check scan node_at junction_at number_at
nodes_first = refl

-- ---- nodes without links (T-05)

abbrev many : NodeEntry → ℕ
many n = n.link_count

abbrev with_one : NodeEntry
with_one = record no_entry { link_count = 1 }

-- behind 65,536 links a node without links is written
pub no_nine_without_links : check_nodes many 0 65536 (no_entry ∷ []) ≡ Ok 65536
unfolding check_nodes
no_nine_without_links = refl

-- and a node with links behind it is 9; behind 65,535 it is written
pub nine_behind_a_post : check_nodes many 0 65536 (no_entry ∷ with_one ∷ []) ≡ Err (LinksStartTooHigh 1)
unfolding check_nodes
nine_behind_a_post = refl

pub none_behind_a_post : check_nodes many 0 65535 (no_entry ∷ with_one ∷ []) ≡ Ok 65536
unfolding check_nodes
none_behind_a_post = refl

-- a node with links stores what stands before it, also behind a post; a post stores 0
pub start_behind_a_post : laid {B = ℕ} (λ n. n) (λ k n. stored_start k (length n) ∷ []) 0
    ((7 ∷ 8 ∷ []) ∷ [] ∷ (9 ∷ []) ∷ [] ∷ []) ≡ 0 ∷ 0 ∷ 2 ∷ 0 ∷ []
unfolding laid
start_behind_a_post = refl

-- a post alone, over an empty list of links, is read back: its start 0 is no 4
pub post_alone : arrays_check (node_record [] 0 no_entry) [] [] [] []
    ≡ Ok (record { nodes = 1; links = 0; junctions = 0; heights = 0; refs = 0 })
unfolding arrays_check scan node_at number_at node_bytes number_bytes bits16 file_node links_in step_of sum_to
post_alone = refl

-- with the start that another node would have there, it would be
pub post_late : arrays_check (node_bytes (file_node 1 0 (no_entry))) [] [] [] [] ≡ Err (LinksOutside 0)
unfolding arrays_check scan node_at number_at node_bytes number_bytes bits16 file_node step_of
post_late = refl

-- renumbering moves: each node's new place
pub new_places_law : (renumber three 65536 (50 ∷ 51 ∷ 52 ∷ 53 ∷ [])).places ≡ 0 ∷ 2 ∷ 1 ∷ 53 ∷ []
new_places_law = ap (λ (r : Renumbered). r.places) renumber_pair

-- ---- what other believable slips would change

-- flags1 >> 3 of 10, 14 and 18 make a ped node, 17 does not
pub ped_kinds : map (λ k. is_ped (record no_entry { flags1 = k * 8 })) (10 ∷ 14 ∷ 17 ∷ 18 ∷ []) ≡ true ∷ true
    ∷ false ∷ true ∷ []
unfolding is_ped
ped_kinds = refl

-- of flags5 the low three bits are stored
pub flags5_low : (file_node 0 3 (record no_entry { flags5 = 15 })).link_count_flags
    ≡ 31
unfolding file_node
flags5_low = refl

-- ---- a node's unused fields (T-10)

-- a node that holds five tags, unused4 of 16 bits
abbrev tagged : NodeEntry
tagged =
    record no_entry { unused0 = 11; unused1 = 22; unused2 = 33; unused3 = 4294967295; unused4 = 65535 }

-- each is stored in its own field
pub tags_stored : file_unused (file_node 0 0 tagged) ≡ 11 ∷ 22 ∷ 33 ∷ 4294967295 ∷ 65535 ∷ []
unfolding file_node
tags_stored = refl

abbrev tags_of : NodeEntry → List ℕ
tags_of n = n.unused0 ∷ n.unused1 ∷ n.unused2 ∷ n.unused3 ∷ n.unused4 ∷ []

-- and read from it, into its own field
pub tags_kept : tags_of (path_node (file_node 0 0 tagged) 0) ≡ 11 ∷ 22 ∷ 33 ∷ 4294967295 ∷ 65535
    ∷ []
unfolding file_node path_node
tags_kept = refl

-- a new node has zeros
pub no_tags : tags_of (node_as_entry (new_node 5 7 (record { x = nan; y = nan; z = nan }))) ≡ 0 ∷ 0 ∷ 0 ∷ 0 ∷ 0 ∷ []
unfolding new_node
no_tags = refl

-- a node without links whose start lies inside another's range: its first link goes behind all others
abbrev two : Memory
two =
    memory
    (record {
      vft = 0;
      vehicle_node_count = 2;
      ped_node_count = 0;
      unknowns = replicate 7 0;
      node_count = 2;
      link_count = 2;
      junction_count = 0;
      heightmap_count = 0;
      ref_count = 0;
    })
    (record no_entry { link_count = 2 } ∷ record no_entry { node_id = 1; link_id = 1 } ∷ [])
    (record no_link { node_id = 1 } ∷ no_link ∷ record no_link { area_id = 9 } ∷ [])
    []
    []
    []

pub bare_link_last : (add_link two 1 (link_to 0 7)).memory.links ≡ record no_link { node_id = 1 } ∷ no_link
    ∷ record no_link { node_id = 7 } ∷ []
unfolding add_link over_limit room_for_link behind held_in inserted link_to
bare_link_last = refl

-- ---- a yard not drawn yet (T-02)

-- nothing lent, and a struct whose words are others
abbrev bare : Memory
bare =
    memory
    (record {
      vft = 5;
      vehicle_node_count = 5;
      ped_node_count = 5;
      unknowns = replicate 7 5;
      node_count = 5;
      link_count = 5;
      junction_count = 5;
      heightmap_count = 5;
      ref_count = 5;
    })
    []
    []
    []
    []
    []

-- no bytes: no nodes, and the default words
pub no_bytes : (read_of [] [] bare).memory.ynd
    ≡ record {
      vft = 0x4061E3B0;
      vehicle_node_count = 0;
      ped_node_count = 0;
      unknowns = 0 ∷ 0 ∷ 1 ∷ 0 ∷ 0 ∷ 0 ∷ 0 ∷ [];
      node_count = 0;
      link_count = 0;
      junction_count = 0;
      heightmap_count = 0;
      ref_count = 0;
    }
unfolding read_of sizes_check arrays_found located new_root new_ynd read_arrays arrays_check scan room_check filled
    cell_read
    up_to join_to sum_to bytes_of extent
no_bytes = refl

pub no_bytes_done : (read_of [] [] bare).answer ≡ (Ok tt)
unfolding read_of sizes_check arrays_found located new_root new_ynd read_arrays arrays_check scan room_check sum_to
    bytes_of
    extent
no_bytes_done = refl

-- 1 to 111 bytes are refused with 1; 112 are a root
pub one_byte : read_of (0 ∷ []) [] bare ≡ refuse SystemTooShort bare
unfolding read_of sizes_check
one_byte = refl

pub bytes_111 : read_of (replicate 111 0) [] bare ≡ refuse SystemTooShort bare
unfolding read_of sizes_check
bytes_111 = refl

pub bytes_112 : (read_of (replicate 112 0) [] bare).answer ≡ (Ok tt)
unfolding read_of sizes_check arrays_found located root_of unknowns_of number_at read_arrays arrays_check scan
    room_check
    sum_to bytes_of extent
bytes_112 = refl
