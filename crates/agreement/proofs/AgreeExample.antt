-- Pairs of sections that differ and agree, by computing; and pairs that differ in bytes that count, which don't.
use Prim.Native.Nat.{ℕ}
use native.Mathlib.Omega.{arith}
use mathlib.Core.Path.{◌≡◌, refl}
use mathlib.Core.List.{List, [], ◌∷◌, ◌++◌}
use lib.IntN.{pos}
use lib.Dec.{lit<, lit≤}
use lib.ListN.{take, drop, replicate}
use Rattle.records.specs.Bytes.{number_at, number_bytes, bits16}
use Rattle.records.specs.Sections.{located, extent, bytes_of, array_at}
use Rattle.records.specs.Root.{root_of, unknowns_of, root_bytes}
use Rattle.records.specs.Records.{node_at, link_at, junction_at, node_bytes, link_bytes, junction_bytes, ref_bytes}
use Rattle.cells.specs.Lists.{up_to, join_to, sum_to}
use Rattle.cells.specs.Paths.{path_link}
use Rattle.cells.specs.Nodes.{no_entry, no_link, no_map, no_ref}
use Rattle.cells.specs.declared.link.PathLink.{PathLink}
use Rattle.cells.specs.Checks.{sizes_check, arrays_found, scan, arrays_check}
use Rattle.cells.specs.Memory.{Memory, memory}
use Rattle.cells.specs.Read.{links_from, values_from, links_in, values_in, room_check, filled, read_arrays, read_of}
use Rattle.agreement.specs.Agree.{Agree}
use Rattle.cells.specs.FileCauses.{arrays_of}
use Rattle.agreement.proofs.Decided.{same_arrays, agrees, agree}
use Rattle.agreement.proofs.Agreed.{reads_same}
use Rattle.std.specs.Prelude.{Ok, Err}
use Rattle.numbers.specs.declared.refusal.Refusal.TheVariants.{BadArray}
use Rattle.numbers.specs.declared.refusal.Array.TheVariants as array

-- ---- a yard: two nodes, three links of which the middle one is in no node's range, a junction of 2 × 2 values,
-- one ref

-- 16 bytes of gap behind the root; nodes at 128, links at 208, junctions at 232, refs at 244; heightmap bytes in
-- the graphics section at 4
abbrev root_with : ℕ → ℕ → List ℕ
root_with refs ref-count = root_bytes (record {
  vft = 0;
  nodes = 0x50000080;
  node_count = 2;
  vehicle_node_count = 2;
  ped_node_count = 0;
  links = 0x500000d0;
  link_count = 3;
  junctions = 0x500000e8;
  heightmap = 0x60000004;
  refs = refs;
  ref_count = ref-count;
  junction_count = 1;
  heightmap_count = 6;
  unknowns = [];
})

-- with other bytes at offsets 4 to 15, and at 88 and 89
abbrev overwritten : ℕ → ℕ → List ℕ → List ℕ
overwritten pages first_count r = take 4 r ++ replicate 12 pages ++ take 72 (drop 16 r) ++ replicate 2 first_count
    ++ drop 90 r

-- a node of the area 5 with one link
abbrev node_from : ℕ → ℕ → List ℕ
node_from number link = node_bytes (record {
  unused0 = 0;
  unused1 = 0;
  unused2 = 0;
  unused3 = 0;
  area_id = 5;
  node_id = number;
  street_name = 0;
  unused4 = 0;
  link_id = link;
  position_x = pos number;
  position_y = pos number;
  flags0 = 0;
  flags1 = 0;
  position_z = pos number;
  flags2 = 0;
  link_count_flags = 8;
  flags3 = 0;
  flags4 = 0;
})

abbrev link_from : ℕ → List ℕ
link_from number = link_bytes (record {
  area_id = 5;
  node_id = number;
  flags0 = 0;
  flags1 = 0;
  flags2 = 0;
  link_length = 1;
})

-- its values are the heightmap bytes 1 to 4
abbrev junction_block : List ℕ
junction_block = junction_bytes (record {
  max_z = pos 3;
  position_x = pos 0;
  position_y = pos 0;
  min_z = pos 1;
  heightmap_ptr = 1;
  heightmap_dim_x = 2;
  heightmap_dim_y = 2;
})

abbrev ref_block : List ℕ
ref_block = ref_bytes (record { area_id = 5; node_id = 0; junction_id = 0; unk0 = 0 })

-- the system section, with what varies: offsets 4 to 15, offsets 88 and 89, the gap, the links in no range and in
-- the first node's
abbrev yard : ℕ → ℕ → ℕ → ℕ → ℕ → List ℕ
yard pages first_count gap unused used =
    overwritten pages first_count (root_with 0x500000f4 1) ++ replicate 16 gap ++ node_from 0 0 ++ node_from 1 2
    ++ link_from used ++ link_from unused ++ link_from 0 ++ junction_block ++ ref_block

-- the graphics section: a gap, six bytes of which the first and the last are in no junction's range, a gap
abbrev heights : ℕ → ℕ → ℕ → List ℕ
heights gap outside inside = replicate 4 gap ++ (outside ∷ 6 ∷ 7 ∷ 8 ∷ inside ∷ outside ∷ gap ∷ [])

unfoldable pub system : List ℕ
system = yard 0 0 0 1 1

unfoldable pub graphics : List ℕ
graphics = heights 0 0 9

-- ---- they differ in bytes that don't count, and agree

unfoldable pub other_pages : List ℕ
other_pages = yard 99 0 0 1 1

unfoldable pub other_first_count : List ℕ
other_first_count = yard 0 99 0 1 1

unfoldable pub other_gap : List ℕ
other_gap = yard 0 0 99 1 1

unfoldable pub other_link : List ℕ
other_link = yard 0 0 0 77 1

unfoldable pub other_system_bytes : List ℕ
other_system_bytes = yard 1 2 3 4 1

unfoldable pub other_graphics_gap : List ℕ
other_graphics_gap = heights 99 0 9

unfoldable pub other_height : List ℕ
other_height = heights 0 99 9

unfoldable pub other_graphics_bytes : List ℕ
other_graphics_bytes = heights 1 2 9

-- in offsets 4 to 15
pub pages_agree : Agree system graphics other_pages graphics
unfolding agrees same_arrays arrays_of array_at located bytes_of extent root_of unknowns_of number_at node_at
    junction_at root_bytes node_bytes link_bytes junction_bytes ref_bytes number_bytes bits16 system graphics
    other_pages
pages_agree = agree system graphics other_pages graphics refl

-- in offsets 88 and 89
pub first_counts_agree : Agree system graphics other_first_count graphics
unfolding agrees same_arrays arrays_of array_at located bytes_of extent root_of unknowns_of number_at node_at
    junction_at root_bytes node_bytes link_bytes junction_bytes ref_bytes number_bytes bits16 system graphics
    other_first_count
first_counts_agree = agree system graphics other_first_count graphics refl

-- in a gap of the system section, of the graphics section
pub gaps_agree : Agree system graphics other_gap graphics
unfolding agrees same_arrays arrays_of array_at located bytes_of extent root_of unknowns_of number_at node_at
    junction_at root_bytes node_bytes link_bytes junction_bytes ref_bytes number_bytes bits16 system graphics
    other_gap
gaps_agree = agree system graphics other_gap graphics refl

pub graphics_gaps_agree : Agree system graphics system other_graphics_gap
unfolding agrees same_arrays arrays_of array_at located bytes_of extent root_of unknowns_of number_at node_at
    junction_at root_bytes node_bytes link_bytes junction_bytes ref_bytes number_bytes bits16 system graphics
    other_graphics_gap
graphics_gaps_agree = agree system graphics system other_graphics_gap refl

-- in a link that is in no node's range
pub links_agree : Agree system graphics other_link graphics
unfolding agrees same_arrays arrays_of array_at located bytes_of extent root_of unknowns_of number_at node_at
    junction_at root_bytes node_bytes link_bytes junction_bytes ref_bytes number_bytes bits16 system graphics
    other_link
links_agree = agree system graphics other_link graphics refl

-- in heightmap bytes that are in no junction's range
pub heights_agree : Agree system graphics system other_height
unfolding agrees same_arrays arrays_of array_at located bytes_of extent root_of unknowns_of number_at node_at
    junction_at root_bytes node_bytes link_bytes junction_bytes ref_bytes number_bytes bits16 system graphics
    other_height
heights_agree = agree system graphics system other_height refl

-- in all of these at once
pub all_agree : Agree system graphics other_system_bytes other_graphics_bytes
unfolding agrees same_arrays arrays_of array_at located bytes_of extent root_of unknowns_of number_at node_at
    junction_at root_bytes node_bytes link_bytes junction_bytes ref_bytes number_bytes bits16 system graphics
    other_system_bytes other_graphics_bytes
all_agree = agree system graphics other_system_bytes other_graphics_bytes refl

-- ---- so they are read alike; and it is a reading that is accepted

unfoldable pub room : Memory
room =
    memory
    (record {
      vft = 0;
      vehicle_node_count = 0;
      ped_node_count = 0;
      unknowns = [];
      node_count = 0;
      link_count = 0;
      junction_count = 0;
      heightmap_count = 0;
      ref_count = 0;
    })
    (no_entry ∷ no_entry ∷ []) (no_link ∷ no_link ∷ []) (no_map ∷ []) (0 ∷ 0 ∷ 0 ∷ 0 ∷ []) (no_ref ∷ [])

pub accepted : (read_of system graphics room).answer ≡ (Ok tt)
unfolding read_of sizes_check arrays_found read_arrays arrays_check scan sum_to room_check room located bytes_of
    extent root_of unknowns_of number_at node_at junction_at root_bytes node_bytes link_bytes junction_bytes
    ref_bytes number_bytes bits16 system graphics
accepted = refl

pub all_read_alike : (m : Memory) → read_of system graphics m ≡ read_of other_system_bytes other_graphics_bytes m
all_read_alike m = reads_same system graphics other_system_bytes other_graphics_bytes all_agree m

-- the four values of the junction, as both leave them
pub values_read : (read_of system graphics room).memory.heights ≡ 6 ∷ 7 ∷ 8 ∷ 9 ∷ []
unfolding read_of sizes_check arrays_found read_arrays arrays_check scan sum_to room_check filled join_to up_to
    values_in values_from room located bytes_of extent root_of unknowns_of number_at node_at junction_at root_bytes
    node_bytes link_bytes junction_bytes ref_bytes number_bytes bits16 system graphics
values_read = refl

-- ---- a bad array: four refs pass the section's end, and their bytes that lie inside it need not agree

abbrev bad_yard : ℕ → List ℕ
bad_yard refs =
    root_with 0x500000f4 4 ++ replicate 16 0 ++ node_from 0 0 ++ node_from 1 2 ++ link_from 1 ++ link_from 1
    ++ link_from 0 ++ junction_block ++ replicate 8 refs

unfoldable pub bad_system : List ℕ
bad_system = bad_yard 0

unfoldable pub other_bad_system : List ℕ
other_bad_system = bad_yard 99

pub bad_agree : Agree bad_system graphics other_bad_system graphics
unfolding agrees same_arrays arrays_of array_at located bytes_of extent root_of unknowns_of number_at node_at
    junction_at root_bytes node_bytes link_bytes junction_bytes ref_bytes number_bytes bits16 system graphics
    bad_system other_bad_system
bad_agree = agree bad_system graphics other_bad_system graphics refl

-- both are refused with 3 at 4
pub bad_refused : (read_of other_bad_system graphics room).answer ≡ Err (BadArray array.Refs)
unfolding read_of sizes_check arrays_found room other_bad_system located bytes_of extent root_of unknowns_of
    number_at node_at junction_at root_bytes node_bytes link_bytes junction_bytes ref_bytes number_bytes bits16
    system graphics
bad_refused = refl

-- an empty array: address 0 with a count, and an address with count 0; nothing lies there
abbrev empty_yard : ℕ → ℕ → ℕ → List ℕ
empty_yard address count refs =
    root_with address count ++ replicate 16 0 ++ node_from 0 0 ++ node_from 1 2 ++ link_from 1 ++ link_from 1
    ++ link_from 0 ++ junction_block ++ replicate 8 refs

unfoldable pub no_address : List ℕ
no_address = empty_yard 0 1 0

unfoldable pub other_no_address : List ℕ
other_no_address = empty_yard 0 1 99

unfoldable pub no_refs : List ℕ
no_refs = empty_yard 0x500000f4 0 0

unfoldable pub other_no_refs : List ℕ
other_no_refs = empty_yard 0x500000f4 0 99

pub no_address_agree : Agree no_address graphics other_no_address graphics
unfolding agrees same_arrays arrays_of array_at located bytes_of extent root_of unknowns_of number_at node_at
    junction_at root_bytes node_bytes link_bytes junction_bytes ref_bytes number_bytes bits16 system graphics
    no_address other_no_address
no_address_agree = agree no_address graphics other_no_address graphics refl

pub no_refs_agree : Agree no_refs graphics other_no_refs graphics
unfolding agrees same_arrays arrays_of array_at located bytes_of extent root_of unknowns_of number_at node_at
    junction_at root_bytes node_bytes link_bytes junction_bytes ref_bytes number_bytes bits16 system graphics
    no_refs other_no_refs
no_refs_agree = agree no_refs graphics other_no_refs graphics refl

-- a system section of under 112 bytes: the root as far as it goes
unfoldable pub short : List ℕ
short = take 100 system

unfoldable pub other_short : List ℕ
other_short = take 100 other_pages

pub short_agree : Agree short graphics other_short graphics
unfolding agrees same_arrays arrays_of array_at located bytes_of extent root_of unknowns_of number_at node_at
    junction_at root_bytes node_bytes link_bytes junction_bytes ref_bytes number_bytes bits16 system graphics short
    other_short other_pages
short_agree = agree short graphics other_short graphics refl

-- ---- they differ in bytes that count, and don't agree

unfoldable pub other_used_link : List ℕ
other_used_link = yard 0 0 0 1 0

unfoldable pub other_used_height : List ℕ
other_used_height = heights 0 0 5

unfoldable pub other_count : List ℕ
other_count = take 90 system ++ (0 ∷ 0 ∷ []) ++ drop 92 system

-- the first word of the first node
unfoldable pub other_word : List ℕ
other_word = take 128 system ++ (1 ∷ []) ++ drop 129 system

-- in the number of the first node's link
pub used_link_counts : Agree system graphics other_used_link graphics → ⊥
unfolding arrays_of array_at located bytes_of extent root_of unknowns_of number_at node_at junction_at root_bytes
    node_bytes link_bytes junction_bytes ref_bytes number_bytes bits16 system graphics other_used_link
used_link_counts h = let e : ◌≡◌ {A = ℕ} 1 0 = (h.same_arrays (lit≤ tt)).links 2 (lit< tt)
    (record { node = 0; is_node = lit< tt; from = lit≤ tt; before = lit< tt }) in omega arith

-- and it is read: the links to these numbers, of length 1
abbrev link_to : ℕ → PathLink
link_to k = record { area_id = 5; node_id = k; flags0 = 0; flags1 = 0; flags2 = 0; length = 1 }

pub links_read : (read_of system graphics room).memory.links ≡ link_to 1 ∷ link_to 0 ∷ []
unfolding read_of sizes_check arrays_found read_arrays arrays_check scan sum_to room_check filled join_to up_to
    links_in links_from path_link link_at room located bytes_of extent root_of unknowns_of number_at
    node_at junction_at root_bytes node_bytes link_bytes junction_bytes ref_bytes number_bytes bits16 system graphics
links_read = refl

pub other_links_read : (read_of other_used_link graphics room).memory.links ≡ link_to 0 ∷ link_to 0 ∷ []
unfolding read_of sizes_check arrays_found read_arrays arrays_check scan sum_to room_check filled join_to up_to
    links_in links_from path_link link_at room other_used_link located bytes_of extent root_of
    unknowns_of number_at node_at junction_at root_bytes node_bytes link_bytes junction_bytes ref_bytes number_bytes
    bits16 system graphics
other_links_read = refl

-- in the last of the junction's values
pub used_height_counts : Agree system graphics system other_used_height → ⊥
unfolding arrays_of array_at located bytes_of extent root_of unknowns_of number_at node_at junction_at root_bytes
    node_bytes link_bytes junction_bytes ref_bytes number_bytes bits16 system graphics other_used_height
used_height_counts h = let e : ◌≡◌ {A = ℕ} 9 5 = (h.same_arrays (lit≤ tt)).heights 4 (lit< tt)
    (record { junction = 0; is_junction = lit< tt; from = lit≤ tt; before = lit< tt }) in omega arith

-- in the second ref count, at offset 90
pub second_count_counts : Agree system graphics other_count graphics → ⊥
unfolding arrays_of array_at located bytes_of extent root_of unknowns_of number_at node_at junction_at root_bytes
    node_bytes link_bytes junction_bytes ref_bytes number_bytes bits16 system graphics other_count
second_count_counts h = let e : ◌≡◌ {A = ℕ} 1 0 = h.same_root 90 (lit< tt) (lit< tt) refl in omega arith

-- in a word of a node that reading drops before T-10: document 02 asks for the whole array
pub dropped_word_asked : Agree system graphics other_word graphics → ⊥
unfolding arrays_of array_at located bytes_of extent root_of unknowns_of number_at node_at junction_at root_bytes
    node_bytes link_bytes junction_bytes ref_bytes number_bytes bits16 system graphics other_word
dropped_word_asked h = let e : ◌≡◌ {A = ℕ} 0 1 = (h.same_arrays (lit≤ tt)).nodes 0 (lit< tt) in omega arith

-- ---- an array may lie over the root: there the offsets 4 to 15 count, since they are the array's

-- heightmap bytes from the system offset 0 on; the junction's values are those at 4 to 7
abbrev root_over : ℕ → List ℕ
root_over pages =
    overwritten pages 0 (root_bytes (record {
      vft = 0;
      nodes = 0;
      node_count = 0;
      vehicle_node_count = 0;
      ped_node_count = 0;
      links = 0;
      link_count = 0;
      junctions = 0x50000070;
      heightmap = 0x50000000;
      refs = 0;
      ref_count = 0;
      junction_count = 1;
      heightmap_count = 16;
      unknowns = [];
    })) ++ junction_bytes (record {
      max_z = pos 3;
      position_x = pos 0;
      position_y = pos 0;
      min_z = pos 1;
      heightmap_ptr = 4;
      heightmap_dim_x = 2;
      heightmap_dim_y = 2;
    })

unfoldable pub over_root : List ℕ
over_root = root_over 1

unfoldable pub other_over_root : List ℕ
other_over_root = root_over 2

pub over_root_counts : Agree over_root [] other_over_root [] → ⊥
unfolding arrays_of array_at located bytes_of extent root_of unknowns_of number_at node_at junction_at root_bytes
    node_bytes link_bytes junction_bytes ref_bytes number_bytes bits16 system graphics over_root other_over_root
over_root_counts h = let e : ◌≡◌ {A = ℕ} 1 2 = (h.same_arrays (lit≤ tt)).heights 4 (lit< tt)
    (record { junction = 0; is_junction = lit< tt; from = lit≤ tt; before = lit< tt }) in omega arith

pub over_root_read : (read_of over_root [] room).memory.heights ≡ 1 ∷ 1 ∷ 1 ∷ 1 ∷ []
unfolding read_of sizes_check arrays_found read_arrays arrays_check scan sum_to room_check filled join_to up_to
    values_in values_from room over_root located bytes_of extent root_of unknowns_of number_at node_at junction_at
    root_bytes node_bytes link_bytes junction_bytes ref_bytes number_bytes bits16 system graphics
over_root_read = refl

pub other_over_root_read : (read_of other_over_root [] room).memory.heights ≡ 2 ∷ 2 ∷ 2 ∷ 2 ∷ []
unfolding read_of sizes_check arrays_found read_arrays arrays_check scan sum_to room_check filled join_to up_to
    values_in values_from room other_over_root located bytes_of extent root_of unknowns_of number_at node_at
    junction_at root_bytes node_bytes link_bytes junction_bytes ref_bytes number_bytes bits16 system graphics
other_over_root_read = refl
