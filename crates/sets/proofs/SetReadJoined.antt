-- The claim's hypotheses hold of a set that calls made: two files are read, and the two cells join an empty set.
use Prim.Native.Nat.{ℕ, ◌<◌}
use native.Mathlib.Omega.{arith}
use mathlib.Core.Path.{◌≡◌, refl, ap, sym, ◌∙◌, subst}
use mathlib.Core.List.{List, [], ◌∷◌, ◌++◌}
use lib.ListN.{length}
use Rattle.records.specs.Bytes.{number_at, number_bytes, bits16}
use Rattle.records.specs.Sections.{located, extent, bytes_of}
use Rattle.records.specs.Root.{unknowns_of, root_of, root_bytes}
use Rattle.records.specs.Records.{node_at, node_bytes, link_at, link_bytes, junction_at}
use Rattle.cells.specs.Lists.{up_to, join_to, sum_to, every}
use Rattle.cells.specs.Paths.{path_node, path_link}
use Rattle.cells.specs.Checks.{sizes_check, arrays_found, scan, arrays_check}
use Rattle.cells.specs.Memory.{Memory, over_limit}
use Rattle.cells.specs.Read.{links_from, node_in, links_in, room_check, cell_read, filled, read_arrays, read_of}
use Rattle.cells.specs.Nodes.{no_entry, no_link}
use Rattle.cells.specs.Cell.{Cell}
use Rattle.cells.specs.CellOf.{nodes_of, junctions_of, refs_of, cell_of}
use Rattle.cells.specs.Lookup.{first_with}
use Rattle.sets.specs.Members.{map_from}
use Rattle.sets.specs.SetSound.{set_sound}
use Rattle.sets.specs.MemberList.{cells_of, nodes_together, any_over, over_set}
use Rattle.sets.specs.SetCalls.{SetCall}
use Rattle.sets.specs.CellSet.{CellSet, cell_set, ynd_of, words_at, total, parts_of, parts_in, members_of, holds_list}
use Rattle.sets.specs.Leave.{used, first_of_area}
use Rattle.sets.specs.Join.{stored, part_fits, lack_for, join_causes, with_cell, join_cell}
use Rattle.cells.specs.Memory.{per_list}
use Rattle.sets.specs.SetStored.{member_in}
use Rattle.sets.specs.SetClaim.{CellAsRead}
use Rattle.sets.specs.SetCallsClaim.{CallsUnnoticed}
use Rattle.sets.specs.CellSet.{cells_in}
use Rattle.sets.specs.SetCallLaws.{joined_set, JoinStores}
use Rattle.cells.specs.declared.counts.Counts.{Counts}
use Rattle.sets.proofs.SetDemand.{as_read}
use Rattle.sets.proofs.SetRead.{file_of, room, reads_5, reads_6, members, members_sound}
use Rattle.sets.proofs.SetJoined.{join_stores, seven_read}
use Rattle.sets.proofs.SetCallsUnnoticed.{calls_unnoticed}
use Rattle.std.specs.Prelude.{Ok}

-- six lists with room for two members of two nodes and two links
abbrev empty : CellSet
empty = cell_set ([] ∷ [] ∷ []) (no_entry ∷ no_entry ∷ no_entry ∷ no_entry ∷ [])
    (no_link ∷ no_link ∷ no_link ∷ no_link ∷ []) [] [] []

abbrev two : Counts
two = per_list 2 2 0 0 0

abbrev five : Memory
five = (read_of (file_of 5 6) [] room).memory

abbrev six : Memory
six = (read_of (file_of 6 5) [] room).memory

first_joins : (join_cell 0 empty five two).answer ≡ (Ok tt)
unfolding file_of room root_bytes node_bytes link_bytes number_bytes bits16 read_of sizes_check arrays_found located
    root_of
    unknowns_of number_at bytes_of extent read_arrays arrays_check scan node_at link_at junction_at sum_to up_to
    join_to
    room_check filled cell_read node_in links_in links_from path_link path_node join_cell
    join_causes
    lack_for part_fits first_of_area members_of map_from parts_in parts_of words_at total ynd_of over_set
    nodes_together any_over over_limit holds_list every cell_of nodes_of junctions_of refs_of first_with
first_joins = refl

abbrev one_set : CellSet
one_set = (join_cell 0 empty five two).lists

second_joins : (join_cell 1 one_set six two).answer ≡ (Ok tt)
unfolding file_of room root_bytes node_bytes link_bytes number_bytes bits16 read_of sizes_check arrays_found located
    root_of
    unknowns_of number_at bytes_of extent read_arrays arrays_check scan node_at link_at junction_at sum_to up_to
    join_to
    room_check filled cell_read node_in links_in links_from path_link path_node join_cell
    join_causes
    with_cell stored lack_for part_fits first_of_area members_of map_from parts_in parts_of words_at total ynd_of
    over_set nodes_together any_over over_limit holds_list every cell_of nodes_of junctions_of refs_of first_with
second_joins = refl

-- ---- what joining stored

one_joined : JoinStores 0 empty five two
one_joined = join_stores 0 empty five two (seven_read (file_of 5 6) [] room reads_5) first_joins

two_stored : JoinStores 1 one_set six two
two_stored = join_stores 1 one_set six two (seven_read (file_of 6 5) [] room reads_6) second_joins

abbrev set_of_two : CellSet
set_of_two = joined_set 1 one_set six two

-- the set that the first joining left
between : joined_set 0 empty five two ≡ used 1 one_set
between = ap (λ (n : ℕ). used n one_set) one_joined.counted

none_yet : cells_in (used 0 empty) ≡ []
unfolding members_of map_from
none_yet = refl

the_cells : cells_in set_of_two ≡ cells_of members
the_cells =
    two_stored.all_cells
    ∙ ap (λ (y : CellSet). cells_in y ++ (cell_of six ∷ [])) (sym between)
    ∙ ap (λ (cs : List Cell). cs ++ (cell_of six ∷ []))
    (one_joined.all_cells ∙ ap (λ (cs : List Cell). cs ++ (cell_of five ∷ [])) none_yet)

first_read : (i : ℕ) → i < length (used 1 one_set).members → CellAsRead (member_in (used 1 one_set) i)
first_read = subst (λ (y : CellSet). (i : ℕ) → i < length y.members → CellAsRead (member_in y i)) between
    (one_joined.all_read (λ i lt. absurd (omega arith)) (as_read (file_of 5 6) [] room reads_5))

-- the claim, of the set of these two and every list of calls on them
pub two_joined : (calls : List SetCall) → CallsUnnoticed set_of_two calls
two_joined =
    calls_unnoticed set_of_two (two_stored.all_read first_read (as_read (file_of 6 5) [] room reads_6))
    (ap set_sound the_cells ∙ members_sound)
