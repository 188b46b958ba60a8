-- The worked example of T-13, computed: area 489, node 0 at zero with one link to node 1, node 1 at steps 12, 16, 0,
-- and a round from node 0 with the choice 0. The bytes and the text are those of this crate's stdin and stdout.
-- Assumes nothing.
use Prim.Native.Nat.{ℕ}
use mathlib.Core.Path.{◌≡◌, refl}
use Rattle.std.specs.Prelude.{List, [], ◌∷◌, ◌++◌, replicate, codes}
use Rattle.std.specs.Fmt.{digits}
use lib.Ieee.{of_bits, to_bits, round}
use Rattle.numbers.specs.Steps.{step_of, unstep}
use Rattle.records.specs.Bytes.{number_at, number_bytes, signed16, bits16}
use Rattle.records.specs.Sections.{located, extent, bytes_of, array_at}
use Rattle.records.specs.Root.{unknowns_of, root_of}
use Rattle.records.specs.Records.{node_at, link_at, junction_at, ref_at}
use Rattle.cells.specs.Lists.{up_to, join_to, sum_to}
use Rattle.cells.specs.Paths.{path_node, path_link}
use Rattle.cells.specs.Checks.{sizes_check, arrays_found, scan, arrays_check}
use Rattle.cells.specs.Memory.{over_limit, nodes_causes}
use Rattle.cells.specs.NewYnd.{new_ynd}
use Rattle.cells.specs.Read.{links_from, node_in, links_in, room_check, cell_read, filled, read_arrays, read_of}
use Rattle.cells.specs.Area.{belongs}
use Rattle.cells.specs.CellOf.{nodes_of}
use Rattle.cells.specs.Lookup.{first_with, find}
use Rattle.cells.specs.LookupCall.{numbers_in, find_in, node_call}
use Rattle.walks.specs.Walk.{next}
use Rattle.walks.specs.WalkCall.{route, walk_call}
use Rattle.rounds.specs.Round.{has_version, rest_read, version_read}
use Rattle.rounds.specs.Follow.{follow_round, follow_version}
use Rattle.records.specs.Put.{put}
use Rattle.printround.specs.Text.{steps_of, line_of, lines_of}
use Rattle.printround.specs.Printed.{lent, choices_lent, visited_lent, section_of, printed}

abbrev input : List ℕ
input =
    (200 ∷ []) ++ replicate 19 0 ++ (112 ∷ 0 ∷ 0 ∷ 80 ∷ []) ++ replicate 4 0 ++ (2 ∷ []) ++ replicate 15 0
    ++ (192 ∷ 0 ∷ 0 ∷ 80 ∷ []) ++ replicate 4 0 ++ (1 ∷ []) ++ replicate 79 0 ++ (233 ∷ 1 ∷ [])
    ++ replicate 19 0 ++ (8 ∷ []) ++ replicate 18 0 ++ (233 ∷ 1 ∷ 1 ∷ []) ++ replicate 7 0
    ++ (1 ∷ 0 ∷ 12 ∷ 0 ∷ 16 ∷ []) ++ replicate 9 0 ++ (233 ∷ 1 ∷ 1 ∷ []) ++ replicate 4 0
    ++ (5 ∷ 82 ∷ 78 ∷ 68 ∷ 1 ∷ 0 ∷ 0 ∷ 0 ∷ 1 ∷ 0 ∷ 0 ∷ [])

pub worked_example : printed input
    ≡ codes "round area 489 choices 1\n0 node 0 x 0 y 0 z 0\n1 node 1 x 12 y 16 z 0\nend done\n"
unfolding digits of_bits to_bits round step_of unstep number_at number_bytes signed16 bits16 located extent bytes_of
    array_at unknowns_of root_of node_at link_at junction_at ref_at up_to join_to sum_to path_node path_link
    sizes_check arrays_found scan arrays_check over_limit new_ynd links_from node_in links_in
    room_check cell_read filled read_arrays read_of belongs nodes_of first_with find
    nodes_causes numbers_in find_in node_call next route walk_call has_version rest_read version_read
    follow_round follow_version put steps_of line_of lines_of lent choices_lent visited_lent section_of printed
worked_example = refl
