-- A round on paper with other numbers, computed at the bytes of walks' Example, whose nodes have the numbers 7, 3
-- and 9.
-- Assumes nothing.
use Prim.Native.Nat.{ℕ, ◌<◌}
use native.Mathlib.Omega.{arith}
use mathlib.Core.Path.{◌≡◌, refl}
use mathlib.Core.List.{List, [], ◌∷◌, map}
use lib.Ieee.{of_bits, to_bits, round}
use lib.ListN.{length, get_or}
use Rattle.std.specs.Prelude.{codes}
use Rattle.std.specs.Fmt.{digits}
use Rattle.numbers.specs.Steps.{step_of, unstep}
use Rattle.records.specs.Bytes.{number_at, number_bytes, signed16, bits16}
use Rattle.records.specs.Sections.{located, extent, bytes_of, array_at}
use Rattle.records.specs.Root.{unknowns_of, root_of, root_bytes}
use Rattle.records.specs.Records.{node_at, node_bytes, link_at, link_bytes, junction_at, junction_bytes, ref_at}
use Rattle.records.specs.Records.{ref_bytes}
use Rattle.cells.specs.Area.{belongs}
use Rattle.cells.specs.Cell.{Node}
use Rattle.cells.specs.FileCell.{file_nodes, file_junctions, file_refs, cell_from, cell_by, file_cell}
use Rattle.cells.specs.Lists.{up_to}
use Rattle.cells.specs.Lookup.{first_with, find}
use Rattle.cells.specs.Paths.{path_node, path_link}
use Rattle.walks.specs.Walk.{next}
use Rattle.walks.specs.WalkCall.{route}
use Rattle.walks.proofs.Example.{bytes}
use Rattle.printround.specs.Text.{steps_of, line_of, lines_of}
use Rattle.printround.specs.SameRound.{lines_with, walk_text, walk_text_with}

abbrev pub choices : List ℕ
choices = 0 ∷ 0 ∷ []

abbrev pub nodes : List Node
nodes = (file_cell bytes []).nodes

-- the round as first printed, of a file of two choices
pub with_own : walk_text nodes choices 2 0
    ≡ codes
    "round area 5 choices 2\n0 node 7 x 32 y 36 z 96\n1 node 3 x 0 y 4 z 64\n2 node 9 x 64 y 68 z 128\nend done\n"
unfolding digits of_bits to_bits round step_of unstep number_at number_bytes signed16 bits16 located extent bytes_of
    array_at unknowns_of root_of root_bytes node_at node_bytes link_at link_bytes junction_at junction_bytes ref_at
    ref_bytes belongs file_nodes file_junctions file_refs cell_from cell_by file_cell up_to first_with find
    path_node path_link
    next route bytes steps_of line_of lines_of
with_own = refl

-- with the numbers 0, 2 and 1
pub with_others : walk_text_with (λ p. get_or (0 ∷ 2 ∷ 1 ∷ []) p 0) nodes choices 2 0
    ≡ codes
    "round area 5 choices 2\n0 node 0 x 32 y 36 z 96\n1 node 2 x 0 y 4 z 64\n2 node 1 x 64 y 68 z 128\nend done\n"
unfolding digits of_bits to_bits round step_of unstep number_at number_bytes signed16 bits16 located extent bytes_of
    array_at unknowns_of root_of root_bytes node_at node_bytes link_at link_bytes junction_at junction_bytes ref_at
    ref_bytes belongs file_nodes file_junctions file_refs cell_from cell_by file_cell up_to first_with find
    path_node path_link
    next route bytes steps_of lines_with
with_others = refl

-- whatever the numbers are, those of the three nodes are all that is printed of them
pub three_numbers : (numbers : ℕ → ℕ) → walk_text_with numbers nodes choices 2 0
    ≡ walk_text_with (λ p. get_or (map numbers (0 ∷ 1 ∷ 2 ∷ [])) p 0) nodes choices 2 0
unfolding digits of_bits to_bits round step_of unstep number_at number_bytes signed16 bits16 located extent bytes_of
    array_at unknowns_of root_of root_bytes node_at node_bytes link_at link_bytes junction_at junction_bytes ref_at
    ref_bytes belongs file_nodes file_junctions file_refs cell_from cell_by file_cell up_to first_with find
    path_node path_link
    next route bytes lines_with
three_numbers numbers = refl

pub is_inside : 0 < length nodes
unfolding number_at number_bytes bits16 located extent bytes_of unknowns_of root_of root_bytes array_at node_at
    node_bytes link_bytes junction_bytes ref_bytes up_to file_nodes cell_from cell_by file_cell bytes
is_inside = omega arith
