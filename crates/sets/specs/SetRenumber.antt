-- T-09: renumbering one member, with the correction of the others' links, and write-then-read of one member.
use Rattle.cells.specs.EditedCell.{with_nodes, node_linked}
use Rattle.std.specs.Prelude.{ℕ, Bool, false, cond, List, map, eqb, set}
use Rattle.std.proofs.Math.Option.{Option, none, some}
use Rattle.numbers.specs.Refusals.{Answer, decided}
use Rattle.cells.specs.Order.{Old, new_number}
use Rattle.cells.specs.Memory.{Memory, memory}
use Rattle.cells.specs.Cell.{Node, Cell, old_nodes, renumber_cell}
use Rattle.cells.specs.Renumber.{Renumbered, over, renumber}
use Rattle.cells.specs.WriteRead.{Both, write_read_of}
use Rattle.sets.specs.Members.{cell_at, areas, member_for, map_from}
use Rattle.sets.specs.MemberList.{member_at, cells_of, member_causes, unless}
use Rattle.std.specs.Prelude.{Result, Ok, Err}
use Rattle.numbers.specs.declared.refusal.Refusal.{Refusal}
use Rattle.cells.specs.declared.link.PathLink.{PathLink}

-- ---- which links are corrected

abbrev pub is_member : ℕ → Option ℕ → Bool
is_member j (some k) = eqb k j
is_member j none = false

-- What the correction goes by: the members' areas, the member that is renumbered, and its nodes as they were.
pub record Change : Type 0 where
  pub areas : List ℕ
  pub member : ℕ
  pub old : Old

-- "Renumbering one member also corrects the links in the others that name its area and that their own cell's rule
-- doesn't claim": a link of the area a in the member i names the member renumbered, so that "the one that joined first
-- is meant by links".
abbrev pub meant : Change → ℕ → ℕ → Bool
meant x i a = is_member x.member (member_for x.areas i a)

-- its number
unfoldable pub corrected : Change → ℕ → ℕ → ℕ → ℕ
corrected x i a k = cond (meant x i a) (new_number x.old k) k

-- ---- of a cell

abbrev pub correct_link : Change → ℕ → PathLink → PathLink
correct_link x i l = record l { node_id = corrected x i l.area_id l.node_id }

abbrev pub correct_node : Change → ℕ → Node → Node
correct_node x i n = node_linked (map (correct_link x i) n.links) n

-- the links of the member i; its refs stay
abbrev pub correct_cell : Change → ℕ → Cell → Cell
correct_cell x i c = with_nodes (map (correct_node x i) c.nodes) c

abbrev pub change_of : List Cell → ℕ → Change
change_of cs j = record { areas = areas cs; member = j; old = old_nodes (cell_at cs j).nodes }

-- the member j renumbered, the links of the others corrected
unfoldable pub renumber_cells : List Cell → ℕ → List Cell
renumber_cells cs j = set (map_from (correct_cell (change_of cs j)) 0 cs) j (renumber_cell (cell_at cs j))

-- ---- in memory

-- each of the links that the count says, once; all else stays
unfoldable pub correct_memory : Change → ℕ → Memory → Memory
correct_memory x i m =
    memory m.ynd m.nodes (over (map (correct_link x i)) m.ynd.link_count m.links) m.junctions m.heights
    m.refs

-- what a renumbering answers, and the members and the list of new places after it
pub record SetRenumbered : Type 0 where
  pub answer : Answer
  pub members : List Memory
  pub places : List ℕ

-- a refused renumbering changes no member
abbrev pub members_after : Answer → List Memory → ℕ → Memory → List Memory
members_after (Ok _) ms j m = set (map_from (correct_memory (change_of (cells_of ms) j)) 0 ms) j m
members_after (Err cause) ms j m = ms

abbrev pub renumbered_in : List Memory → ℕ → Renumbered → SetRenumbered
renumbered_in ms j r = record { answer = r.answer; members = members_after r.answer ms j r.memory; places = r.places }

abbrev pub not_renumbered : List Memory → List ℕ → Refusal → SetRenumbered
not_renumbered ms places cause = record { answer = Err cause; members = ms; places = places }

-- 13, 14; else as the cell's own renumbering answers
unfoldable pub renumber_in : List Memory → ℕ → ℕ → List ℕ → SetRenumbered
renumber_in ms j scratch places =
    unless (decided (member_causes ms j)) (not_renumbered ms places)
    (renumbered_in ms j (renumber (member_at ms j) scratch places))

-- what a write-then-read answers, and the members and the section after it
pub record SetBoth : Type 0 where
  pub answer : Result ℕ Refusal
  pub members : List Memory
  pub section : List ℕ

abbrev pub both_in : List Memory → ℕ → Both → SetBoth
both_in ms j b = record { answer = b.answer; members = set ms j b.memory; section = b.section }

abbrev pub not_written : List Memory → List ℕ → Refusal → SetBoth
not_written ms section cause = record { answer = Err cause; members = ms; section = section }

-- 13, 14; else as the cell's own write-then-read answers
unfoldable pub write_read_in : List Memory → ℕ → List ℕ → SetBoth
write_read_in ms j section =
    unless (decided (member_causes ms j)) (not_written ms section)
    (both_in ms j (write_read_of (member_at ms j) section))
