-- The laws speak of something: a drawn yard joins a set without members, gets a node more there, and an area that no
-- member has is asked to leave. All of it is computed.
use native.Mathlib.Omega.{arith}
use mathlib.Core.Path.{◌≡◌, refl}
use mathlib.Core.List.{List, [], ◌∷◌, map}
use lib.ListN.{replicate}
use Rattle.cells.specs.Lists.{every}
use Rattle.cells.specs.NewYnd.{new_ynd}
use Rattle.cells.specs.Nodes.{no_entry, no_link}
use Rattle.cells.specs.NodeAccess.{new_node}
use Rattle.cells.specs.Memory.{over_limit}
use Rattle.cells.specs.Edit.{held_in}
use Rattle.cells.specs.Add.{with_counts, room_for}
use Rattle.cells.specs.Add as adds
use Rattle.cells.specs.AddLink.{behind, inserted, shifted, nodes_after, room_for_link}
use Rattle.cells.specs.AddLink as links
use Rattle.cells.specs.Cell.{Node}
use Rattle.cells.specs.CellOf.{nodes_of, cell_of}
use Rattle.cells.specs.Lookup.{first_with}
use Rattle.records.specs.Put.{put}
use Rattle.sets.specs.Members.{map_from}
use Rattle.sets.specs.MemberList.{nodes_together, any_over, over_set}
use Rattle.sets.specs.CellSet.{CellSet, cell_set, words_at, total, ynd_of, parts_of, parts_in, members_of}
use Rattle.sets.specs.CellSet.{holds_list, lack_of, set_causes}
use Rattle.sets.specs.Leave.{first_of_area, leave_causes, leave_area}
use Rattle.sets.specs.Join.{part_fits, lack_for, join_causes, stored, with_cell, join_cell}
use Rattle.cells.specs.Memory.{per_list}
use Rattle.sets.specs.SetStored.{member_in, ask_causes, with_member}
use Rattle.sets.specs.MemberEdit.{edit_by, add_causes}
use Rattle.drawn.specs.Changes.{add_node, edited}
use Rattle.drawn.specs.Changes as cell
use Rattle.drawn.proofs.Made.{drawn_new}
use Rattle.drawn.proofs.YardExample.{lent, origin, drawing, drawing_fits, yard}
use Rattle.drawnsets.specs.SetChanges.{SetChange, joining, leaving, edit, after, run}
use Rattle.drawnsets.specs.AllMade.{AllMade, AllFit}
use Rattle.drawnsets.proofs.SetMade.{set_drawn}

abbrev nobody : CellSet
nobody = cell_set [] (replicate 4 no_entry) (replicate 5 no_link) [] [] []

abbrev calls : List SetChange
calls = joining yard (per_list 3 4 0 0 0) ([] ∷ []) ∷ edit 0 (add_node 5 origin) ∷ leaving 6 ∷ []

pub numbers_there : map (λ (n : Node). n.number) (cell_of (member_in (run nobody calls) 0)).nodes ≡ 0 ∷ 1 ∷ 2 ∷ []
unfolding run after cell.run cell.after edited new_ynd over_limit adds.add_node room_for with_counts links.add_link
    room_for_link nodes_after inserted shifted behind held_in new_node cell_of nodes_of first_with every map_from
    nodes_together any_over over_set words_at total ynd_of parts_of
    parts_in members_of holds_list lack_of set_causes first_of_area leave_causes leave_area part_fits lack_for
    join_causes stored with_cell join_cell ask_causes with_member edit_by add_causes put
numbers_there = refl

calls_fit : AllFit calls
unfolding AllFit
calls_fit = (drawn_new lent drawing drawing_fits, (omega arith, (tt, tt)))

pub set_made : AllMade (run nobody calls)
set_made = set_drawn (replicate 4 no_entry) (replicate 5 no_link) [] [] [] calls calls_fit
