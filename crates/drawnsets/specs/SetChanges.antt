-- T-09: every public call that changes a set, on the six lists that it is lent, and what it leaves of them, by the
-- definitions that the functions' contracts cite. The set's entries are all that the members' list has.
use Rattle.std.specs.Prelude.{ℕ, List, [], ◌∷◌, ◌++◌, length}
use Rattle.numbers.specs.Refusals.{Cause}
use Rattle.cells.specs.Memory.{Memory}
use Rattle.cells.specs.declared.counts.Counts.{Counts}
use Rattle.sets.specs.CellSet.{CellSet, cell_set}
use Rattle.sets.specs.SetStored.{ask_causes}
use Rattle.sets.specs.SetCallLaws.{joined_set, left_set}
use Rattle.sets.specs.RenumberMember.{renumber_member}
use Rattle.sets.specs.WriteMember.{write_read_member}
use Rattle.sets.specs.MemberEdit.{edit_by, edit_member, add_causes}
use Rattle.sets.specs.MemberEdit as member
use Rattle.drawn.specs.Changes.{Edit, edited}
use Rattle.drawn.specs.Changes.{add_node, add_link, add_ref, add_junction}
use Rattle.drawn.specs.Changes.{put_node, set_position, put_link, put_ref, put_junction, put_height}
use Rattle.drawn.specs.Changes.{put_links, put_heightmap, truncate_nodes, truncate_junctions, truncate_refs}
use Rattle.drawn.specs.Changes.{set_vft, set_vehicle_node_count, set_ped_node_count, set_unknowns}

pub data SetChange : Type 0 where
  -- a cell in lists of its own joins, with the sizes that its parts are to have, and room behind the members' entries
  joining : Memory → Counts → List (List ℕ) → SetChange
  -- the member of an area leaves
  leaving : ℕ → SetChange
  -- a member is renumbered, written then read, edited; the first number is its place among the members
  renumbering : ℕ → List ℕ → List ℕ → SetChange
  write_read : ℕ → List ℕ → SetChange
  edit : ℕ → Edit → SetChange
  -- all of a member's own words
  put_words : ℕ → ℕ → ℕ → ℕ → List ℕ → SetChange

-- what an edit of a member is asked before the cell's own causes; a node more also for the members' nodes together
abbrev pub causes_for : CellSet → ℕ → Edit → List Cause
causes_for y j (add_node area at) = add_causes y j
causes_for y j (add_link p x) = ask_causes y j
causes_for y j (add_ref r) = ask_causes y j
causes_for y j (add_junction x values) = ask_causes y j
causes_for y j (put_node p x) = ask_causes y j
causes_for y j (set_position p at) = ask_causes y j
causes_for y j (put_link p k x) = ask_causes y j
causes_for y j (put_ref p r) = ask_causes y j
causes_for y j (put_junction p x) = ask_causes y j
causes_for y j (put_height p k v) = ask_causes y j
causes_for y j (put_links p ls) = ask_causes y j
causes_for y j (put_heightmap p width height values) = ask_causes y j
causes_for y j (truncate_nodes k) = ask_causes y j
causes_for y j (truncate_junctions k) = ask_causes y j
causes_for y j (truncate_refs k) = ask_causes y j
causes_for y j (set_vft v) = ask_causes y j
causes_for y j (set_vehicle_node_count v) = ask_causes y j
causes_for y j (set_ped_node_count v) = ask_causes y j
causes_for y j (set_unknowns words) = ask_causes y j

-- the six lists with more entries behind the members'
abbrev pub with_room : CellSet → List (List ℕ) → CellSet
with_room y room = cell_set (y.members ++ room) y.nodes y.links y.junctions y.heights y.refs

-- the set after a call; a refused one leaves it as it was
unfoldable pub after : CellSet → SetChange → CellSet
after y (joining m sizes room) = joined_set (length y.members) (with_room y room) m sizes
after y (leaving area) = left_set y area
after y (renumbering j scratch places) = (renumber_member y j (length scratch) places).lists
after y (write_read j section) = (write_read_member y j section).lists
after y (edit j e) = (edit_by (causes_for y j e) y j (λ m. edited m e)).lists
after y (put_words j vft vehicles peds words) =
    (edit_member y j (λ m. member.put_words m vft vehicles peds words)).lists

-- after a list of calls, each of which gets what the one before it left
unfoldable pub run : CellSet → List SetChange → CellSet
run y [] = y
run y (k ∷ ks) = run (after y k) ks
