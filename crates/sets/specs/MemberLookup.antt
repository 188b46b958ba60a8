-- T-09: lookups in a member, entries taken out of it, and what a walk shows there: each the cell's own call, of the
-- member through its parts.
use Rattle.std.specs.Prelude.{ℕ, List, length}
use Rattle.numbers.specs.Refusals.{decided}
use Rattle.cells.specs.Memory.{Memory}
use Rattle.cells.specs.Edit.{node_entry, link_entry, ref_entry, junction_entry, height_entry, got, got_as}
use Rattle.cells.specs.EntryForms.{entry_as_node, entry_as_junction}
use Rattle.cells.specs.Nodes.{no_entry, no_link, no_map, no_ref}
use Rattle.cells.specs.LookupCall.{Place, area_id_call, node_call, junction_of_call}
use Rattle.cells.specs.declared.ynd.Ynd.{Ynd}
use Rattle.cells.specs.declared.node.PathNode.{PathNode}
use Rattle.cells.specs.declared.link.PathLink.{PathLink}
use Rattle.cells.specs.declared.junction.PathJunction.{PathJunction}
use Rattle.records.specs.declared.junction_ref.NodeJunctionRef.{NodeJunctionRef}
use Rattle.walks.specs.declared.shown.SeenNode.{SeenNode}
use Rattle.walks.specs.declared.shown.SeenJunction.{SeenJunction}
use Rattle.walks.specs.declared.shown.SeenLink.{SeenLink}
use Rattle.walks.specs.Shown.{ValuesLeft, values_left, shown_node, shown_junction, shown_values, shown_link}
use Rattle.sets.specs.MemberList.{unless}
use Rattle.sets.specs.CellSet.{CellSet}
use Rattle.sets.specs.SetStored.{member_in, ask_causes}
use Rattle.std.specs.Prelude.{Option, Result, Ok, Err, Some, None}
use Rattle.numbers.specs.declared.refusal.Refusal.{Refusal}
use Rattle.numbers.specs.declared.refusal.Refusal.TheVariants.{NoSuchPlace}

-- 13, 14, 7 of the set; else as the cell's own call
unfoldable pub ask_member : {A : Type 0} → CellSet → ℕ → (Refusal → A) → (Memory → A) → A
ask_member y j refused call = unless (decided (ask_causes y j)) refused (call (member_in y j))

-- ---- lookups

abbrev pub area_id_member : CellSet → ℕ → Place
area_id_member y j = ask_member y j Err (λ m. area_id_call m.ynd m.nodes)

abbrev pub node_member : CellSet → ℕ → ℕ → Place
node_member y j k = ask_member y j Err (λ m. node_call m.ynd m.nodes k)

-- where a walk starts that names its start by a number: 13 if no node has it
abbrev pub there : Place → Result ℕ Refusal
there (Ok (Some p)) = Ok p
there (Ok None) = Err NoSuchPlace
there (Err cause) = Err cause

abbrev pub start_in_member : CellSet → ℕ → ℕ → Result ℕ Refusal
start_in_member y j k = there (node_member y j k)

abbrev pub junction_of_member : CellSet → ℕ → ℕ → ℕ → Place
junction_of_member y j a k = ask_member y j Err (λ m. junction_of_call m.ynd m.nodes m.refs a k)

-- ---- entries, and the member's own words and counts

abbrev pub ynd_member : CellSet → ℕ → Result Ynd Refusal
ynd_member y j = ask_member y j Err (λ m. Ok m.ynd)

abbrev pub get_node_member : CellSet → ℕ → ℕ → Result PathNode Refusal
get_node_member y j p = ask_member y j Err (λ m. got_as entry_as_node no_entry (node_entry m.ynd m.nodes p) m.nodes)

abbrev pub get_link_member : CellSet → ℕ → ℕ → ℕ → Result PathLink Refusal
get_link_member y j p k =
    ask_member y j Err (λ m. got no_link (link_entry m.ynd m.nodes (length m.links) p k) m.links)

abbrev pub get_ref_member : CellSet → ℕ → ℕ → Result NodeJunctionRef Refusal
get_ref_member y j p = ask_member y j Err (λ m. got no_ref (ref_entry m.ynd m.refs p) m.refs)

abbrev pub get_junction_member : CellSet → ℕ → ℕ → Result PathJunction Refusal
get_junction_member y j p =
    ask_member y j Err (λ m. got_as entry_as_junction no_map (junction_entry m.ynd m.junctions p) m.junctions)

abbrev pub get_height_member : CellSet → ℕ → ℕ → ℕ → Result ℕ Refusal
get_height_member y j p k =
    ask_member y j Err (λ m. got 0 (height_entry m.ynd m.junctions (length m.heights) p k)
    m.heights)

-- ---- what a walk shows

abbrev pub shown_node_member : CellSet → ℕ → ℕ → Result SeenNode Refusal
shown_node_member y j p = ask_member y j Err (λ m. shown_node m p)

abbrev pub shown_junction_member : CellSet → ℕ → ℕ → Result SeenJunction Refusal
shown_junction_member y j p = ask_member y j Err (λ m. shown_junction m p)

-- a refusal leaves the list lent as it was
abbrev pub shown_values_member : CellSet → ℕ → ℕ → List ℕ → ValuesLeft
shown_values_member y j p old =
    ask_member y j (λ cause. values_left (Err cause) old) (λ m. shown_values m p old)

abbrev pub shown_link_member : CellSet → ℕ → ℕ → ℕ → Result (Option SeenLink) Refusal
shown_link_member y j p b = ask_member y j Err (λ m. shown_link m p b)
