-- A set in six lists: its members, and their areas.
pub use Rattle.cells.proofs.Lookups.LookupLaws.{first_found, first_none}
use Prim.Native.Nat.{ℕ, ◌<◌}
use native.Mathlib.Omega.{arith}
use native.Mathlib.Nat.{zero-add}
use mathlib.Core.Path.{◌≡◌, ap, sym, ◌∙◌}
use mathlib.Core.List.{List, []}
use mathlib.Core.Option.{some}
use lib.ListN.{length, get_or, take, drop, length-map}
use lib.Seq.{ext_get_or}
use Rattle.cells.specs.Memory.{Memory}
use Rattle.cells.specs.CellOf.{nodes_of, cell_of}
use Rattle.cells.specs.Cell.{Cell, first_of}
use Rattle.cells.specs.Nodes.{first_area}
use Rattle.cells.specs.Lookup.{first_with}
use Rattle.cells.proofs.Lookups.LookupLaws.{area_held}
use Rattle.sets.specs.Members.{areas, area_of}
use Rattle.sets.specs.MemberList.{no_memory, member_at, cells_of}
use Rattle.sets.specs.CellSet.{CellSet, word, ynd_of, words_at, parts_of, parts_in, member_with, members_of}
use Rattle.sets.specs.Leave.{start_of}
use Rattle.sets.specs.SetParts.{count_of, areas_of}
use Rattle.sets.proofs.SetLists.{length_from, from_map}
use Rattle.sets.proofs.SetMemory.{cell_at_law}
use Rattle.sets.proofs.MemberLaws.{area_at}
use Rattle.sets.proofs.PartLaws.{part_of}
use Rattle.cells.specs.declared.node_entry.NodeEntry.{NodeEntry}

-- ---- members

pub members_many : (y : CellSet) → length (members_of y) ≡ length y.members
unfolding members_of
members_many y = length_from (member_with (parts_in y)) 0 y.members

pub member_at_law : (y : CellSet) (i : ℕ) → i < length y.members → member_at (members_of y) i
    ≡ member_with (parts_in y) i (get_or y.members i [])
unfolding members_of
member_at_law y i lt =
    from_map (member_with (parts_in y)) 0 y.members i [] no_memory lt
    ∙ ap (λ (k : ℕ). member_with (parts_in y) k (get_or y.members i [])) (zero-add i)

-- two lists of members are the same where each member is
pub members_same : (ms ds : List Memory) → length ms ≡ length ds
    → ((i : ℕ) → i < length ms → member_at ms i ≡ member_at ds i) → ms ≡ ds
members_same ms ds e h = ext_get_or no_memory ms ds e h

-- ---- areas

pub areas_many : (ws : List (List ℕ)) (nodes : List NodeEntry) → length (areas_of ws nodes) ≡ length ws
unfolding areas_of
areas_many ws nodes = length_from _ 0 ws

pub area_in : (ws : List (List ℕ)) (nodes : List NodeEntry) (i : ℕ) → i < length ws
    → get_or (areas_of ws nodes) i 0 ≡ first_area (take (count_of 10 ws i)
    (get_or (parts_of (words_at 15 ws) nodes) i []))
unfolding areas_of
area_in ws nodes i lt =
    from_map (λ k w. first_area (take (word 10 w) (get_or (parts_of (words_at 15 ws) nodes) k []))) 0 ws i [] 0 lt
    ∙ ap (λ (k : ℕ). first_area (take (count_of 10 ws i) (get_or (parts_of (words_at 15 ws) nodes) k []))) (zero-add i)

-- what the code looks at: from where the part starts, or the list has ended
pub area_there : (ws : List (List ℕ)) (nodes : List NodeEntry) (i start room n : ℕ) → i < length ws
    → n ≡ count_of 10 ws i → room
    ≡ count_of 15 ws i
    → drop start nodes ≡ drop (start_of 15 ws i) nodes → first_area (take n (take room (drop start nodes)))
    ≡ get_or (areas_of ws nodes) i 0
area_there ws nodes i start room n lt en er e =
    (λ k. first_area (take (en k) (take (er k) (e k))))
    ∙ ap (λ (p : List NodeEntry). first_area (take (count_of 10 ws i) p)) (sym (part_of 15 ws nodes i lt))
    ∙ sym (area_in ws nodes i lt)

pub areas_held : (y : CellSet) → areas_of y.members y.nodes ≡ areas (cells_of (members_of y))
unfolding parts_in ynd_of cell_of
areas_held y =
    let ws = y.members in
    let many : length (areas (cells_of (members_of y))) ≡ length ws =
    length-map (cells_of (members_of y)) area_of ∙ length-map (members_of y) cell_of ∙ members_many y in
    ext_get_or 0 (areas_of ws y.nodes) (areas (cells_of (members_of y))) (areas_many ws y.nodes ∙ sym many) (λ i lt.
    let li : i < length ws = omega (arith, areas_many ws y.nodes) in
    area_in ws y.nodes i li
    ∙ sym (area_held (member_with (parts_in y) i (get_or ws i [])))
    ∙ ap (λ (m : Memory). first_of (nodes_of m)) (sym (member_at_law y i li))
    ∙ ap (λ (c : Cell). area_of c) (sym (cell_at_law (members_of y) i))
    ∙ sym (area_at (cells_of (members_of y)) i))

-- ---- the first with an area

-- the first with an area, by its own part
pub first_there : (ws : List (List ℕ)) (nodes : List NodeEntry) (area i start room n a : ℕ) (own : List NodeEntry)
    → i < length ws
    → n ≡ count_of 10 ws i → room ≡ count_of 15 ws i → drop start nodes ≡ drop (start_of 15 ws i) nodes
    → own ≡ take room (drop start nodes) → a ≡ first_area (take n own) → a ≡ area
    → ((j : ℕ) → j < i → get_or (areas_of ws nodes) j 0 ≡ area → ⊥) → first_with (areas_of ws nodes) area ≡ some i
first_there ws nodes area i start room n a own lt en er e eo ea is h =
    first_found (areas_of ws nodes) area i (omega (arith, areas_many ws nodes))
    (sym (area_there ws nodes i start room n lt en er e)
    ∙ ap (λ (p : List NodeEntry). first_area (take n p)) (sym eo) ∙ sym ea ∙ is) h

-- for the check
pub ruleset place_laws = (first_found, first_none)
