-- Correcting the links in memory corrects the links of the cell that it holds.
use Rattle.std.proofs.lemmas.List.{map-set, take-map, drop-map}
use Prim.Native.Nat.{ℕ, ◌<◌}
use mathlib.Core.Path.{◌≡◌, refl, ap, sym, ◌∙◌}
use mathlib.Core.List.{List, [], ◌∷◌, map}
use lib.ListN.{length, get_or, set, take, drop, get_or-map}
use lib.Seq.{map-set_same}
use borrow.Author.Tests.{leb-false}
use Rattle.numbers.specs.Refusals.{decided}
use Rattle.numbers.proofs.Refusing.{passed}
use Rattle.cells.specs.Memory.{Memory}
use Rattle.cells.specs.Cell.{Cell, renumber_cell}
use Rattle.cells.specs.CellOf.{node_with, nodes_of, junctions_of, refs_of, cell_of}
use Rattle.cells.specs.Renumber.{over, renumber}
use Rattle.cells.proofs.Renumbering.CellRenumbered.{done_call}
use Rattle.sets.specs.Members.{no_cell, cell_at, map_from}
use Rattle.sets.specs.MemberList.{no_memory, member_at, cells_of, member_causes}
use Rattle.sets.specs.SetRenumber.{Change, correct_link, correct_node, correct_cell, change_of}
use Rattle.sets.specs.SetRenumber.{renumber_cells, correct_memory, members_after}
use Rattle.sets.proofs.SetLists.{front_over, map_from_law}
use Rattle.std.specs.Prelude.{Ok}
use Rattle.cells.specs.declared.link.PathLink.{PathLink}
use Rattle.cells.specs.declared.node_entry.NodeEntry.{NodeEntry}

module _ (x : Change) (i : ℕ) where
  node_new : (ls : List PathLink) (w : NodeEntry) → node_with (map (correct_link x i) ls) w
      ≡ correct_node x i (node_with ls w)
  node_new ls w = ap (λ (l : List PathLink). record
      { area = (node_with ls w).area; number = (node_with ls w).number; links = l; body = (node_with ls w).body })
      (ap (take w.link_count) (drop-map (correct_link x i) w.link_id ls)
      ∙ take-map (correct_link x i) w.link_count (drop w.link_id ls))

  nodes_new : (ls : List PathLink) (ws : List NodeEntry) → map (node_with (map (correct_link x i) ls)) ws
      ≡ map (correct_node x i) (map (node_with ls) ws)
  nodes_new ls [] = refl
  nodes_new ls (w ∷ ws) = λ k. node_new ls w k ∷ nodes_new ls ws k

  pub correct_memory_law : (m : Memory) → cell_of (correct_memory x i m) ≡ correct_cell x i (cell_of m)
  unfolding cell_of nodes_of junctions_of refs_of correct_memory
  correct_memory_law m =
      let n = m.ynd.node_count in
      let l = m.ynd.link_count in
      let f : map (node_with (take l (over (map (correct_link x i)) l m.links))) (take n m.nodes)
      ≡ map (correct_node x i) (map (node_with (take l m.links)) (take n m.nodes)) =
      ap (λ (ls : List PathLink). map (node_with ls) (take n m.nodes)) (front_over (correct_link x i) l m.links)
      ∙ nodes_new (take l m.links) (take n m.nodes) in
      λ k. record {
        nodes = f k;
        junctions = junctions_of m;
        refs = refs_of m;
        vehicles = m.ynd.vehicle_node_count;
        peds = m.ynd.ped_node_count;
        vft = m.ynd.vft;
        words = m.ynd.unknowns;
      }

-- a call that passed 13 is on a member
pub member_there : (ms : List Memory) (j : ℕ) → decided (member_causes ms j) ≡ (Ok tt) → j < length ms
unfolding member_causes
member_there ms j e = leb-false (length ms) j (passed (member_causes ms j) 0 e)

no_cell_law : cell_of no_memory ≡ no_cell
unfolding cell_of nodes_of junctions_of refs_of no_memory
no_cell_law = refl

pub cell_at_law : (ms : List Memory) (i : ℕ) → cell_at (cells_of ms) i ≡ cell_of (member_at ms i)
cell_at_law ms i = ap (λ (c : Cell). get_or (cells_of ms) i c) (sym no_cell_law) ∙ get_or-map cell_of ms i no_memory

-- a member's memory that holds the same cell
pub cells_stay : (ms : List Memory) (j : ℕ) (m : Memory) → cell_of m ≡ cell_of (member_at ms j)
    → cells_of (set ms j m) ≡ cells_of ms
cells_stay ms j m e = map-set_same cell_of ms j m no_memory e

-- an accepted renumbering
pub cells_renumbered : (ms : List Memory) (j s : ℕ) (ps : List ℕ) → (renumber (member_at ms j) s ps).answer ≡ (Ok tt)
    → cells_of (members_after (Ok tt) ms j (renumber (member_at ms j) s ps).memory) ≡ renumber_cells (cells_of ms) j
unfolding renumber_cells
cells_renumbered ms j s ps e =
    let x = change_of (cells_of ms) j in
    map-set cell_of (map_from (correct_memory x) 0 ms) j (renumber (member_at ms j) s ps).memory
    ∙ (λ i. set (map_from_law cell_of (correct_memory x) (correct_cell x) (correct_memory_law x) 0 ms i) j
    ((done_call (member_at ms j) ps s e ∙ ap renumber_cell (sym (cell_at_law ms j))) i))
