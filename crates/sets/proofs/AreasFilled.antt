-- The members' areas stored in a list, and the first that is one.
use Rattle.std.proofs.lemmas.List.{take-take}
use Prim.Native.Nat.{ℕ, ◌-◌, ◌≤◌, ◌<◌}
use native.Mathlib.Omega.{arith}
use mathlib.Core.Path.{◌≡◌, ap, sym, ◌∙◌}
use mathlib.Core.List.{List}
use lib.ListN.{length, get_or, take, drop}
use lib.Seq.{length-take-le, get_or-take, ext_get_or}
use Rattle.cells.specs.Nodes.{first_area}
use Rattle.sets.specs.Leave.{start_of}
use Rattle.sets.specs.SetParts.{count_of, Holding, areas_of}
use Rattle.sets.proofs.PartLaws.{part_of, rest}
use Rattle.sets.proofs.CellSetLaws.{areas_many, area_in}
use Rattle.cells.specs.declared.node_entry.NodeEntry.{NodeEntry}

-- the area that is looked at, from the part's start on, is the member's
pub area_seen : (ws : List (List ℕ)) (nodes : List NodeEntry) (i start n : ℕ) → i < length ws
    → Holding 10 15 ws (length nodes)
    → start ≡ start_of 15 ws i → n ≡ count_of 10 ws i
    → first_area (take n (take (length nodes - start) (drop start nodes))) ≡ get_or (areas_of ws nodes) i 0
area_seen ws nodes i start n lt h es en =
    ap (λ (l : List NodeEntry). first_area (take n l)) (rest nodes start)
    ∙ (λ k. first_area (take (en k) (drop (es k) nodes)))
    ∙ ap first_area (sym (take-take (count_of 10 ws i) (count_of 15 ws i) (drop (start_of 15 ws i) nodes)
    (h.held i lt)))
    ∙ ap (λ (p : List NodeEntry). first_area (take (count_of 10 ws i) p)) (sym (part_of 15 ws nodes i lt))
    ∙ sym (area_in ws nodes i lt)

pub areas_stored : (ws : List (List ℕ)) (nodes : List NodeEntry) (areas : List ℕ) → length ws ≤ length areas
    → ((j : ℕ) → j < length ws → get_or areas j 0 ≡ get_or (areas_of ws nodes) j 0) → take (length ws) areas
    ≡ areas_of ws nodes
areas_stored ws nodes areas fits h =
    let long : length (take (length ws) areas) ≡ length ws = length-take-le (length ws) areas fits in
    ext_get_or 0 (take (length ws) areas) (areas_of ws nodes) (long ∙ sym (areas_many ws nodes)) (λ i lt.
    let li : i < length ws = omega (arith, long) in
    get_or-take (length ws) areas i 0 li ∙ h i li)
