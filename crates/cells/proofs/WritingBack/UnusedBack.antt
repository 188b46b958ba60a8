-- T-10: a node's five unused fields are read, moved with it by renumbering, stored and read back as they were.
use Prim.Native.Nat.{ℕ, ◌*◌, ◌/◌, ◌<◌}
use mathlib.Core.Path.{◌≡◌, sym, ap, ◌∙◌, subst}
use mathlib.Core.List.{List, [], map}
use lib.ListN.{length, get_or, take}
use Rattle.records.specs.Sections.{array_at}
use Rattle.records.specs.Records.{node_at}
use Rattle.cells.specs.Checks.{root_read}
use Rattle.cells.specs.Memory.{Memory}
use Rattle.cells.specs.Read.{read_of}
use Rattle.cells.specs.Paths.{path_node}
use Rattle.cells.specs.Cell.{Cell}
use Rattle.cells.specs.Cell as held-cell
use Rattle.cells.specs.CellOf.{cell_of, nodes_of, junctions_of, refs_of}
use Rattle.cells.specs.FileCell.{file_node_of, file_nodes, cell_from, cell_by, file_cell}
use Rattle.cells.specs.Renumber.{renumber}
use Rattle.cells.specs.Unused.{unused_of, unused_in}
use Rattle.cells.specs.Write.{held, write_call}
use Rattle.cells.proofs.Reading.FileRead.{map_up_to, read_cell}
use Rattle.cells.proofs.Renumbering.NewCell.{new_node_law}
use Rattle.cells.proofs.Renumbering.CellRenumbered.{done_call, places_tell}
use Rattle.cells.proofs.WritingBack.KeptCells.{Kept}
use Rattle.cells.proofs.WritingBack.Kept.{read_kept}
use Rattle.cells.proofs.WritingBack.WrittenBack.{section_back, whole_held, write_told, kept_sized}
use Rattle.cells.proofs.WritingBack.WrittenFew.{written_few}
use Rattle.std.specs.Prelude.{Ok}

-- those of the cell that two sections hold are those of its records
file_unused_law : (s g : List ℕ) → map unused_of (file_cell s g).nodes ≡ unused_in s g
unfolding file_cell cell_by cell_from file_nodes path_node unused_in
file_unused_law s g =
    let r = root_read s in
    let n = array_at r.nodes r.node_count 40 s g in
    let l = array_at r.links r.link_count 8 s g in
    map_up_to unused_of (λ i. file_node_of l (node_at n (i * 40))) (length n / 40)

-- an accepted reading keeps them, node by node
pub unused_read : (s g : List ℕ) (m : Memory) → (read_of s g m).answer ≡ Ok tt
    → map unused_of (cell_of (read_of s g m).memory).nodes ≡ unused_in s g
unused_read s g m e = ap (λ (c : Cell). map unused_of c.nodes) (read_cell s g m e) ∙ file_unused_law s g

-- an accepted renumbering moves them with their node, to the place that it tells
pub unused_moved : (m : Memory) (places : List ℕ) (scratch : ℕ) → (renumber m scratch places).answer ≡ Ok tt
    → (p : ℕ) → p < length (cell_of m).nodes
    → unused_of (held-cell.node_at (cell_of (renumber m scratch places).memory).nodes
    (get_or (renumber m scratch places).places p 0))
    ≡ unused_of (held-cell.node_at (cell_of m).nodes p)
unused_moved m places scratch e p lt =
    (λ i. unused_of (held-cell.node_at (done_call m places scratch e i).nodes (places_tell m places scratch e p lt i)))
    ∙ ap unused_of (new_node_law (cell_of m) p lt)

-- an accepted writing of a cell as read stores that very cell
pub cell_stored : (s g : List ℕ) (m : Memory) → (read_of s g m).answer ≡ Ok tt
    → (section : List ℕ) (n : ℕ) → (write_call (read_of s g m).memory section).answer ≡ Ok n
    → file_cell (take n (write_call (read_of s g m).memory section).section) [] ≡ file_cell s g
unfolding cell_of held nodes_of junctions_of refs_of
cell_stored s g m e section n w =
    let h = held (read_of s g m).memory in
    let wrote = write_told (read_of s g m).memory (kept_sized (read_of s g m).memory (subst Kept (sym
    (read_cell s g m e))
    (read_kept s g))) section n w in
    let same = read_cell s g m e in
    let fit : Kept (cell_of (read_of s g m).memory) = subst Kept (sym same) (read_kept s g) in
    ap (λ (x : List ℕ). file_cell x []) wrote.bytes
    ∙ section_back h wrote.told (written_few h wrote.told) fit
    ∙ whole_held (read_of s g m).memory
    ∙ same

-- reading, then writing, stores them as they were, bit for bit
pub unused_stored : (s g : List ℕ) (m : Memory) → (read_of s g m).answer ≡ Ok tt
    → (section : List ℕ) (n : ℕ) → (write_call (read_of s g m).memory section).answer ≡ Ok n
    → unused_in (take n (write_call (read_of s g m).memory section).section) [] ≡ unused_in s g
unused_stored s g m e section n w =
    let t = take n (write_call (read_of s g m).memory section).section in
    sym (file_unused_law t []) ∙ ap (λ (c : Cell). map unused_of c.nodes) (cell_stored s g m e section n w)
    ∙ file_unused_law s g

-- and reading what was written, into any memory, gives them back
pub unused_back : (s g : List ℕ) (m : Memory) → (read_of s g m).answer ≡ Ok tt
    → (section : List ℕ) (n : ℕ) → (write_call (read_of s g m).memory section).answer ≡ Ok n
    → (lent : Memory) → (read_of (take n (write_call (read_of s g m).memory section).section) [] lent).answer ≡ Ok tt
    → map unused_of (cell_of (read_of (take n (write_call (read_of s g m).memory section).section) []
    lent).memory).nodes
    ≡ unused_in s g
unused_back s g m e section n w lent r =
    unused_read (take n (write_call (read_of s g m).memory section).section) [] lent r
    ∙ unused_stored s g m e section n w
