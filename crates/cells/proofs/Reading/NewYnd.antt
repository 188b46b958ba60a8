-- A new cell holds nothing, whatever lists are lent to it.
-- Assumes nothing.
use Prim.Native.Nat.{ℕ}
use mathlib.Core.Path.{◌≡◌, refl}
use mathlib.Core.List.{List}
use Rattle.cells.specs.Memory.{memory}
use Rattle.cells.specs.CellOf.{nodes_of, junctions_of, refs_of, cell_of}
use Rattle.cells.specs.NewYnd.{new_cell, new_ynd}
use Rattle.cells.specs.declared.node_entry.NodeEntry.{NodeEntry}
use Rattle.cells.specs.declared.link.PathLink.{PathLink}
use Rattle.cells.specs.declared.junction_entry.JunctionEntry.{JunctionEntry}
use Rattle.records.specs.declared.junction_ref.NodeJunctionRef.{NodeJunctionRef}

pub new_empty :
    (nodes : List NodeEntry) (links : List PathLink) (junctions : List JunctionEntry) (heights : List ℕ)
    (refs : List NodeJunctionRef)
    → cell_of (memory new_ynd nodes links junctions heights refs)
    ≡ new_cell
unfolding new_ynd cell_of nodes_of junctions_of refs_of
new_empty nodes links junctions heights refs = refl
