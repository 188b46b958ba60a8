-- T-02: a system section of no bytes is the cell of `Ynd::new`. Reading it is accepted with any memory, and leaves
-- every lent list as it was.
use Prim.Native.Nat.{ℕ, ◌≤◌, ◌<◌}
use native.Mathlib.Omega.{arith}
use mathlib.Core.Path.{◌≡◌, refl}
use mathlib.Core.List.{List, [], map}
use lib.ListN.{length}
use borrow.Author.Tests.{le-ltb, lt-ltb}
use Rattle.records.specs.Put.{joined}
use Rattle.records.specs.Layout.{gap_for, total}
use Rattle.records.proofs.Laid.{section_length}
use Rattle.records.specs.Sections.{located, extent, bytes_of, array_at}
use Rattle.cells.specs.Lists.{up_to, join_to, sum_to}
use Rattle.cells.specs.NewYnd.{new_cell, new_ynd, new_root}
use Rattle.cells.specs.Checks.{sizes_check, arrays_found, scan, arrays_check}
use Rattle.cells.specs.Memory.{Memory, memory, refuse}
use Rattle.cells.specs.Read.{room_check, cell_read, filled, read_arrays, read_of}
use Rattle.cells.specs.Blocks.{laid, arrays, blocks, root_for, written}
use Rattle.cells.specs.Write.{held}
use Rattle.cells.specs.FileCell.{file_nodes, file_junctions, file_refs, cell_from, cell_by, file_cell}
use Rattle.cells.specs.declared.link.PathLink.{PathLink}
use Rattle.cells.specs.declared.junction_entry.JunctionEntry.{JunctionEntry}
use Rattle.std.specs.Prelude.{Ok}
use Rattle.numbers.specs.declared.refusal.Refusal.TheVariants.{GraphicsTooLong}
use Rattle.cells.specs.declared.node_entry.NodeEntry.{NodeEntry}
use Rattle.records.specs.declared.junction_ref.NodeJunctionRef.{NodeJunctionRef}

module _ (g : List ℕ) (m : Memory) where
  pub undrawn_read : length g ≤ 16777216
      → read_of [] g m
      ≡ record { answer = (Ok tt); memory = memory new_ynd m.nodes m.links m.junctions m.heights m.refs }
  unfolding read_of sizes_check arrays_found located new_root new_ynd read_arrays arrays_check scan room_check
      filled cell_read
      up_to join_to sum_to bytes_of extent
  undrawn_read h =
      rw (
        le-ltb 16777216 (length g) h,
        le-ltb (length m.nodes) 0 (omega arith),
        le-ltb (length m.links) 0 (omega arith),
        le-ltb (length m.junctions) 0 (omega arith),
        le-ltb (length m.heights) 0 (omega arith),
        le-ltb (length m.refs) 0 (omega arith),
      )

  -- graphics over its limit is still 2
  pub undrawn_refused : 16777216 < length g → read_of [] g m ≡ refuse GraphicsTooLong m
  unfolding read_of sizes_check
  undrawn_refused h = rw (lt-ltb 16777216 (length g) h)

-- the cell: nothing in it, and the default words
pub undrawn_cell : (g : List ℕ) → file_cell [] g
    ≡ new_cell
unfolding file_cell cell_by cell_from file_nodes file_junctions file_refs new_root new_ynd array_at located bytes_of
    extent up_to
undrawn_cell g = refl

-- written, it is the 1,152 bytes of root and pages, whatever lists are lent
pub undrawn_size : (nodes : List NodeEntry) (links : List PathLink) (junctions : List JunctionEntry)
    (heights : List ℕ) (refs : List NodeJunctionRef)
    → length (written (held (memory new_ynd nodes links junctions heights refs))) ≡ 1152
unfolding new_ynd held written arrays total gap_for joined laid
undrawn_size nodes links junctions heights refs =
    let h = held (memory new_ynd nodes links junctions heights refs) in
    section_length (root_for h (map length (blocks h))) (blocks h)
