-- T-02: what a yard not drawn yet is written as, and that write-then-read keeps it. For every other section reading is
-- what it was.
use Prim.Native.Nat.{ℕ, ◌≤◌, ◌<◌}
use native.Mathlib.Omega.{arith}
use mathlib.Core.Path.{◌≡◌, refl, sym, ap, ◌∙◌, subst}
use mathlib.Core.Bool.{Bool, and-true}
use mathlib.Core.List.{List, [], ◌∷◌}
use lib.Dec.{ltb}
use lib.ListN.{length}
use borrow.Author.Tests.{le-ltb, ne_eqb}
use Rattle.numbers.specs.Refusals.{Answer, when, decided, and_then, unless as otherwise}
use Rattle.records.specs.Bytes.{number_at, number_bytes}
use Rattle.records.specs.Put.{joined}
use Rattle.records.specs.Root.{root_of, root_bytes, unknowns_of}
use Rattle.records.specs.Layout.{header_bytes, gap_for, start_of, offset, address, places_of, section_bytes}
use Rattle.records.specs.Sections.{bytes_of}
use Rattle.cells.specs.NewYnd.{new_ynd, new_root}
use Rattle.cells.specs.Checks.{too_few, sizes_check, arrays_found, arrays_check, count_of}
use Rattle.cells.specs.Memory.{Memory, memory, Left, unless, over_limit, short_of}
use Rattle.cells.specs.Read.{if_found, read_arrays, read_of}
use Rattle.cells.specs.CellOf.{cell_of}
use Rattle.cells.specs.FileCell.{file_cell}
use Rattle.cells.specs.Entries.{links_in}
use Rattle.cells.specs.WriteChecks.{maps_cut, check_nodes, check_junctions}
use Rattle.cells.specs.Blocks.{laid, arrays, root_for, written}
use Rattle.cells.specs.Write.{WriteLeft, held, stored, write_held, write_call}
use Rattle.cells.specs.WriteRead.{write_read_of}
use Rattle.cells.proofs.Reading.FileRead.{read_cell}
use Rattle.cells.proofs.Reading.UndrawnCell.{undrawn_read, undrawn_size}
use Rattle.cells.proofs.WritingBack.KeptCells.{Kept}
use Rattle.cells.proofs.WritingBack.Kept.{read_kept}
use Rattle.cells.proofs.WritingBack.WrittenBack.{write_read_same}
use Rattle.cells.proofs.Worked.WritePairs.{wrote}
use Rattle.std.specs.Prelude.{Result, Ok}
use Rattle.numbers.specs.declared.refusal.Refusal.{Refusal}
use Rattle.numbers.specs.declared.refusal.Refusal.TheVariants.{SystemTooShort, SystemTooLong, GraphicsTooLong}
use Rattle.cells.specs.declared.counts.Counts.{Counts}
use Rattle.cells.specs.declared.node_entry.NodeEntry.{NodeEntry}
use Rattle.cells.specs.declared.link.PathLink.{PathLink}
use Rattle.cells.specs.declared.junction_entry.JunctionEntry.{JunctionEntry}
use Rattle.records.specs.declared.junction_ref.NodeJunctionRef.{NodeJunctionRef}

-- ---- a section that holds something

-- 2 and 1, then what follows, as they stood before T-02: 1 is fewer than 112 bytes
abbrev sizes_before : ℕ → ℕ → Bool → Answer
sizes_before s g few = decided (when (ltb 16777216 s) SystemTooLong ∷ when (ltb 16777216 g) GraphicsTooLong
    ∷ when few SystemTooShort ∷ [])

abbrev read_with : Bool → List ℕ → List ℕ → Memory → Left
read_with few s g m =
    unless (sizes_before (length s) (length g) few) m
    (if_found (arrays_found (root_of s) (length s) (length g)) m λ n l j h r.
    read_arrays (root_of s) (bytes_of n s g) (bytes_of l s g) (bytes_of j s g) (bytes_of h s g) (bytes_of r s g) m)

abbrev count_with : Bool → List ℕ → List ℕ → Result Counts Refusal
count_with few s g =
    otherwise (sizes_before (length s) (length g) few)
    (and_then (arrays_found (root_of s) (length s) (length g)) λ a.
    arrays_check (bytes_of a.nodes s g) (bytes_of a.links s g) (bytes_of a.junctions s g) (bytes_of a.heights s g)
    (bytes_of a.refs s g))

few_drawn : (s : List ℕ) → 0 < length s → too_few (length s) ≡ ltb (length s) 112
few_drawn s h = rw (ne_eqb (length s) 0 (λ e. absurd (omega (arith, e)))) (and-true (ltb (length s) 112))

pub read_drawn : (s g : List ℕ) (m : Memory) → 0 < length s
    → read_of s g m ≡ read_with (ltb (length s) 112) s g m
unfolding read_of sizes_check
read_drawn [] g m h = absurd (omega arith)
read_drawn (b ∷ bs) g m h = ap (λ (t : Bool). read_with t (b ∷ bs) g m) (few_drawn (b ∷ bs) h)

pub count_drawn : (s g : List ℕ) → 0 < length s → count_of s g ≡ count_with (ltb (length s) 112) s g
unfolding count_of sizes_check
count_drawn [] g h = absurd (omega arith)
count_drawn (b ∷ bs) g h = ap (λ (t : Bool). count_with t (b ∷ bs) g) (few_drawn (b ∷ bs) h)

-- ---- a yard not drawn yet, written

module _ (nodes : List NodeEntry) (links : List PathLink) (junctions : List JunctionEntry) (heights : List ℕ)
    (refs : List NodeJunctionRef) where
  abbrev undrawn : Memory
  undrawn = memory new_ynd nodes links junctions heights refs

  -- its root: the default words, and no array
  pub undrawn_root : root_of (written (held undrawn)) ≡ new_root
  unfolding new_ynd new_root held written section_bytes header_bytes root_bytes root_for places_of offset address
      start_of
      gap_for arrays joined laid number_at number_bytes root_of unknowns_of
  undrawn_root = refl

  undrawn_goes_on : (s : List ℕ) → write_call undrawn s ≡ stored (held undrawn) s
  unfolding new_ynd write_call held over_limit write_held maps_cut short_of check_nodes check_junctions links_in
  undrawn_goes_on s =
      rw (
        le-ltb (length nodes) 0 (omega arith),
        le-ltb (length links) 0 (omega arith),
        le-ltb (length junctions) 0 (omega arith),
        le-ltb (length heights) 0 (omega arith),
        le-ltb (length refs) 0 (omega arith),
      )

  -- the call: 1,152 bytes, wherever there is room
  pub undrawn_wrote : (s : List ℕ) → 1152 ≤ length s → (write_call undrawn s).answer ≡ Ok 1152
  undrawn_wrote s room =
      ap (λ (w : WriteLeft). w.answer) (undrawn_goes_on s)
      ∙ wrote (held undrawn) s 1152 (undrawn_size nodes links junctions heights refs) room

-- write-then-read, in any section, keeps it
pub undrawn_kept : (g : List ℕ) (m : Memory) (s : List ℕ) → length g ≤ 16777216
    → cell_of (write_read_of (read_of [] g m).memory s).memory ≡ file_cell [] g
undrawn_kept g m s h =
    let e : cell_of (read_of [] g m).memory ≡ file_cell [] g =
    read_cell [] g m (ap (λ (l : Left). l.answer) (undrawn_read g m h)) in
    write_read_same (read_of [] g m).memory s (subst Kept (sym e) (read_kept [] g)) ∙ e
