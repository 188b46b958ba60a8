-- A refused reading leaves the memory as it was.
-- Assumes nothing.
use Prim.Native.Nat.{ℕ}
use mathlib.Core.Path.{◌≡◌, refl, sym}
use mathlib.Core.List.{List}
use lib.ListN.{length}
use Rattle.std.specs.Prelude.{Result, Ok, Err}
use Rattle.numbers.specs.Refusals.{Answer}
use Rattle.numbers.specs.declared.refusal.Refusal.{Refusal}
use Rattle.cells.specs.declared.arrays.Arrays.{Arrays}
use Rattle.records.specs.Sections.{bytes_of}
use Rattle.records.specs.declared.root.Root.{Root}
use Rattle.records.specs.declared.section.Part.{Part}
use Rattle.cells.specs.declared.counts.Counts.{Counts}
use Rattle.cells.specs.Checks.{root_read, sizes_check, arrays_found, arrays_check}
use Rattle.cells.specs.Memory.{Memory, Left, unless}
use Rattle.cells.specs.Read.{room_check, filled, if_held, if_found, read_arrays, read_of}
use Rattle.numbers.proofs.Refusing.{not_refused}

abbrev Leaves : Memory → Left → Type 0
Leaves m x = (cause : Refusal) → x.answer ≡ Err cause → x.memory ≡ m

unless_leaves : (m : Memory) (a : Answer) (next : Left) → Leaves m next → Leaves m (unless a m next)
unless_leaves m (Ok tt) next h = h
unless_leaves m (Err c) next h = λ cause e. refl

held_leaves : (m : Memory) (c : Result Counts Refusal) (next : Counts → Left) → ((k : Counts) → Leaves m (next k))
    → Leaves m (if_held c m next)
held_leaves m (Err c) next h = λ cause e. refl
held_leaves m (Ok k) next h = h k

found_leaves : (m : Memory) (f : Result Arrays Refusal) (next : Part → Part → Part → Part → Part → Left)
    → ((n l j h r : Part) → Leaves m (next n l j h r)) → Leaves m (if_found f m next)
found_leaves m (Err c) next h = λ cause e. refl
found_leaves m (Ok p) next h = h p.nodes p.links p.junctions p.heights p.refs

done_leaves : (m after : Memory) → Leaves m (record { answer = (Ok tt); memory = after })
done_leaves m after cause e = not_refused (sym e)

arrays_leaves : (root : Root) (n l j h r : List ℕ) (m : Memory) → Leaves m (read_arrays root n l j h r m)
unfolding read_arrays
arrays_leaves root n l j h r m =
    let next : Counts → Left = λ k. unless
    (room_check k (length m.nodes) (length m.links) (length m.junctions) (length m.heights) (length m.refs)) m
    (record { answer = (Ok tt); memory = filled root k n l j h r m }) in
    held_leaves m (arrays_check n l j h r) next
    (λ k. unless_leaves m (room_check k (length m.nodes) (length m.links) (length m.junctions) (length m.heights)
    (length m.refs)) (record { answer = (Ok tt); memory = filled root k n l j h r m })
    (done_leaves m (filled root k n l j h r m)))

pub read_refused : (s g : List ℕ) (m : Memory) → Leaves m (read_of s g m)
unfolding read_of
read_refused s g m =
    let next : Part → Part → Part → Part → Part → Left = λ n l j h r. read_arrays (root_read s) (bytes_of n s g)
    (bytes_of l s g) (bytes_of j s g) (bytes_of h s g) (bytes_of r s g) m in
    unless_leaves m (sizes_check (length s) (length g))
    (if_found (arrays_found (root_read s) (length s) (length g)) m next)
    (found_leaves m (arrays_found (root_read s) (length s) (length g)) next
    (λ n l j h r. arrays_leaves (root_read s) (bytes_of n s g) (bytes_of l s g) (bytes_of j s g) (bytes_of h s g)
    (bytes_of r s g) m))
