-- What is known of an entry that a place names, and of how many entries of a range are held.
use Prim.Native.Nat.{ℕ, ◌-◌, ◌<◌, ◌≤◌}
use native.Mathlib.Omega.{arith}
use mathlib.Core.Path.{◌≡◌, sym}
use mathlib.Core.Bool.{Bool, false, ◌&&◌}
use mathlib.Core.List.{List}
use lib.Dec.{ltb, leb}
use lib.ListN.{length}
use borrow.Author.Tests.{lt-ltb, leb-false, ltb-false}
use Rattle.cells.specs.declared.range.Range.{Range}
use Rattle.cells.specs.Edit.{held_in, junction_entry, entry_at}
use Rattle.cells.specs.Memory.{over_limit}
use Rattle.cells.specs.declared.ynd.Ynd.{Ynd}
use Rattle.std.specs.Prelude.{Result, Ok}
use Rattle.numbers.specs.declared.refusal.Refusal.{Refusal}
use Rattle.numbers.proofs.Refusing.{not_refused}
use Rattle.cells.proofs.Sequences.Tests.{by_test}
use Rattle.cells.specs.declared.junction_entry.JunctionEntry.{JunctionEntry}

-- a test of a lent place that does not fit
pub lent_false : (p len : ℕ) (b : Bool) → p < len → ltb p len && b ≡ false → b ≡ false
lent_false p len b h e = rw (lt-ltb p len h) at e

-- never more than are there, or than the range says
pub held_bound : (r : Range) (l : ℕ) → (held_in r l ≤ l - r.start) × (held_in r l ≤ r.count)
unfolding held_in
held_bound r l = (omega arith, omega arith)

-- the junction that a place names
pub entry_held : (y : Ynd) (junctions : List JunctionEntry) (p i : ℕ) → Ok i ≡ junction_entry y junctions p
    → (i < y.junction_count) × (i < length junctions)
unfolding junction_entry entry_at
entry_held y junctions p i e =
    by_test (leb y.junction_count p) (λ t. not_refused (sym (rw t at e))) (λ f₀.
    by_test (over_limit y) (λ t. not_refused (sym (rw (f₀, t) at e))) (λ o.
    by_test (ltb (length junctions) y.junction_count) (λ t. not_refused (sym (rw (f₀, o, t) at e))) (λ f₁.
    let q : ◌≡◌ {A = Result ℕ Refusal} (Ok i) (Ok p) = rw (f₀, o, f₁) at e in
    let same : i ≡ p = cc in (
      omega (arith, leb-false y.junction_count p f₀),
      omega (
        arith,
        leb-false y.junction_count p f₀,
        ltb-false (length junctions) y.junction_count f₁,
      ),
    ))))
