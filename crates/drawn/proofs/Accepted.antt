-- What holds after a call, by its answer; and the entry that an accepted store names.
-- Assumes nothing.
use Prim.Native.Nat.{ℕ, ◌≤◌, ◌<◌}
use native.Mathlib.Omega.{arith}
use mathlib.Core.Path.{◌≡◌, refl, sym}
use mathlib.Core.Bool.{Bool, false, not, ◌&&◌}
use mathlib.Core.List.{List}
use lib.Dec.{eqb, ltb, leb}
use lib.ListN.{get_or, set}
use borrow.Author.Tests.{ltb-false, leb-false, eqb-true}
use Rattle.std.specs.Prelude.{Result, Ok, Err}
use Rattle.numbers.specs.Refusals.{Answer}
use Rattle.numbers.specs.declared.refusal.Refusal.{Refusal}
use Rattle.numbers.specs.declared.refusal.Lent.{Lent}
use Rattle.numbers.proofs.Refusing.{not_refused}
use Rattle.cells.specs.Memory.{Memory, unless}
use Rattle.cells.specs.Edit.{entry_at, sized_entry, change_at}
use Rattle.cells.specs.Add.{done}
use Rattle.cells.proofs.Sequences.Tests.{by_test, true_false}
use Rattle.cells.proofs.Editing.EditLaws.{lent_false}

pub by_answer : (P : Memory → Type 0) (a : Answer) (m next : Memory) → P m → (a ≡ (Ok tt) → P next)
    → P (unless a m (done next)).memory
by_answer P a m next h k = go a k
  where
    go : (a : Answer) → (a ≡ (Ok tt) → P next) → P (unless a m (done next)).memory
    go (Ok tt) k = k refl
    go (Err cause) k = h

-- a refused call leaves the memory as it was
pub refused_memory : (a : Answer) (m next : Memory) (cause : Refusal) → (unless a m (done next)).answer ≡ Err cause
    → (unless a m (done next)).memory ≡ m
refused_memory a m next cause e = go a e
  where
    go : (a : Answer) → (unless a m (done next)).answer ≡ Err cause → (unless a m (done next)).memory ≡ m
    go (Ok tt) e = not_refused (sym e)
    go (Err r) e = refl

pub by_entry : {A : Type 0} (P : List A → Type 0) (e : Result ℕ Refusal) (f : A → A) (d : A) (l : List A) → P l
    → ((i : ℕ) → e ≡ Ok i → P (set l i (f (get_or l i d)))) → P (change_at e f d l).list
by_entry P (Ok i) f d l h k = k i refl
by_entry P (Err cause) f d l h k = h

pub entry_told : (over : Bool) (n len : ℕ) (list : Lent) (p i : ℕ) → entry_at over n len list p ≡ Ok i
    → (i ≡ p) × (i < n) × (n ≤ len)
unfolding entry_at
entry_told over n len list p i e =
    by_test (leb n p) (λ t. not_refused (rw t at e)) (λ f₀.
    by_test over (λ t. not_refused (rw (f₀, t) at e)) (λ o.
    by_test (ltb len n) (λ t. not_refused (rw (f₀, o, t) at e)) (λ f₁.
    let q : p ≡ i = (let d = rw (f₀, o, f₁) at e in cc) in
    (sym q, omega (arith, leb-false n p f₀), ltb-false len n f₁))))

pub sized_told : (over : Bool) (n len p values held i : ℕ) → sized_entry over n len p values held ≡ Ok i
    → (i ≡ p) × (i < n) × (n ≤ len) × (values ≡ held)
unfolding sized_entry
sized_told over n len p values held i e =
    by_test (leb n p) (λ t. not_refused (rw t at e)) (λ f₀.
    by_test over (λ t. not_refused (rw (f₀, t) at e)) (λ o.
    by_test (ltb p len && not (eqb values held)) (λ t. not_refused (rw (f₀, o, t) at e)) (λ f.
    by_test (ltb len n) (λ t. not_refused (rw (f₀, o, f, t) at e)) (λ f₁.
    let q : p ≡ i = (let d = rw (f₀, o, f, f₁) at e in cc) in
    let lent : p < len = omega (arith, leb-false n p f₀, ltb-false len n f₁) in
    let sized : not (eqb values held) ≡ false = lent_false p len (not (eqb values held)) lent f in (
      sym q,
      omega (arith, leb-false n p f₀),
      ltb-false len n f₁,
      by_test (eqb values held) (λ t. eqb-true values held t) (λ t. true_false (rw t at sized)),
    )))))
