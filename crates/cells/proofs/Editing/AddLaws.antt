-- What a call that adds an entry leaves, by its answer, and the room that an accepted one has.
use Prim.Native.Nat.{ℕ, ◌+◌, ◌<◌}
use mathlib.Core.Path.{◌≡◌, refl}
use mathlib.Core.Bool.{Bool}
use lib.Dec.{eqb, ltb, leb}
use borrow.Author.Tests.{leb-false, ltb-false, eqb-true}
use Rattle.cells.specs.Memory.{Memory, unless}
use Rattle.cells.specs.Add.{done, room_for, room_for_junction, JunctionRoom}
use Rattle.cells.proofs.Sequences.Tests.{by_test}
use Rattle.std.specs.Prelude.{Ok, Err}
use Rattle.numbers.specs.declared.refusal.Lent.{Lent}
use Rattle.numbers.proofs.Refusing.{not_refused}
use Rattle.numbers.specs.Refusals.{Answer}

-- an accepted call leaves what it makes, a refused one what was there
module _ (a : Answer) (m next : Memory) where
  pub done_memory : (unless a m (done next)).answer ≡ (Ok tt) → (a ≡ (Ok tt))
      × ((unless a m (done next)).memory ≡ next)
  done_memory e = go a e
    where
      go : (a : Answer) → (unless a m (done next)).answer ≡ (Ok tt) → (a ≡ (Ok tt))
          × ((unless a m (done next)).memory ≡ next)
      go (Ok tt) e = (refl, refl)
      go (Err cause) e = not_refused e

pub room_inside : (over : Bool) (limit n len : ℕ) (list : Lent) → room_for over limit n len list ≡ (Ok tt)
    → (n < limit) × (n < len)
unfolding room_for
room_inside over limit n len list e =
    by_test over (λ t. not_refused (rw t at e)) (λ o.
    by_test (leb limit n) (λ t. not_refused (rw (o, t) at e)) (λ f₀.
    by_test (leb len n) (λ t. not_refused (rw (o, f₀, t) at e)) (λ f₁.
    (leb-false limit n f₀, leb-false len n f₁))))

pub junction_room : (over : Bool) (n h size v junctions heights : ℕ)
    → room_for_junction over n h size v junctions heights ≡ (Ok tt)
    → JunctionRoom n h size v junctions heights
unfolding room_for_junction
junction_room over n h size v junctions heights e =
    by_test over (λ t. not_refused (rw t at e)) (λ o.
    by_test (leb 4096 n) (λ t. not_refused (rw (o, t) at e)) (λ f₀.
    by_test (ltb 4294967295 (h + v)) (λ t. not_refused (rw (o, f₀, t) at e)) (λ f₁.
    by_test (eqb v size) (λ q.
    by_test (leb junctions n) (λ t. not_refused (rw (o, f₀, f₁, q, t) at e)) (λ f₂.
    by_test (ltb heights (h + v)) (λ t. not_refused (rw (o, f₀, f₁, q, f₂, t) at e)) (λ f₃.
    record {
      few = leb-false _ _ f₀;
      values_few = ltb-false _ _ f₁;
      sized = eqb-true v size q;
      junctions_fit =
          leb-false _ _ f₂;
      heights_fit = ltb-false _ _ f₃;
    })))
    (λ f. not_refused (rw (o, f₀, f₁, f) at e)))))
