-- Lists of made cells. Assumes nothing.
use Prim.Native.Nat.{ℕ, suc, ◌+◌, ◌<◌}
use native.Mathlib.Omega.{arith}
use mathlib.Core.Path.{◌≡◌}
use mathlib.Core.List.{List, [], ◌∷◌, ◌++◌}
use lib.Dec.{eqb, ltb}
use lib.ListN.{length, set, length-set, length-append, get_or-append}
use lib.Seq.{get_or-set_same, get_or-set_other, get_or-append_seam}
use borrow.Author.Tests.{eqb-true, eqb-false, ltb-true, ltb-false}
use Rattle.cells.specs.Memory.{Memory}
use Rattle.cells.proofs.Sequences.Tests.{by_test}
use Rattle.sets.specs.Members.{map_from}
use Rattle.sets.specs.MemberList.{no_memory, member_at}
use Rattle.sets.specs.Leave.{removed}
use Rattle.sets.proofs.SetLists.{length_from, from_map}
use Rattle.sets.proofs.MembersLeft.{removed_below, removed_above, removed_length}
use Rattle.drawn.specs.Made.{Made}
use Rattle.drawnsets.specs.AllMade.{MadeList}

pub set_list : (ms : List Memory) (j : ℕ) (d : Memory) → MadeList ms → Made d → MadeList (set ms j d)
set_list ms j d h k i lt =
    let inside : i < length ms = omega (arith, length-set ms j d) in
    by_test (eqb i j)
    (λ t. let e = eqb-true i j t in rw e (rw (get_or-set_same ms j d no_memory (omega arith)) k))
    (λ f. rw (get_or-set_other ms j i d no_memory (eqb-false i j f)) (h i inside))

pub more_list : (ms : List Memory) (d : Memory) → MadeList ms → Made d → MadeList (ms ++ (d ∷ []))
more_list ms d h k i lt =
    let long = length-append ms (d ∷ []) in
    by_test (ltb i (length ms))
    (λ t. let inside = ltb-true i (length ms) t in rw (get_or-append ms (d ∷ []) no_memory i inside) (h i inside))
    (λ f. let e : i ≡ length ms = omega (arith, long, ltb-false i (length ms) f) in
    rw e (rw (get_or-append_seam ms d [] no_memory) k))

pub less_list : (ms : List Memory) (j : ℕ) → j < length ms → MadeList ms → MadeList (removed j ms)
less_list ms j there h i lt =
    let long = removed_length ms j there in
    by_test (ltb i j)
    (λ t. let b = ltb-true i j t in rw (removed_below ms j i no_memory b) (h i (omega arith)))
    (λ f. let b = ltb-false i j f in rw (removed_above ms j i no_memory b) (h (suc i) (omega arith)))

pub from_list : (f : ℕ → Memory → Memory) (ms : List Memory)
    → ((i : ℕ) → i < length ms → Made (f i (member_at ms i))) → MadeList (map_from f 0 ms)
from_list f ms h i lt =
    let inside : i < length ms = omega (arith, length_from f 0 ms) in
    let z : 0 + i ≡ i = omega arith in
    rw (from_map f 0 ms i no_memory no_memory inside, z) (h i inside)
