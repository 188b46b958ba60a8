-- The scratch, as it is indexed by one member's numbers after the other's.
use Prim.Native.Nat.{ℕ, zero, suc, ◌+◌, ◌≤◌, ◌<◌}
use native.Mathlib.Omega.{arith}
use native.Mathlib.Numerals.{add-one}
use mathlib.Core.Path.{◌≡◌, refl, ap, sym, subst, ◌∙◌}
use mathlib.Core.List.{List, [], ◌∷◌}
use lib.ListN.{length, get_or, set, length-set}
use Rattle.cells.specs.Cell.{Cell, numbers}
use Rattle.cells.specs.Nodes.{no_entry, number_of, number_at}
use Rattle.cells.specs.LookupCall.{numbers_in}
use Rattle.cells.specs.RenumberParts.{Indexed}
use Rattle.walks.specs.SoundCall.{indexed}
use Rattle.walks.proofs.ScratchLaws.{index_starts, index_turn, indexed_turn}
use Rattle.sets.specs.Members.{cell_at}
use Rattle.sets.specs.SetSoundCall.{indexed_set}
use Rattle.sets.specs.SetSoundParts.{indexed_to, numbers_of}
use Rattle.cells.specs.declared.node_entry.NodeEntry.{NodeEntry}

pub indexed_long : (ks : List ℕ) (i : ℕ) (s : List ℕ) → length (indexed ks i s) ≡ length s
unfolding indexed
indexed_long [] i s = refl
indexed_long (k ∷ ks) i s = indexed_long ks (suc i) (set s k i) ∙ length-set s k i

-- it leads to the last node that has a number
pub indexed_leads : (n : ℕ) (nodes : List NodeEntry) (s : List ℕ) → n ≤ length nodes → 65536 ≤ length s
    → ((j : ℕ) → j < n → number_at nodes j < 65536) → Indexed (numbers_in n nodes) (indexed (numbers_in n nodes) 0 s)
indexed_leads zero nodes s h room short = index_starts nodes (indexed (numbers_in 0 nodes) 0 s)
indexed_leads (suc n) nodes s h room short =
    let k = number_of (get_or nodes n no_entry) in
    let now = indexed (numbers_in n nodes) 0 s in
    let lt : n < length nodes = omega arith in
    let small : k < length now = omega (arith, indexed_long (numbers_in n nodes) 0 s, short n (omega arith)) in
    let turned : Indexed (numbers_in (n + 1) nodes) (set now k n) =
    index_turn nodes n k now lt refl small
    (indexed_leads n nodes s (omega arith) room (λ j lj. short j (omega arith))) in
    let e : set now k n ≡ indexed (numbers_in (n + 1) nodes) 0 s = indexed_turn nodes n k s now lt refl refl in
    let there : Indexed (numbers_in (n + 1) nodes) (indexed (numbers_in (n + 1) nodes) 0 s) =
    subst (λ (t : List ℕ). Indexed (numbers_in (n + 1) nodes) t) e turned in
    subst (λ (j : ℕ). Indexed (numbers_in j nodes) (indexed (numbers_in j nodes) 0 s)) (add-one n) there

-- ---- one member after the other

pub to_start : (f : ℕ → List ℕ) (s : List ℕ) → s ≡ indexed_to f 0 s
unfolding indexed_to
to_start f s = refl

pub to_next : (ws : List (List ℕ)) (nodes : List NodeEntry) (k : ℕ) (s : List ℕ)
    → indexed_to (numbers_of ws nodes) (k + 1) s
    ≡ indexed (numbers_of ws nodes k) 0 (indexed_to (numbers_of ws nodes) k s)
unfolding indexed_to
to_next ws nodes k s = ap (λ (j : ℕ). indexed_to (numbers_of ws nodes) j s) (add-one k)

first_first : (f : ℕ → List ℕ) (n : ℕ) (s : List ℕ) → indexed_to f (suc n) s
    ≡ indexed_to (λ k. f (suc k)) n (indexed (f 0) 0 s)
unfolding indexed_to
first_first f zero s = refl
first_first f (suc n) s = ap (indexed (f (suc n)) 0) (first_first f n s)

pub indexed_set_law : (cs : List Cell) (f : ℕ → List ℕ) (s : List ℕ)
    → ((k : ℕ) → k < length cs → numbers (cell_at cs k).nodes ≡ f k) → indexed_to f (length cs) s ≡ indexed_set cs s
unfolding indexed_to indexed_set
indexed_set_law [] f s h = refl
indexed_set_law (c ∷ cs) f s h =
    first_first f (length cs) s
    ∙ indexed_set_law cs (λ k. f (suc k)) (indexed (f 0) 0 s) (λ k lt. h (suc k) (omega arith))
    ∙ ap (λ (ks : List ℕ). indexed_set cs (indexed ks 0 s)) (sym (h 0 (omega arith)))
