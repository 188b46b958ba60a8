-- A round followed in a cell is 19 exactly where it is of version 2 and names another area than the cell's own.
-- Assumes nothing.
use Rattle.std.proofs.Common.{◌≡◌, ℕ, List, [], ◌∷◌, refl, sym, ap, ◌∙◌, eqb, length}
use Rattle.std.specs.Prelude.{Bool, true, false, not, ◌&&◌, cond, leb, ltb, Option, Some, None, Result, Ok, Err}
use borrow.Author.Tests.{eqb-false}
use Rattle.numbers.specs.declared.refusal.Refusal.{Refusal}
use Rattle.numbers.specs.declared.refusal.Refusal.TheVariants.{OtherArea}
use Rattle.numbers.specs.Refusals.{number_of, Answer, Cause, decided}
use Rattle.numbers.specs.Refusals.{unless as otherwise}
use Rattle.cells.specs.Cell.{first_of}
use Rattle.cells.specs.CellOf.{nodes_of}
use Rattle.cells.specs.LookupCall.{Place, node_call, find_in}
use Rattle.cells.specs.Memory.{Memory, over_limit, nodes_causes}
use Rattle.cells.proofs.Lookups.LookupLaws.{area_held}
use Rattle.cells.proofs.Sequences.Tests.{by_test, true_false}
use Rattle.walks.specs.WalkCall.{WalkLeft, walk_left, route, walk_call}
use Rattle.rounds.specs.Follow.{starting_at, follow_round, area_answer, follow_version}
use Rattle.rounds.specs.Round.{unless}
use Rattle.rounds.specs.declared.file.Version.{Version}
use Rattle.rounds.specs.declared.file.Version.TheVariants.{One, Two}

-- ---- answers that are not 19

-- an answer that is a refusal of this number
abbrev pub is_number : {A : Type 0} → ℕ → Result A Refusal → Bool
is_number n (Ok x) = false
is_number n (Err r) = eqb (number_of r) n

-- none of these causes is 19
pub without_19 : List Cause → Bool
without_19 [] = true
without_19 (c ∷ cs) = not (eqb (number_of c.refusal) 19) && without_19 cs

pub decided_no_19 : (cs : List Cause) → without_19 cs ≡ true → is_number 19 (decided cs) ≡ false
unfolding without_19
decided_no_19 [] e = refl
decided_no_19 (c ∷ cs) e = go c.fits (eqb (number_of c.refusal) 19) refl e (decided_no_19 cs)
  where
    go : (b d : Bool) → eqb (number_of c.refusal) 19 ≡ d → not d && without_19 cs ≡ true
        → (without_19 cs ≡ true → is_number 19 (decided cs) ≡ false)
        → is_number 19 (cond b (Err c.refusal) (decided cs)) ≡ false
    go true false f e later = f
    go true true f e later = true_false (sym e)
    go false false f e later = later e
    go false true f e later = true_false (sym e)

pub not_19 : {A : Type 0} (r : Result A Refusal) → is_number 19 r ≡ false → r ≡ Err OtherArea → ⊥
not_19 r f e = true_false (sym (ap (is_number 19) e) ∙ f)

walked_no_19 : (m : Memory) (choices : List ℕ) (p : ℕ) (visited : List ℕ)
    → is_number 19 (walk_call m choices p visited).answer ≡ false
unfolding walk_call
walked_no_19 m choices p visited =
    by_test (leb m.ynd.node_count p) (λ t. rw t refl) (λ f₀.
    by_test (over_limit m.ynd) (λ t. rw (f₀, t) refl) (λ f₁.
    by_test (ltb (length m.nodes) m.ynd.node_count) (λ t. rw (f₀, f₁, t) refl) (λ f₂.
    by_test (ltb (length m.links) m.ynd.link_count) (λ t. rw (f₀, f₁, f₂, t) refl) (λ f₃.
    by_test (ltb (length visited) (length (route (nodes_of m) choices p).places))
    (λ t. rw (f₀, f₁, f₂, f₃, t) refl) (λ f₄. rw (f₀, f₁, f₂, f₃, f₄) refl)))))

found_no_19 : (m : Memory) (k : ℕ) → is_number 19 (node_call m.ynd m.nodes k) ≡ false
unfolding without_19 node_call nodes_causes
found_no_19 m k = go (decided (nodes_causes m.ynd (length m.nodes)))
    (decided_no_19 (nodes_causes m.ynd (length m.nodes)) refl) (find_in m.ynd.node_count m.nodes k)
  where
    go : (a : Answer) → is_number 19 a ≡ false → (o : Option ℕ) → is_number 19 (otherwise a (Ok o)) ≡ false
    go (Ok x) e o = refl
    go (Err r) e o = e

followed_no_19 : (m : Memory) (start : ℕ) (choices visited : List ℕ)
    → is_number 19 (follow_round m start choices visited).answer ≡ false
unfolding follow_round
followed_no_19 m start choices visited = go (node_call m.ynd m.nodes start) (found_no_19 m start)
  where
    go : (place : Place) → is_number 19 place ≡ false
        → is_number 19 (starting_at place (λ p. walk_call m choices p visited) visited).answer ≡ false
    go (Ok (Some p)) e = walked_no_19 m choices p visited
    go (Ok None) e = refl
    go (Err cause) e = e

-- ---- 19

-- 19, and nothing visited, where a version 2 round names another area than the cell's own
pub nineteen : (m : Memory) (area start : ℕ) (choices visited : List ℕ) → eqb area (first_of (nodes_of m)) ≡ false
    → follow_version m (Two area) start choices visited ≡ walk_left (Err OtherArea) visited
unfolding follow_version
nineteen m area start choices visited e = rw (← area_held m, e) refl

-- what 19 says: the round is of version 2, and its area isn't the cell's own
pub record OtherCell (m : Memory) (v : Version) : Type 0 where
  pub area : ℕ
  pub is_two : v ≡ Two area
  pub differs : area ≡ first_of (nodes_of m) → ⊥

-- 19 only there, whatever the lists
pub nineteen_only : (m : Memory) (v : Version) (start : ℕ) (choices visited : List ℕ)
    → (follow_version m v start choices visited).answer ≡ Err OtherArea → OtherCell m v
unfolding follow_version
nineteen_only m v start choices visited e = by_version v (rw (← area_held m) at e)
  where
    left : WalkLeft
    left = follow_round m start choices visited

    followed : left.answer ≡ Err OtherArea → ⊥
    followed = not_19 left.answer (followed_no_19 m start choices visited)

    by_area : (area : ℕ) (b : Bool) → eqb area (first_of (nodes_of m)) ≡ b
        → (unless (cond b (Ok tt) (Err OtherArea)) (λ cause. walk_left (Err cause) visited) left).answer
        ≡ Err OtherArea → OtherCell m (Two area)
    by_area area true t e = absurd (followed e)
    by_area area false f e = record { area = area; is_two = refl; differs = eqb-false _ _ f }

    by_version : (v : Version)
        → (unless (area_answer v (first_of (nodes_of m))) (λ cause. walk_left (Err cause) visited) left).answer
        ≡ Err OtherArea → OtherCell m v
    by_version One e = absurd (followed e)
    by_version (Two area) e = by_area area (eqb area (first_of (nodes_of m))) refl e
