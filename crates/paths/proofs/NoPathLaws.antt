-- A short way is 17 exactly where no walk joins the two places, once nothing is refused before the search.
-- Assumes nothing.
use Rattle.std.proofs.Common.{◌≡◌, ℕ, List, refl, sym, ap, ◌∙◌, eqb, length}
use Rattle.std.specs.Prelude.{◌*◌, Bool, true, false, leb, ltb, Result, Ok, Err}
use Rattle.numbers.specs.Refusals.{number_of, done}
use Rattle.numbers.specs.declared.refusal.Refusal.{Refusal}
use Rattle.numbers.specs.declared.refusal.Refusal.TheVariants.{NoPath}
use Rattle.numbers.proofs.Refusing.{not_refused}
use Rattle.cells.specs.CellOf.{nodes_of}
use Rattle.cells.specs.Memory.{Memory, over_limit}
use Rattle.cells.proofs.Sequences.Tests.{by_test, true_false}
use Rattle.paths.specs.PathCall.{per_node, path_causes, asked, Searched, unreachable, short, path, PathLeft}
use Rattle.paths.specs.PathCall.{refused, searched}
use Rattle.paths.specs.ShortestPath.{Unreachable}
use Rattle.paths.specs.declared.path.Shortest.{Shortest}

abbrev is_17 : {A : Type 0} → Result A Refusal → Bool
is_17 (Ok x) = false
is_17 (Err r) = eqb (number_of r) 17

asked_not_17 : (m : Memory) (p q : ℕ) (scratch : List ℕ) → is_17 (asked m p q scratch) ≡ false
unfolding path_causes
asked_not_17 m p q scratch =
    by_test (leb m.ynd.node_count p) (λ t. rw t refl) (λ f₀.
    by_test (leb m.ynd.node_count q) (λ t. rw (f₀, t) refl) (λ f₁.
    by_test (over_limit m.ynd) (λ t. rw (f₀, f₁, t) refl) (λ f₂.
    by_test (ltb (length m.nodes) m.ynd.node_count) (λ t. rw (f₀, f₁, f₂, t) refl) (λ f₃.
    by_test (ltb (length m.links) m.ynd.link_count) (λ t. rw (f₀, f₁, f₂, f₃, t) refl) (λ f₄.
    by_test (ltb (length scratch) (per_node * m.ynd.node_count)) (λ t. rw (f₀, f₁, f₂, f₃, f₄, t) refl)
    (λ f₅. rw (f₀, f₁, f₂, f₃, f₄, f₅) refl))))))

-- 17 only where no walk joins them
pub seventeen_only : (m : Memory) (p q : ℕ) (scratch choices places : List ℕ) (a : Result Shortest Refusal)
    (s c t : List ℕ) → PathLeft m p q scratch choices places a s c t → a ≡ Err NoPath
    → Unreachable (nodes_of m) p q
seventeen_only m p q scratch choices places a s c t (refused e) f =
    true_false (sym (ap is_17 f) ∙ sym (ap is_17 e) ∙ asked_not_17 m p q scratch)
seventeen_only m p q scratch choices places a s c t (searched e (unreachable u)) f = u
seventeen_only m p q scratch choices places a s c t (searched e (short bs l o)) f = true_false (sym (ap is_17 f))
seventeen_only m p q scratch choices places a s c t (searched e (path x y bs few w)) f = not_refused (sym f)

-- and there always, whatever room the way's own lists have
pub seventeen : (m : Memory) (p q : ℕ) (scratch choices places : List ℕ) (a : Result Shortest Refusal)
    (s c t : List ℕ) → PathLeft m p q scratch choices places a s c t → asked m p q scratch ≡ done
    → Unreachable (nodes_of m) p q → a ≡ Err NoPath
seventeen m p q scratch choices places a s c t (refused e) d u = not_refused (sym e ∙ d)
seventeen m p q scratch choices places a s c t (searched e (unreachable n)) d u = refl
seventeen m p q scratch choices places a s c t (searched e (short bs l o)) d u = absurd (u bs l)
seventeen m p q scratch choices places a s c t (searched e (path x y bs few w)) d u = absurd (u bs w.leads)
