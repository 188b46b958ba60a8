-- The kinds of node and their numbers.
-- Assumes nothing.
use Prim.Native.Nat.{ℕ, ◌/◌}
use mathlib.Core.Path.{◌≡◌, refl, sym, subst}
use mathlib.Core.Bool.{false}
use lib.Dec.{eqb}
use borrow.Author.Tests.{eqb-true}
use Rattle.cells.specs.Nodes.{ped_kind, is_ped}
use Rattle.cells.specs.declared.node_entry.NodeEntry.{NodeEntry}
use Rattle.cells.specs.Special.{special_of, special_value, is_ped_special}
use Rattle.cells.proofs.Sequences.Tests.{by_test}

-- what holds of each number that is named, and of every other, holds of every number
module _ (P : ℕ → Type 0) where
  each :
      P 0 → P 2 → P 10 → P 14 → P 15 → P 16 → P 17 → P 18 → P 19 → P 20
      → ((v : ℕ) → eqb v 0 ≡ false → eqb v 2 ≡ false → eqb v 10 ≡ false → eqb v 14 ≡ false → eqb v 15 ≡ false
      → eqb v 16 ≡ false → eqb v 17 ≡ false → eqb v 18 ≡ false → eqb v 19 ≡ false → eqb v 20 ≡ false → P v)
      → (v : ℕ) → P v
  each p0 p2 p10 p14 p15 p16 p17 p18 p19 p20 other v =
      at 0 p0 λ n0. at 2 p2 λ n2. at 10 p10 λ n10. at 14 p14 λ n14. at 15 p15 λ n15.
      at 16 p16 λ n16. at 17 p17 λ n17. at 18 p18 λ n18. at 19 p19 λ n19. at 20 p20 λ n20.
      other v n0 n2 n10 n14 n15 n16 n17 n18 n19 n20
    where
      at : (k : ℕ) → P k → (eqb v k ≡ false → P v) → P v
      at k p next = by_test (eqb v k) (λ t. subst P (sym (eqb-true v k t)) p) next

-- the ped kinds are those that renumbering puts last
pub special_ped : (v : ℕ) → is_ped_special (special_of v) ≡ ped_kind v
unfolding special_of
special_ped =
    each (λ (v : ℕ). is_ped_special (special_of v) ≡ ped_kind v) refl refl refl refl refl refl refl refl refl refl
    (λ v n0 n2 n10 n14 n15 n16 n17 n18 n19 n20. rw (n0, n2, n10, n14, n15, n16, n17, n18, n19, n20))

-- of a node, as renumbering asks
pub ped_node : (n : NodeEntry) → ped_kind (n.flags1 / 8) ≡ is_ped n
unfolding is_ped
ped_node n = refl

-- a kind's number is the one that it was made of
pub special_value_law : (v : ℕ) → special_value (special_of v) ≡ v
unfolding special_of
special_value_law =
    each (λ (v : ℕ). special_value (special_of v) ≡ v) refl refl refl refl refl refl refl refl refl refl
    (λ v n0 n2 n10 n14 n15 n16 n17 n18 n19 n20. rw (n0, n2, n10, n14, n15, n16, n17, n18, n19, n20))
