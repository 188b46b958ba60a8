-- Distances that are the same for all places below n: the same places are within reach, in the same order, and the
-- same one is nearest. Assumes nothing.
use Prim.Native.Nat.{ℕ, zero, suc, ◌*◌, ◌<◌, ◌≤◌}
use native.Mathlib.Omega.{arith}
use mathlib.Core.Path.{◌≡◌, refl, ap, sym, ◌∙◌}
use mathlib.Core.Bool.{cond}
use mathlib.Core.Option.{Option, none, some}
use mathlib.Core.List.{List, [], ◌∷◌, ◌++◌}
use lib.Dec.{leb}
use lib.IntN.{ℤ}
use mir.Syntax.{w16}
use mir.Val.{SFits, to_z, of_z}
use mir.ValLaws.{to_z-of_z}
use lib.ListN.{get_or, length, take}
use lib.Seq.{get_or-take, length-take-le}
use Rattle.reach.specs.Reach.{only_if, squared, distances, within, near_first, ordered}
use Rattle.reach.specs.Reach.{nearer, nearest_of, nearest_answer}
use Rattle.std.specs.Prelude.{Ok, Some}
use Rattle.reach.specs.Sorted.{insert, sorted}
use Rattle.reach.proofs.TurnLaws.{within_none, within_next}
use Rattle.reach.proofs.NearestLaws.{nearest_is}
use Rattle.reach.proofs.Sorting.BelowLaws.{Below, more, below_of, sorted_below}
use Rattle.reach.proofs.Sorting.BelowLaws as below
use Rattle.reach.proofs.Sorting.PartLaws.{within_below}
use Rattle.cells.specs.Nodes.{no_entry}
use Rattle.cells.specs.declared.node_entry.NodeEntry.{NodeEntry}

-- m places, at which the two are the same
pub record Cut (d e : ℕ → ℕ) (m n : ℕ) : Type 0 where
  pub long : m ≡ n
  pub same : (p : ℕ) → p < n → d p ≡ e p

module _ (d e : ℕ → ℕ) (n : ℕ) (same : (p : ℕ) → p < n → d p ≡ e p) where
  within_same : (radius m : ℕ) → m ≤ n → within d radius m ≡ within e radius m
  within_same radius zero h = within_none d radius ∙ sym (within_none e radius)
  within_same radius (suc m) h =
      within_next d radius m
      ∙ (λ i. within_same radius m (omega arith) i ++ only_if (leb (same m (omega arith) i) (radius * radius)) m)
      ∙ sym (within_next e radius m)

  first_same : (p q : ℕ) → p < n → q < n → near_first d p q ≡ near_first e p q
  unfolding near_first
  first_same p q hp hq = rw (same p hp, same q hq) refl

  insert_same : (x : ℕ) (xs : List ℕ) → x < n → Below n xs → insert (near_first d) x xs ≡ insert (near_first e) x xs
  unfolding insert
  insert_same x [] h below.none = refl
  insert_same x (y ∷ ys) h (more p s) =
      (λ i. cond (first_same x y h p i) (x ∷ y ∷ ys) (y ∷ insert_same x ys h s i))

  sorted_same : (l : List ℕ) → Below n l → sorted (near_first d) l ≡ sorted (near_first e) l
  unfolding sorted
  sorted_same [] below.none = refl
  sorted_same (x ∷ xs) (more h s) =
      ap (insert (near_first d) x) (sorted_same xs s)
      ∙ insert_same x (sorted (near_first e) xs) h (sorted_below n (near_first e) xs s)

  nearer_same : (o : Option ℕ) (m : ℕ) → m < n → ((q : ℕ) → o ≡ some q → q < n) → nearer d o m ≡ nearer e o m
  nearer_same none m h g = refl
  nearer_same (some q) m h g = rw (same m h, same q (g q refl)) refl

  nearest_same : (m : ℕ) → m ≤ n → nearest_of d m ≡ nearest_of e m
  unfolding nearest_of
  nearest_same zero h = refl
  nearest_same (suc m) h =
      ap (λ (o : Option ℕ). nearer d o m) (nearest_same m (omega arith))
      ∙ nearer_same (nearest_of e m) m (omega arith) (λ q f. omega (arith, (nearest_is e m q f).place))

  answer_same : (o : Option ℕ) → ((q : ℕ) → o ≡ some q → q < n) → nearest_answer d o ≡ nearest_answer e o
  answer_same none g = refl
  answer_same (some q) g = λ i. Ok (Some (record { place = q; square = same q (g q refl) i }))

module _ (d e : ℕ → ℕ) (m n : ℕ) (c : Cut d e m n) where
  pub cut_within : (radius : ℕ) → within d radius m ≡ within e radius n
  cut_within radius = ap (within d radius) c.long ∙ within_same d e n c.same radius n (omega arith)

  pub cut_ordered : (radius : ℕ) → ordered d (within d radius m) ≡ ordered e (within e radius n)
  unfolding ordered
  cut_ordered radius =
      ap (sorted (near_first d)) (cut_within radius)
      ∙ sorted_same d e n c.same (within e radius n) (below_of n (within e radius n) (within_below e radius n))

  pub cut_nearest : nearest_answer d (nearest_of d m) ≡ nearest_answer e (nearest_of e n)
  cut_nearest =
      ap (λ (k : ℕ). nearest_answer d (nearest_of d k)) c.long
      ∙ ap (nearest_answer d) (nearest_same d e n c.same n (omega arith))
      ∙ answer_same d e n c.same (nearest_of e n) (λ q f. (nearest_is e n q f).place)

-- the distances of the first n nodes from a point
pub cut_nodes : (x y : ℤ) (nodes own first : List NodeEntry) (far : ℕ → ℕ) (n : ℕ) → SFits w16 x → SFits w16 y
    → n ≤ length nodes → own ≡ take n nodes → first ≡ own
    → far ≡ distances (to_z w16 (of_z w16 x)) (to_z w16 (of_z w16 y)) own
    → Cut far (distances x y nodes) (length first) n
unfolding distances
cut_nodes x y nodes own first far n fx fy le eo e f = record {
  long = ap length (e ∙ eo) ∙ length-take-le n nodes le;
  same = λ p lt.
      (λ i. f i p)
      ∙ (λ i. squared (to_z w16 (of_z w16 x)) (to_z w16 (of_z w16 y)) (get_or (eo i) p no_entry))
      ∙ (λ i. squared (to_z-of_z w16 x fx i) (to_z-of_z w16 y fy i) (get_or-take n nodes p no_entry lt i));
}
