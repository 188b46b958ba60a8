-- What a renumbered cell holds: each node at its new place, which is its number.
-- Assumes nothing.
use Rattle.cells.specs.Nodes.{rereffed}
use Prim.Native.Nat.{ℕ, zero, suc, ◌+◌, ◌<◌}
use native.Mathlib.Omega.{arith}
use native.Mathlib.Nat.{zero-add, suc-add, add-suc, add-zero}
use mathlib.Core.Path.{◌≡◌, refl, ap, ◌∙◌}
use mathlib.Core.Bool.{Bool, true, false}
use mathlib.Core.List.{List, [], ◌∷◌, map}
use mathlib.Core.Option.{some}
use lib.ListN.{length, get_or, length-map, get_or-map}
use borrow.Author.Tests.{eq-eqb, lt-ltb}
use Rattle.cells.specs.Cell.{Node, Cell, node_at, no_node, no_body, is_ped_node, numbers, ped_flags}
use Rattle.cells.specs.Order.{new_place, Old}
use Rattle.cells.specs.Cell.{ordered, renode, number_nodes, renumber_cell, old_nodes}
use Rattle.cells.specs.Lookup.{find}
use Rattle.cells.specs.Lists.{every}
use Rattle.cells.proofs.Sequences.Tests.{and_left, and_right}
use Rattle.cells.proofs.Renumbering.Parted.{parted_length}
use Rattle.cells.proofs.Renumbering.Parted as any

pub ordered_length : (ns : List Node) → length (ordered ns) ≡ length ns
ordered_length ns = parted_length is_ped_node ns

pub number_is : (ns : List Node) (p : ℕ) → get_or (numbers ns) p 0 ≡ (node_at ns p).number
unfolding no_node
number_is ns p = get_or-map (λ n. n.number) ns p no_node

-- no node is no ped node
pub none_ped : is_ped_node no_node ≡ false
unfolding no_node no_body
none_ped = refl

-- the node first at place p stands at its new place
pub new_at : (ns : List Node) (p : ℕ) → p < length ns → (new_place (ped_flags ns) p < length ns)
    × (get_or (ordered ns) (new_place (ped_flags ns) p) no_node ≡ node_at ns p)
new_at ns p lt = any.new_at is_ped_node no_node none_ped ns p lt

pub number_length : (all : Old) (k : ℕ) (ns : List Node) → length (number_nodes all k ns) ≡ length ns
unfolding number_nodes
number_length all k [] = refl
number_length all k (n ∷ ns) = ap suc (number_length all (suc k) ns)

pub number_at : (all : Old) (k : ℕ) (ns : List Node) (i : ℕ) → i < length ns
    → node_at (number_nodes all k ns) i ≡ renode all (k + i) (node_at ns i)
unfolding number_nodes
number_at all k [] i lt = absurd (omega arith)
number_at all k (n ∷ ns) zero lt = rw add-zero
number_at all k (n ∷ ns) (suc i) lt = number_at all (suc k) ns i (omega arith) ∙ rw (suc-add, add-suc)

module _ (c : Cell) where
  pub new_length : length (renumber_cell c).nodes ≡ length c.nodes
  unfolding renumber_cell
  new_length = number_length _ _ _ ∙ ordered_length _

  pub new_refs : (renumber_cell c).refs ≡ map (rereffed (old_nodes c.nodes)) c.refs
  unfolding renumber_cell
  new_refs = refl

  pub new_junctions : (renumber_cell c).junctions ≡ c.junctions
  unfolding renumber_cell
  new_junctions = refl

  pub new_node_law : (p : ℕ) → p < length c.nodes
      → node_at (renumber_cell c).nodes (new_place (ped_flags c.nodes) p)
      ≡ renode (old_nodes c.nodes) (new_place (ped_flags c.nodes) p) (node_at c.nodes p)
  unfolding renumber_cell
  new_node_law p lt =
      let n = new_at c.nodes p lt in
      number_at (old_nodes c.nodes) 0 (ordered c.nodes) (new_place (ped_flags c.nodes) p)
      (omega (arith, n.0, ordered_length c.nodes))
      ∙ rw (zero-add, n.1)

  -- every node's number is its place
  pub new_number_law : (q : ℕ) → q < length c.nodes → (node_at (renumber_cell c).nodes q).number ≡ q
  unfolding renumber_cell
  new_number_law q lt = ap (λ (n : Node). n.number)
      (number_at (old_nodes c.nodes) 0 (ordered c.nodes) q (omega (arith, ordered_length c.nodes))) ∙ zero-add q

  pub new_find : (q : ℕ) → q < length c.nodes → find (numbers (renumber_cell c).nodes) q ≡ some q
  unfolding find
  new_find q lt = rw (
    length-map,
    number_is,
    lt-ltb q (length (renumber_cell c).nodes) (omega (arith, new_length)),
    eq-eqb _ _ (new_number_law q lt),
  )

pub every_number : (all : Old) (f g : Node → Bool) → ((k : ℕ) (n : Node) → g n ≡ true → f (renode all k n) ≡ true)
    → (k : ℕ) (ns : List Node) → every g ns ≡ true → every f (number_nodes all k ns) ≡ true
unfolding every number_nodes
every_number all f g e k [] h = refl
every_number all f g e k (n ∷ ns) h = cc
    (e k n (and_left _ _ h), every_number all f g e (suc k) ns (and_right (g n) _ h))
