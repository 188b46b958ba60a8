-- A link or a heightmap value stored: it changes in its own node or junction, and in no other whose range it does
-- not lie in.
use Rattle.numbers.proofs.Refusing.{not_refused}
use Prim.Native.Nat.{ℕ, zero, suc, ◌+◌, ◌-◌, ◌≤◌, ◌<◌}
use native.Mathlib.Omega.{arith}
use mathlib.Core.Path.{◌≡◌, refl, ap, sym, ◌∙◌}
use mathlib.Core.Logic.{◌⊎◌, ⊎_elim}
use mathlib.Core.Bool.{Bool, ◌&&◌}
use mathlib.Core.List.{List, [], ◌∷◌, map}
use lib.Dec.{ltb, leb}
use lib.ListN.{length, get_or, set, take, drop}
use lib.Seq.{take-set-le, take-set-lt, drop-set-lt, drop-set-add, length-take-le, get_or-take}
use borrow.Author.Tests.{ltb-false, leb-false}
use Rattle.cells.specs.declared.range.Range.{Range}
use Rattle.cells.specs.declared.link.PathLink.{PathLink}
use Rattle.cells.specs.Nodes.{no_entry, no_link, no_map, value_count}
use Rattle.cells.specs.Cell.{Node, Junction, no_node, node_at}
use Rattle.cells.specs.CellOf.{node_with, junction_with, nodes_of, junctions_of, refs_of, cell_of}
use Rattle.cells.specs.Memory.{Memory, memory, over_limit}
use Rattle.cells.specs.Edit.{range_entry, held_in, link_range, value_range, link_entry, height_entry, change_at}
use Rattle.cells.specs.Edit.{put_link, put_height}
use Rattle.cells.specs.EditedCell.{with_nodes, with_junctions, link_changed, height_changed}
use Rattle.cells.proofs.Sequences.Tests.{by_test, same_map}
use Rattle.cells.proofs.Editing.EditLaws.{lent_false, held_bound}
use Rattle.cells.proofs.Editing.LinkAdded.{with_links}
use Rattle.cells.proofs.Editing.CellAdded.{with_values}
use Rattle.cells.proofs.Editing.CellStored.{held_at_law}
use Rattle.std.specs.Prelude.{Ok}
use Rattle.numbers.specs.declared.refusal.Lent.{Lent}
use Rattle.numbers.specs.declared.refusal.Lent.TheVariants as lent
use Rattle.cells.proofs.Editing.Conditions.{Alone, link_start, link_count, value_start}

module _ {A : Type 0} where
  part_before : (s c i : ℕ) (y : A) (P : List A) → s + c ≤ i → take c (drop s (set P i y)) ≡ take c (drop s P)
  part_before s c i y P h =
      let e : s + (i - s) ≡ i = omega arith in
      ap (λ (j : ℕ). take c (drop s (set P j y))) (sym e)
      ∙ ap (take c) (drop-set-add s P (i - s) y)
      ∙ take-set-le c (drop s P) (i - s) y (omega arith)

  -- a range that the place i does not lie in
  part_apart : (s c i : ℕ) (y : A) (P : List A) → (s + c ≤ i) ⊎ (i < s) → take c (drop s (set P i y))
      ≡ take c (drop s P)
  part_apart s c i y P h = ⊎_elim (part_before s c i y P) (λ lt. ap (take c) (drop-set-lt s P i y lt)) h

  -- the range in which it is entry k
  part_own : (s c k i : ℕ) (y : A) (P : List A) → s + k ≡ i → k < c → take c (drop s (set P i y))
      ≡ set (take c (drop s P)) k y
  part_own s c k i y P e h =
      ap (λ (j : ℕ). take c (drop s (set P j y))) (sym e)
      ∙ ap (take c) (drop-set-add s P k y)
      ∙ take-set-lt c (drop s P) k y h

-- all but one stay
pub change_one : {A B : Type 0} (f g : A → B) (l : List A) (p : ℕ) (d : A) (z : B) → p < length l
    → ((q : ℕ) → q < length l → (q ≡ p → ⊥) → g (get_or l q d) ≡ f (get_or l q d)) → g (get_or l p d) ≡ z → map g l
    ≡ set (map f l) p z
change_one f g [] p d z h other own = absurd (omega arith)
change_one {A} {B} f g (x ∷ xs) zero d z h other own = λ i. own i
    ∷ same_map g f xs d (λ q lt. other (suc q) (omega arith) (λ e. absurd (omega (arith, e)))) i
change_one f g (x ∷ xs) (suc p) d z h other own =
    λ i. other 0 (omega arith) (λ e. absurd (omega (arith, e))) i
    ∷ change_one f g xs p d z (omega arith)
    (λ q lt ne. other (suc q) (omega arith) (λ e. ne (omega (arith, e)))) own i

-- n owners, each with its part of the pool P, by where it starts and how many it counts
module _ {A B C : Type 0} (blank : A) (start count : A → ℕ) (make : A → List B → C) (n : ℕ) (owners : List A)
    (P : List B) where
  abbrev owned : List B → A → C
  owned Q w = make w (take (count w) (drop (start w) Q))

  pub pool_stored : (p k i : ℕ) (y : B) → p < n → n ≤ length owners → start (get_or owners p blank) + k ≡ i → k
      < count (get_or owners p blank)
      → ((q : ℕ) → q < n → (q ≡ p → ⊥) → (start (get_or owners q blank) + count (get_or owners q blank) ≤ i)
      ⊎ (i < start (get_or owners q blank)))
      → map (owned (set P i y)) (take n owners)
      ≡ set (map (owned P) (take n owners)) p
      (make (get_or owners p blank) (set (take (count (get_or owners p blank)) (drop (start (get_or owners p blank)) P))
      k y))
  pool_stored p k i y lt fits at less apart =
      let long = length-take-le n owners fits in
      change_one (owned P) (owned (set P i y)) (take n owners) p blank _ (omega (arith, long))
      (λ q h ne. let less : q < n = omega (arith, long) in
      rw (get_or-take n owners q blank less)
      (ap (make (get_or owners q blank)) (part_apart (start (get_or owners q blank)) (count (get_or owners q blank)) i y
      P (apart q less ne))))
      (rw (get_or-take n owners p blank lt) (ap (make (get_or owners p blank))
      (part_own (start (get_or owners p blank)) (count (get_or owners p blank)) k i y P at less)))

-- what an accepted call has stored
range_done : {A : Type 0} (over : Bool) (n len : ℕ) (list : Lent) (l : ℕ) (values : Lent) (p k : ℕ) (r : Range)
    (f : A → A) (d : A) (xs : List A)
    → (change_at (range_entry over n len list l (length xs) values p r k) f d xs).answer ≡ (Ok tt)
    → (p < n) × (n ≤ len) × (k < r.count) × (r.start + k < l)
    × ((change_at (range_entry over n len list l (length xs) values p r k) f d xs).list
    ≡ set xs (r.start + k) (f (get_or xs (r.start + k) d)))
unfolding range_entry
range_done over n len list l values p k r f d xs e =
    by_test (leb n p) (λ t. not_refused (rw t at e)) (λ f₀.
    by_test (ltb p len && leb (held_in r l) k) (λ t. not_refused (rw (f₀, t) at e)) (λ f₁.
    by_test over (λ t. not_refused (rw (f₀, f₁, t) at e)) (λ o.
    by_test (ltb len n) (λ t. not_refused (rw (f₀, f₁, o, t) at e)) (λ f₂.
    by_test (ltb (length xs) l) (λ t. not_refused (rw (f₀, f₁, o, f₂, t) at e)) (λ f₃.
    let lent : p < len = omega (arith, leb-false n p f₀, ltb-false len n f₂) in
    let h = leb-false (held_in r l) k (lent_false p len (leb (held_in r l) k) lent f₁) in
    let b = held_bound r l in
    (leb-false n p f₀, ltb-false len n f₂, omega (arith, b.1), omega (arith, b.0), rw (f₀, f₁, o, f₂, f₃)))))))

pub link_put : (m : Memory) (p k : ℕ) (x : PathLink)
    → Alone no_entry link_start link_count m.ynd.node_count ((get_or m.nodes p no_entry).link_id + k) p m.nodes
    → (put_link m.ynd m.nodes m.links p k x).answer ≡ (Ok tt)
    → cell_of (memory m.ynd m.nodes (put_link m.ynd m.nodes m.links p k x).list m.junctions m.heights m.refs)
    ≡ with_nodes (set (cell_of m).nodes p (link_changed k x (node_at (cell_of m).nodes p))) (cell_of m)
unfolding put_link link_entry cell_of nodes_of junctions_of refs_of
link_put m p k x alone e =
    let n = m.ynd.node_count in
    let l = m.ynd.link_count in
    let i = (get_or m.nodes p no_entry).link_id + k in
    let ls = take l m.links in
    let d = range_done (over_limit m.ynd) n (length m.nodes) lent.Nodes l lent.Links p k (link_range m.nodes p)
    (λ v. x) no_link m.links e in
    let pool = ap (take l) d.4 ∙ take-set-lt l m.links i x d.3 in
    let g = ap (λ (t : List PathLink). map (node_with t) (take n m.nodes)) pool
    ∙ pool_stored no_entry link_start link_count with_links n m.nodes ls p k i x d.0 d.1 refl d.2 alone.alone
    ∙ ap (λ (t : Node). set (map (node_with ls) (take n m.nodes)) p (link_changed k x t))
    (sym (held_at_law (node_with ls) n m.nodes p no_entry no_node d.0 d.1)) in
    λ j. with_nodes (g j) (cell_of m)

-- the junction at p, as it was
abbrev junction_was : Memory → ℕ → Junction
junction_was m p = junction_with (take m.ynd.heightmap_count m.heights) (get_or m.junctions p no_map)

pub height_put : (m : Memory) (p k v : ℕ)
    → Alone no_map value_start value_count m.ynd.junction_count ((get_or m.junctions p no_map).heightmap_ptr + k) p
    m.junctions
    → (put_height m.ynd m.junctions m.heights p k v).answer ≡ (Ok tt)
    → cell_of (memory m.ynd m.nodes m.links m.junctions (put_height m.ynd m.junctions m.heights p k v).list m.refs)
    ≡ with_junctions (set (cell_of m).junctions p (height_changed k v (junction_was m p))) (cell_of m)
unfolding put_height height_entry cell_of nodes_of junctions_of refs_of
height_put m p k v alone e =
    let n = m.ynd.junction_count in
    let h = m.ynd.heightmap_count in
    let i = (get_or m.junctions p no_map).heightmap_ptr + k in
    let d = range_done (over_limit m.ynd) n (length m.junctions) lent.Junctions h lent.Heightmap p k
    (value_range m.junctions p) (λ t. v) 0 m.heights e in
    let pool = ap (take h) d.4 ∙ take-set-lt h m.heights i v d.3 in
    let g = ap (λ (t : List ℕ). map (junction_with t) (take n m.junctions)) pool
    ∙ pool_stored no_map value_start value_count with_values n m.junctions (take h m.heights) p k i v d.0 d.1 refl d.2
    alone.alone in
    λ j. with_junctions (g j) (cell_of m)
