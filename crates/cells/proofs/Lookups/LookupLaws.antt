-- What a search that goes up through nodes or refs has found, and that lookups in the lent lists are lookups in the
-- cell that they hold.
use Prim.Native.Nat.{ℕ, zero, suc, ◌+◌, ◌<◌, ◌≤◌}
use native.Mathlib.Omega.{arith}
use mathlib.Core.Path.{◌≡◌, refl, ap, sym, ◌∙◌}
use mathlib.Core.Bool.{Bool, true, false}
use mathlib.Core.List.{List, [], ◌∷◌, map}
use mathlib.Core.Option.{Option, none, some}
use lib.Dec.{ltb}
use lib.ListN.{length, get_or, get_elem?, take, length-map, length-take}
use Rattle.std.proofs.lemmas.List.{get_or-map}
use lib.Seq.{take_all, length-take-le, get_or-take}
use borrow.Author.Tests.{eq-eqb, ne_eqb, lt-ltb, le-ltb, ltb-false}
use Rattle.cells.specs.Nodes.{number_of, first_area}
use Rattle.cells.specs.Cell.{numbers, first_of}
use Rattle.cells.specs.Memory.{Memory, over_limit, nodes_causes}
use Rattle.cells.specs.CellOf.{node_with, junction_with, nodes_of, junctions_of, refs_of}
use Rattle.cells.specs.CellOf.{cell_of}
use Rattle.cells.specs.Lookup.{first_with, find, ref_matches, ref_of, or_later, or_else_ref, junction_at, junction_of}
use Rattle.cells.specs.LookupCall.{numbers_in, first_in, find_in, node_call, place_of, ref_in, below}
use Rattle.cells.specs.LookupCall.{junction_of_call, at_place}
use Rattle.cells.proofs.Sequences.Tests.{by_test}
use Rattle.std.specs.Prelude.{Ok, Some, None, cond, ◌==◌, Option as Answered}
use Rattle.std.specs.List.{position, position_from, find as find_one}
use Rattle.std.specs.Option.{option_map}
use Rattle.std.proofs.lemmas.Iterator.Adapters.{position_from-zero}
use native.Mathlib.Nat.{zero-add, add-zero}
use Rattle.cells.specs.declared.node_entry.NodeEntry.{NodeEntry}
use Rattle.records.specs.declared.junction_ref.NodeJunctionRef.{NodeJunctionRef}

pub first_found : (xs : List ℕ) (k i : ℕ) → i < length xs → get_or xs i 0 ≡ k
    → ((j : ℕ) → j < i → get_or xs j 0 ≡ k → ⊥) → first_with xs k ≡ some i
unfolding first_with
first_found [] k i lt e h = absurd (omega arith)
first_found (x ∷ xs) k zero lt e h = rw (eq-eqb x k e)
first_found (x ∷ xs) k (suc i) lt e h =
    rw (ne_eqb x k (h 0 (omega arith)), first_found xs k i (omega arith) e (λ j l. h (suc j) (omega arith)))

pub first_none : (xs : List ℕ) (k : ℕ) → ((j : ℕ) → j < length xs → get_or xs j 0 ≡ k → ⊥) → first_with xs k ≡ none
unfolding first_with
first_none [] k h = refl
first_none (x ∷ xs) k h = rw (ne_eqb x k (h 0 (omega arith)), first_none xs k (λ j l. h (suc j) (omega arith)))

numbers_length : (n : ℕ) (ws : List NodeEntry) → n ≤ length ws → length (numbers_in n ws) ≡ n
unfolding numbers_in
numbers_length n ws h = length-map (take n ws) number_of ∙ length-take-le n ws h

number_in : (n : ℕ) (ws : List NodeEntry) (i : ℕ) (z : NodeEntry) → i < n → i < length ws
    → get_or (numbers_in n ws) i 0 ≡ number_of (get_or ws i z)
unfolding numbers_in
number_in n ws i z lt h =
    let inside : i < length (take n ws) = omega (arith, length-take n ws) in
    get_or-map number_of (take n ws) i z 0 inside ∙ ap number_of (get_or-take n ws i z lt)

-- ---- a node by its number

module _ (ws : List NodeEntry) (n k : ℕ) (z : NodeEntry) (fits : n ≤ length ws) where
  long : length (numbers_in n ws) ≡ n
  long = numbers_length n ws fits

  pub first_at : (i : ℕ) → i < n → number_of (get_or ws i z) ≡ k
      → ((j : ℕ) → j < i → number_of (get_or ws j z) ≡ k → ⊥) → Some i ≡ first_in n ws k
  unfolding first_in
  first_at i lt e h = rw (first_found (numbers_in n ws) k i (rw long lt) (number_in n ws i z lt (omega arith) ∙ e)
      (λ j l q. h j l (sym (number_in n ws j z (omega arith) (omega arith)) ∙ q)))

  pub first_no : ((j : ℕ) → j < n → number_of (get_or ws j z) ≡ k → ⊥) → None ≡ first_in n ws k
  unfolding first_in
  first_no h = rw (first_none (numbers_in n ws) k
      (λ j l q. let lt : j < n = rw long at l in h j lt (sym (number_in n ws j z lt (omega arith)) ∙ q)))

  pub find_at : k < n → number_of (get_or ws k z) ≡ k → Some k ≡ find_in n ws k
  unfolding find_in find
  find_at lt e = rw (long, number_in n ws k z lt (omega arith), lt-ltb k n lt, eq-eqb _ _ e)

  pub find_past : n ≤ k → first_in n ws k ≡ find_in n ws k
  unfolding find_in find first_in
  find_past le = rw (long, le-ltb k n le)

  pub find_other : k < n → (number_of (get_or ws k z) ≡ k → ⊥) → first_in n ws k ≡ find_in n ws k
  unfolding find_in find first_in
  find_other lt ne = rw (long, number_in n ws k z lt (omega arith), lt-ltb k n lt, ne_eqb _ _ ne)

-- std's `position` finds the first
pub first_is : (ws : List NodeEntry) (k : ℕ) → position (λ w. number_of w == k) ws ≡ first_in (length ws) ws k
unfolding first_in numbers_in first_with
first_is ws k =
    position_from-zero (λ w. number_of w == k) ws ∙ from 0 ws ∙ at_zero (first_with (map number_of ws) k)
    ∙ ap (λ (l : List NodeEntry). place_of (first_with (map number_of l) k))
    (sym (take_all (length ws) ws (omega arith)))
  where
    at : ℕ → Option ℕ → Answered ℕ
    at i none = None
    at i (some j) = Some (i + j)

    later : (i : ℕ) (b : Bool) (o : Option ℕ) (rest : Answered ℕ) → rest ≡ at (i + 1) o → cond b (Some i) rest
        ≡ at i (or_later b o)
    later i true o rest e = ap {B = Answered ℕ} Some (sym (add-zero i))
    later i false none rest e = e
    later i false (some j) rest e = e ∙ ap {B = Answered ℕ} Some (omega arith)

    from : (i : ℕ) (l : List NodeEntry) → position_from (λ w. number_of w == k) i l
        ≡ at i (first_with (map number_of l) k)
    from i [] = refl
    from i (w ∷ ws) = later i (number_of w == k) (first_with (map number_of ws) k) _ (from (i + 1) ws)

    at_zero : (o : Option ℕ) → at 0 o ≡ place_of o
    at_zero none = refl
    at_zero (some j) = ap {B = Answered ℕ} Some (zero-add j)

-- the front of a list, as a list of its own
pub find_front : (n k : ℕ) (ws : List NodeEntry) → n ≤ length ws → find_in (length (take n ws)) (take n ws) k
    ≡ find_in n ws k
unfolding find_in numbers_in
find_front n k ws h = ap (λ (l : List NodeEntry). place_of (find (map number_of l) k))
    (take_all (length (take n ws)) (take n ws) (omega arith))

-- ---- a junction by the refs

pub mapped_twice : {A B C : Type 0} (f : B → C) (g : A → B) (o : Answered A) → option_map (λ x. f (g x)) o
    ≡ option_map f (option_map g o)
mapped_twice f g None = refl
mapped_twice f g (Some x) = refl

pub ref_found : (own a k : ℕ) (rs : List NodeJunctionRef)
    → option_map (λ r. r.junction_id) (find_one (ref_matches own a k) rs) ≡ place_of (ref_in own rs a k)
unfolding ref_in ref_of
ref_found own a k [] = refl
ref_found own a k (r ∷ rs) = go (ref_matches own a k r) (ref_found own a k rs)
  where
    go : (b : Bool) → option_map (λ r. r.junction_id) (find_one (ref_matches own a k) rs) ≡ place_of (ref_in own rs a k)
        → option_map (λ r. r.junction_id) (cond b (Some r) (find_one (ref_matches own a k) rs))
        ≡ place_of (or_else_ref b r.junction_id (ref_in own rs a k))
    go true e = refl
    go false e = e

-- ---- in the cell that the lists hold

pub numbers_held : (m : Memory) → numbers (nodes_of m) ≡ numbers_in m.ynd.node_count m.nodes
unfolding nodes_of numbers_in
numbers_held m = each (take m.ynd.node_count m.nodes)
  where
    each : (ws : List NodeEntry) → map (λ n. n.number) (map (node_with (take m.ynd.link_count m.links))
        ws) ≡ map number_of ws
    each [] = refl
    each (w ∷ ws) = ap (λ (t : List ℕ). number_of w ∷ t) (each ws)

pub area_held : (m : Memory) → first_of (nodes_of m) ≡ first_area (take m.ynd.node_count m.nodes)
unfolding nodes_of first_area
area_held m = first (take m.ynd.node_count m.nodes)
  where
    first : (ws : List NodeEntry) → first_of (map (node_with (take m.ynd.link_count m.links)) ws)
        ≡ first_area ws
    first [] = refl
    first (w ∷ ws) = refl

-- `node` finds what the cell's nodes have
pub node_held : (m : Memory) (k : ℕ) → over_limit m.ynd ≡ false → m.ynd.node_count ≤ length m.nodes
    → node_call m.ynd m.nodes k ≡ Ok (place_of (find (numbers (nodes_of m)) k))
unfolding node_call find_in nodes_causes
node_held m k o h = rw (o, le-ltb _ _ h) (ap (λ (ns : List ℕ). Ok (place_of (find ns k))) (sym (numbers_held m)))

past_none : {A : Type 0} (l : List A) (j : ℕ) → length l ≤ j → get_elem? l j ≡ none
past_none [] j h = refl
past_none (x ∷ xs) zero h = absurd (omega arith)
past_none (x ∷ xs) (suc j) h = past_none xs j (omega arith)

junctions_few : (m : Memory) → length (junctions_of m) ≤ m.ynd.junction_count
unfolding junctions_of
junctions_few m =
    omega (
      arith,
      length-map (take m.ynd.junction_count m.junctions)
          (junction_with (take m.ynd.heightmap_count m.heights)),
      length-take m.ynd.junction_count m.junctions,
    )

-- the junction at the place that `junction_of` gives is the cell's
pub junction_held : (m : Memory) (a k : ℕ) → over_limit m.ynd ≡ false → m.ynd.node_count ≤ length m.nodes
    → m.ynd.ref_count ≤ length m.refs
    → junction_of (cell_of m) a k ≡ at_place (junctions_of m) (junction_of_call m.ynd m.nodes m.refs a k)
unfolding junction_of_call junction_of cell_of ref_in refs_of nodes_causes
junction_held m a k o hn hr =
    rw (o, le-ltb _ _ hn, le-ltb _ _ hr)
    (ap (λ (own : ℕ). junction_at (junctions_of m) (ref_of own (take m.ynd.ref_count m.refs) a k))
    (area_held m)
    ∙ go (ref_of (first_area (take m.ynd.node_count m.nodes)) (take m.ynd.ref_count m.refs) a k))
  where
    go : (o : Option ℕ) → junction_at (junctions_of m) o
        ≡ at_place (junctions_of m) (Ok (below m.ynd.junction_count (place_of o)))
    go none = refl
    go (some j) = by_test (ltb j m.ynd.junction_count) (λ t. rw t)
        (λ f. rw f (past_none (junctions_of m) j (omega (arith, ltb-false j m.ynd.junction_count f, junctions_few m))))
