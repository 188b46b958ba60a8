-- Agreement of given sections by one test that antt computes.
-- Assumes nothing.
use Prim.Native.Nat.{ℕ, zero, suc, ◌+◌, ◌*◌, ◌/◌, ◌<◌}
use mathlib.Core.Path.{◌≡◌, refl}
use mathlib.Core.Bool.{Bool, true, false, not, ◌&&◌, ◌||◌}
use mathlib.Core.List.{List}
use lib.Dec.{leb, ltb, eqb}
use lib.ListN.{length}
use Rattle.std.proofs.lemmas.Bool.{agree_below, agree_below_at, and_from, and_parts, eqb-true, le-leb, lt-ltb}
use Rattle.std.proofs.lemmas.Bool.{ltb-true, not_from_false}
use Rattle.std.proofs.lemmas.Bool.Decides.{Decides-below_or}
use Rattle.records.specs.Bytes.{byte_at}
use Rattle.records.specs.Records.{node_at, junction_at}
use Rattle.cells.specs.Checks.{links_at, values_at}
use Rattle.agreement.specs.Agree.{left_out, InSomeNode, InSomeJunction, SameArrays, Agree}
use Rattle.cells.specs.FileCauses.{Arrays, arrays_of}

-- ---- tests

-- b, where a
abbrev pub implied : Bool → Bool → Bool
implied a b = not a || b

imply : (a b : Bool) → implied a b ≡ true → a ≡ true → b ≡ true
imply true b t s = t
imply false b t s = cc

-- some number below n passes
abbrev pub some : (ℕ → Bool) → ℕ → Bool
some f zero = false
some f (suc n) = f n || some f n

some_at : (f : ℕ → Bool) (n k : ℕ) → k < n → f k ≡ true → some f n ≡ true
some_at f n k h t = (Decides-below_or f (λ q. f q ≡ true) (some f) (λ q. ((λ e. e), (λ e. e))) refl (λ _. refl) n).1
    (k, h, t)

-- ---- the agreement

abbrev pub in_node : List ℕ → ℕ → Bool
in_node n k =
    some (λ i. leb (node_at n (i * 40)).link_id k && ltb k ((node_at n (i * 40)).link_id + links_at n i))
    (length n / 40)

abbrev pub in_junction : List ℕ → ℕ → Bool
in_junction j k =
    some (λ i. leb (junction_at j (i * 12)).heightmap_ptr k
    && ltb k ((junction_at j (i * 12)).heightmap_ptr + values_at j i)) (length j / 12)

-- the same bytes at the places that count, of the first so many
abbrev pub same : (ℕ → Bool) → ℕ → List ℕ → List ℕ → Bool
same counts n a b = agree_below (λ k. implied (counts k) (eqb (byte_at a k) (byte_at b k))) (λ _. true) n

unfoldable pub same_arrays : Arrays → Arrays → Bool
same_arrays a b =
    same (λ k. true) (length a.nodes) a.nodes b.nodes
    && (same (λ k. in_node a.nodes (k / 8)) (length a.links) a.links b.links
    && (same (λ k. true) (length a.junctions) a.junctions b.junctions
    && (same (λ k. in_junction a.junctions k) (length a.heights) a.heights b.heights
    && same (λ k. true) (length a.refs) a.refs b.refs)))

unfoldable pub agrees : List ℕ → List ℕ → List ℕ → List ℕ → Bool
agrees s g s' g' =
    eqb (length s) (length s')
    && (eqb (length g) (length g')
    && (ltb 0 (length s)
    && (same (λ k. not (left_out k)) 112 s s'
    && same_arrays (arrays_of s g) (arrays_of s' g'))))

same_at : (counts : ℕ → Bool) (n : ℕ) (a b : List ℕ) → same counts n a b ≡ true → (k : ℕ) → k < n → counts k ≡ true
    → byte_at a k ≡ byte_at b k
same_at counts n a b t k h c =
    eqb-true _ _ (imply (counts k) _ (agree_below_at (λ q. implied (counts q) (eqb (byte_at a q) (byte_at b q)))
    (λ _. true) n k t h) c)

in_node_law : (n : List ℕ) (k : ℕ) → InSomeNode n k → in_node n k ≡ true
in_node_law n k h =
    some_at (λ q. leb (node_at n (q * 40)).link_id k && ltb k ((node_at n (q * 40)).link_id + links_at n q))
    (length n / 40) h.node h.is_node
    (and_from _ _ (le-leb _ _ h.from) (lt-ltb _ _ h.before))

in_junction_law : (j : List ℕ) (k : ℕ) → InSomeJunction j k → in_junction j k ≡ true
in_junction_law j k h =
    some_at (λ q. leb (junction_at j (q * 12)).heightmap_ptr k
    && ltb k ((junction_at j (q * 12)).heightmap_ptr + values_at j q))
    (length j / 12) h.junction h.is_junction
    (and_from _ _ (le-leb _ _ h.from) (lt-ltb _ _ h.before))

pub same_arrays_law : (a b : Arrays) → same_arrays a b ≡ true → SameArrays a b
unfolding same_arrays
same_arrays_law a b t =
    let n = and_parts _ _ t in
    let l = and_parts _ _ n.1 in
    let j = and_parts _ _ l.1 in
    let h = and_parts _ _ j.1 in
    record {
      nodes = λ k lt. same_at (λ q. true) (length a.nodes) a.nodes b.nodes n.0 k lt refl;
      links = λ k lt c. same_at (λ q. in_node a.nodes (q / 8)) (length a.links) a.links b.links l.0 k lt
          (in_node_law a.nodes (k / 8) c);
      junctions = λ k lt. same_at (λ q. true) (length a.junctions) a.junctions b.junctions j.0 k lt refl;
      heights = λ k lt c. same_at (λ q. in_junction a.junctions q) (length a.heights) a.heights b.heights h.0 k lt
          (in_junction_law a.junctions k c);
      refs = λ k lt. same_at (λ q. true) (length a.refs) a.refs b.refs h.1 k lt refl;
    }

pub agree : (s g s' g' : List ℕ) → agrees s g s' g' ≡ true → Agree s g s' g'
unfolding agrees
agree s g s' g' t =
    let lengths = and_parts _ _ t in
    let graphics = and_parts _ _ lengths.1 in
    let some = and_parts _ _ graphics.1 in
    let root = and_parts _ _ some.1 in
    record {
      same_system = eqb-true _ _ lengths.0;
      same_graphics = eqb-true _ _ graphics.0;
      not_empty = ltb-true _ _ some.0;
      same_root = λ k h inside c. same_at (λ q. not (left_out q)) 112 s s' root.0 k h (not_from_false (left_out k) c);
      same_arrays = λ h. same_arrays_law (arrays_of s g) (arrays_of s' g') root.1;
    }
