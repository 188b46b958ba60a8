-- A table with the new number of each number.
use Rattle.std.proofs.lemmas.List.{map-append}
use Prim.Native.Nat.{ℕ, ◌+◌, ◌≤◌, ◌<◌}
use native.Mathlib.Omega.{arith}
use native.Mathlib.Numerals.{add-one}
use native.Mathlib.Nat.{zero-add}
use mathlib.Core.Path.{◌≡◌, refl, ap, sym, ◌∙◌}
use mathlib.Core.Bool.{Bool}
use mathlib.Core.List.{List, [], ◌∷◌, ◌++◌, map}
use mathlib.Core.Option.{Option, none, some}
use lib.Dec.{eqb}
use lib.ListN.{length, get_or, set, take, drop, length-map, get_or-append}
use lib.Seq.{take_all, take-suc, length-take-le, get_or-set_same, get_or-set_other, ext_get_or, take-length}
use borrow.Author.Tests.{eqb-true, eqb-false, le-ltb}
use Rattle.cells.specs.Order.{Old, last_with, place_or, new_place, new_number, new_places, listed}
use Rattle.cells.specs.Nodes.{number_of, is_ped, old_of}
use Rattle.cells.specs.NewNumbers.{new_numbers, numbers_left, numbers_call, numbers_causes}
use Rattle.cells.proofs.Sequences.Tests.{by_test}
use Rattle.cells.proofs.Sequences.Ranks.{listed_length, listed_at}
use Rattle.cells.proofs.Renumbering.Named.{pick, last_snoc, last_inside}
use Rattle.cells.proofs.Renumbering.Placed.{new_at}
use Rattle.std.specs.Prelude.{Ok}
use Rattle.cells.specs.declared.node_entry.NodeEntry.{NodeEntry}

-- the first n nodes, as a list of their own
pub old_front : (n : ℕ) (nodes : List NodeEntry) → old_of (length (take n nodes)) (take n nodes) ≡ old_of n nodes
unfolding old_of
old_front n nodes = rw (take-length (take n nodes))

-- the new number by the first i nodes, of all of which these are the ped flags
abbrev pub so_far : List Bool → List NodeEntry → ℕ → ℕ → ℕ
so_far peds nodes i k = place_or peds (last_with (map number_of (take i nodes)) k) k

-- one node more
pub table_turn : (peds : List Bool) (nodes : List NodeEntry) (i x q : ℕ) (t : List ℕ) (z : NodeEntry) → i < length nodes
    → x ≡ number_of (get_or nodes i z) → x < length t → q ≡ new_place peds i
    → ((k : ℕ) → k < 65536 → get_or t k 0 ≡ so_far peds nodes i k)
    → (k : ℕ) → k < 65536 → get_or (set t x q) k 0 ≡ so_far peds nodes (i + 1) k
table_turn peds nodes i x q t z lt e hx is h k hk =
    let ns = map number_of (take i nodes) in
    let long : length ns ≡ i = length-map (take i nodes) number_of ∙ length-take-le i nodes (omega arith) in
    let next : map number_of (take (i + 1) nodes) ≡ ns ++ (x ∷ []) =
    rw (add-one, take-suc nodes i z lt, map-append, ← e) in
    let last : last_with (map number_of (take (i + 1) nodes)) k ≡ pick (eqb x k) i (last_with ns k) =
    ap (λ (l : List ℕ). last_with l k) next ∙ last_snoc ns x k
    ∙ ap (λ (n : ℕ). pick (eqb x k) n (last_with ns k)) long in
    by_test (eqb x k)
    (λ y.
    let same : x ≡ k = eqb-true x k y in
    let found : last_with (map number_of (take (i + 1) nodes)) k ≡ some i =
    last ∙ ap (λ (b : Bool). pick b i (last_with ns k)) y in
    ap (λ (m : ℕ). get_or (set t x q) m 0) (sym same) ∙ get_or-set_same t x q 0 hx ∙ is
    ∙ sym (ap (λ (o : Option ℕ). place_or peds o k) found))
    (λ f.
    let found : last_with (map number_of (take (i + 1) nodes)) k ≡ last_with ns k =
    last ∙ ap (λ (b : Bool). pick b i (last_with ns k)) f in
    get_or-set_other t x k q 0 (λ d. eqb-false x k f (sym d)) ∙ h k hk
    ∙ sym (ap (λ (o : Option ℕ). place_or peds o k) found))

-- all nodes
pub table_all : (nodes : List NodeEntry) (i : ℕ) → i ≡ length nodes → (k : ℕ)
    → so_far (map is_ped nodes) nodes i k ≡ new_number (old_of (length nodes) nodes) k
unfolding new_number old_of
table_all nodes i e k =
    ap (λ (m : ℕ). so_far (map is_ped nodes) nodes m k) e
    ∙ ap (λ (l : List NodeEntry). place_or (map is_ped l) (last_with (map number_of (take (length nodes) nodes)) k)
    k) (sym (take_all (length nodes) nodes (omega arith)))

-- a list whose elements are told
told_all : (f : ℕ → ℕ) (n : ℕ) (l : List ℕ) → length l ≡ n → ((k : ℕ) → k < n → get_or l k 0 ≡ f k) → l ≡ listed f 0 n
told_all f n l h told =
    ext_get_or 0 l (listed f 0 n) (h ∙ sym (listed_length f 0 n))
    (λ k lt. let hk : k < n = omega arith in told k hk ∙ sym (listed_at f 0 n k 0 hk ∙ ap f (zero-add k)))

-- an accepted call
pub call_done : (n : ℕ) (nodes : List NodeEntry) (table places t p : List ℕ)
    → n ≤ 65536 → n ≤ length nodes → 65536 ≤ length table → n ≤ length places
    → length t ≡ 65536 → ((k : ℕ) → k < 65536 → get_or t k 0
    ≡ new_number (old_of (length (take n nodes)) (take n nodes)) k)
    → p ≡ new_places (map is_ped (take n nodes))
    → numbers_left (Ok tt) (t ++ drop 65536 table) (p ++ drop n places) ≡ numbers_call n nodes table places
unfolding numbers_call numbers_causes new_numbers
call_done n nodes table places t p few h₀ h₆ h₇ long told ep =
    let et = told_all (new_number (old_of (length (take n nodes)) (take n nodes))) 65536 t long told in
    rw (
      le-ltb 65536 n few,
      le-ltb (length nodes) n h₀,
      le-ltb (length table) 65536 h₆,
      le-ltb (length places) n h₇,
      ← old_front n nodes,
    )
    (λ i. numbers_left (Ok tt) (et i ++ drop 65536 table) (ep i ++ drop n places))

pub table_long : (o : Old) → length (new_numbers o) ≡ 65536
unfolding new_numbers
table_long o = listed_length (new_number o) 0 65536

-- what the table tells
pub table_tells : (o : Old) (t : List ℕ) (k : ℕ) → k < 65536
    → get_or (new_numbers o ++ drop 65536 t) k 0 ≡ new_number o k
unfolding new_numbers
table_tells o t k h =
    let long : length (listed (new_number o) 0 65536) ≡ 65536 = listed_length (new_number o) 0 65536 in
    get_or-append (listed (new_number o) 0 65536) (drop 65536 t) 0 k (omega arith)
    ∙ listed_at (new_number o) 0 65536 k 0 h ∙ ap (new_number o) (zero-add k)

-- a new number is a place or an old number, of 16 bits
pub new_few : (n : ℕ) (nodes : List NodeEntry) (k : ℕ) → n ≤ 65536 → n ≤ length nodes → k < 65536
    → new_number (old_of n nodes) k < 65536
unfolding new_number old_of
new_few n nodes k few h hk = go (last_with ns k) refl
  where
    ns : List ℕ
    ns = map number_of (take n nodes)

    go : (o : Option ℕ) → last_with ns k ≡ o → place_or (map is_ped (take n nodes)) o k < 65536
    go none e = hk
    go (some p) e =
        let long : length (take n nodes) ≡ n = length-take-le n nodes h in
        let inside : p < length (take n nodes) =
        omega (arith, (last_inside ns k p e).0, length-map (take n nodes) number_of) in
        omega (arith, (new_at (take n nodes) p inside).0)
