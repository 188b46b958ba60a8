-- The scratch as a map from numbers to places. It is never cleared: an entry counts if the node there has the number.
use Prim.Native.Nat.{ℕ, suc, ◌+◌, ◌≤◌, ◌<◌}
use native.Mathlib.Omega.{arith}
use native.Mathlib.Numerals.{add-one}
use native.Mathlib.Nat.{zero-add, suc-add, add-suc, add-zero}
use mathlib.Core.Path.{◌≡◌, refl, ap, sym, ◌∙◌}
use mathlib.Core.Bool.{Bool, true, false}
use mathlib.Core.List.{List, [], ◌∷◌, ◌++◌, map}
use lib.Dec.{eqb}
use borrow.Author.Tests.{eqb-true, eqb-false}
use Rattle.std.specs.List.{list_all, enumerate_from}
use Rattle.std.proofs.lemmas.List.FromFn.{get_or-enumerate_from, length-enumerate_from}
use Rattle.std.proofs.lemmas.List.{map_push}
use Rattle.std.proofs.lemmas.List.Recursion.{and_at}
use lib.ListN.{length, get_or, set, take, length-map, get_or-map}
use lib.Seq.{take-suc, length-take-le, take_all}
use Rattle.cells.specs.Nodes.{number_of, no_entry}
use Rattle.cells.specs.declared.node_entry.NodeEntry.{NodeEntry}
use Rattle.cells.specs.Lookup.{first_with, is_some}
use Rattle.cells.specs.LookupCall.{numbers_in}
use Rattle.cells.specs.RenumberParts.{Indexed, Leads}
use Rattle.cells.proofs.Renumbering.Named as cells
use Rattle.cells.proofs.Sequences.Tests.{by_test, true_false}
use Rattle.walks.specs.Sound.{differing}
use Rattle.walks.specs.SoundCall.{indexed}
use Rattle.walks.specs.SoundParts.{all_numbers}
use Rattle.walks.proofs.Numbers.{named_has, last_is}

-- ---- the scratch, number by number

pub index_starts : (nodes : List NodeEntry) (s : List ℕ) → Indexed (numbers_in 0 nodes) s
unfolding numbers_in
index_starts nodes s = cells.index_starts s

pub index_turn : (nodes : List NodeEntry) (i k : ℕ) (s : List ℕ) → i < length nodes → k
    ≡ number_of (get_or nodes i no_entry) → k < length s
    → Indexed (numbers_in i nodes) s → Indexed (numbers_in (i + 1) nodes) (set s k i)
unfolding numbers_in
index_turn nodes i k s lt e hk ix = cells.index_turn nodes i k s no_entry lt e hk ix

indexed_snoc : (ks : List ℕ) (x i : ℕ) (s : List ℕ) → indexed (ks ++ (x ∷ [])) i s
    ≡ set (indexed ks i s) x (i + length ks)
unfolding indexed
indexed_snoc [] x i s = rw add-zero
indexed_snoc (k ∷ ks) x i s = indexed_snoc ks x (suc i) (set s k i) ∙ rw (suc-add, add-suc)

pub indexed_start : (nodes : List NodeEntry) (s : List ℕ) → s ≡ indexed (numbers_in 0 nodes) 0 s
unfolding indexed numbers_in
indexed_start nodes s = refl

pub indexed_turn : (nodes : List NodeEntry) (i k : ℕ) (s now : List ℕ) → i < length nodes → k
    ≡ number_of (get_or nodes i no_entry) → now ≡ indexed (numbers_in i nodes) 0 s
    → set now k i ≡ indexed (numbers_in (i + 1) nodes) 0 s
unfolding numbers_in
indexed_turn nodes i k s now lt e h =
    let long : length (map number_of (take i nodes)) ≡ i = length-map (take i nodes) number_of
    ∙ length-take-le i nodes (omega arith) in
    rw (add-one, take-suc nodes i no_entry lt, map_push, ← e, indexed_snoc, long, zero-add, h)

-- ---- the numbers

number_in : (nodes : List NodeEntry) (t : ℕ) → t < length nodes → get_or (all_numbers nodes) t 0
    ≡ number_of (get_or nodes t no_entry)
number_in nodes t lt = get_or-map number_of nodes t no_entry

pub numbers_long : (n : ℕ) (nodes : List NodeEntry) → n ≤ length nodes → length (numbers_in n nodes) ≡ n
unfolding numbers_in
numbers_long n nodes h = length-map (take n nodes) number_of ∙ length-take-le n nodes h

-- the numbers of the first n nodes are all of theirs
pub all_front : (n : ℕ) (nodes : List NodeEntry) → all_numbers (take n nodes) ≡ numbers_in n nodes
unfolding numbers_in
all_front n nodes = refl

-- the numbers differ if no two places have the same
differ_yes : (ns : List ℕ) → ((i j : ℕ) → i < length ns → j < length ns → get_or ns i 0 ≡ get_or ns j 0 → i ≡ j)
    → differing ns ≡ true
unfolding differing
differ_yes [] h = refl
differ_yes (n ∷ ns) h =
    rw (differ_yes ns (λ i j a b e. let z : suc i
    ≡ suc j = h (suc i) (suc j) (omega arith) (omega arith) e in omega arith))
    (by_test (is_some (first_with ns n))
    (λ t.
    let r = named_has ns n t in
    let z : 0 ≡ suc r.0 = h 0 (suc r.0) (omega arith) (omega (arith, r.1.inside)) (sym r.1.number) in
    absurd (omega arith))
    (λ f. rw f))

pub all_taken : (nodes : List NodeEntry) (i : ℕ) → i ≡ length nodes → numbers_in i nodes ≡ all_numbers nodes
unfolding numbers_in
all_taken nodes i e = ap (map number_of) (take_all i nodes (omega arith))

-- ---- a test of each entry with its place

each_place : {A : Type 0} (f : ℕ × A → Bool) (d : A) (l : List A) (i : ℕ) → list_all f (enumerate_from i l) ≡ true
    → (j : ℕ) → j < length l → f (i + j, get_or l j d) ≡ true
each_place f d l i h j lt =
    ap f (sym (get_or-enumerate_from i l j (0, d) lt))
    ∙ and_at (list_all f) f refl (λ _ _. refl) (enumerate_from i l) j (0, d)
    (omega (arith, length-enumerate_from i l)) h

some_place : {A : Type 0} (f : ℕ × A → Bool) (d : A) (l : List A) (i : ℕ) → list_all f (enumerate_from i l) ≡ false
    → (j : ℕ) × (j < length l) × (f (i + j, get_or l j d) ≡ false)
some_place f d [] i h = true_false h
some_place f d (x ∷ xs) i h = by_test (f (i, x))
    (λ t. let r = some_place f d xs (i + 1) (rw t at h) in
    let e : i + suc r.0 ≡ i + 1 + r.0 = omega arith in
    (suc r.0, omega (arith, r.1), ap (λ (k : ℕ). f (k, get_or xs r.0 d)) e ∙ r.2))
    (λ g. (0, omega arith, rw add-zero g))

-- the scratch leads from a node's number to its place
abbrev pub leads_back : List ℕ → ℕ × NodeEntry → Bool
leads_back s p = eqb (get_or s (number_of p.1) 0) p.0

-- ---- by the scratch

module _ (nodes : List NodeEntry) (s : List ℕ) (r : Leads (all_numbers nodes) s) where
  long : length (all_numbers nodes) ≡ length nodes
  long = length-map nodes number_of

  pub differ_all : ((j : ℕ) → j < length nodes → get_or s (number_of (get_or nodes j no_entry)) 0 ≡ j) → true
      ≡ differing (all_numbers nodes)
  differ_all h = sym (differ_yes (all_numbers nodes) (λ i j a b e.
      let a' : i < length nodes = omega (arith, long) in
      let b' : j < length nodes = omega (arith, long) in
      sym (h i a') ∙ ap (λ (k : ℕ). get_or s k 0) (sym (number_in nodes i a') ∙ e ∙ number_in nodes j b') ∙ h j b'))

  pub differ_not : (i : ℕ) → i < length nodes → (get_or s (number_of (get_or nodes i no_entry)) 0 ≡ i → ⊥) → false
      ≡ differing (all_numbers nodes)
  differ_not i lt ne = by_test (differing (all_numbers nodes))
      (λ t. absurd (ne (r.indexed.at _ i (last_is (all_numbers nodes) (number_of (get_or nodes i no_entry)) i t
      (record { inside = omega (arith, long); number = number_in nodes i lt })))))
      (λ f. sym f)

  -- what a test of each node with its place says
  pub differ_told : list_all (leads_back s) (enumerate_from 0 nodes) ≡ differing (all_numbers nodes)
  differ_told = by_test (list_all (leads_back s) (enumerate_from 0 nodes))
      (λ t. t ∙ differ_all (λ j lt. eqb-true _ _ (each_place (leads_back s) no_entry nodes 0 t j lt) ∙ zero-add j))
      (λ f. let x = some_place (leads_back s) no_entry nodes 0 f in f
      ∙ differ_not x.0 x.1 (λ q. eqb-false _ _ x.2 (q ∙ sym (zero-add x.0))))

-- for the function that makes the index
pub ruleset index_laws = (index_starts, index_turn, indexed_start, indexed_turn, all_taken)
