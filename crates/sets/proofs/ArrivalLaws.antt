-- Links that name a member, by words, test by test.
use Rattle.std.proofs.Math.Bool.{and-true}
use Prim.Native.Nat.{ℕ, zero, suc, ◌<◌}
use native.Mathlib.Omega.{arith}
use mathlib.Core.Path.{◌≡◌, refl, ap, sym, ◌∙◌}
use mathlib.Core.Bool.{Bool, true, not, ◌&&◌, ◌||◌}
use native.Mathlib.Numerals.{add-one}
use mathlib.Core.List.{List, [], ◌∷◌, map}
use Rattle.std.specs.List.{list_all, range_with_len}
use Rattle.std.proofs.lemmas.List.Folds.{list_all-append, list_all-map}
use Rattle.std.proofs.lemmas.List.FromFn.{map-range_with_len_more}
use mathlib.Core.Option.{Option, none, some}
use lib.ListN.{length, take, drop}
use Rattle.cells.specs.Nodes.{number_of}
use borrow.Author.Tests.{eq-eqb, ne_eqb}
use Rattle.cells.specs.Lists.{every}
use Rattle.cells.specs.Lookup.{first_with, is_some}
use Rattle.cells.specs.LookupCall.{numbers_in}
use Rattle.sets.specs.Members.{member_for}
use Rattle.sets.specs.SetRenumber.{is_member}
use Rattle.sets.specs.Leave.{start_of}
use Rattle.sets.specs.SetParts.{named_of, count_of}
use Rattle.sets.specs.SetSoundParts.{all_below, word_meets, words_meet, numbers_of, part_meets}
use Rattle.std.specs.Prelude.{Some}
use Rattle.cells.specs.declared.link.PathLink.{PathLink}
use Rattle.cells.specs.declared.node_entry.NodeEntry.{NodeEntry}

-- ---- one link

module _ (all : List ℕ) (k : ℕ) (ks : List ℕ) (i : ℕ) (w : PathLink) where
  abbrev o : Option ℕ
  o = member_for all i w.area_id

  abbrev there : Bool
  there = is_some (first_with ks w.node_id)

  pub meets_it : Some k ≡ named_of o → there ≡ word_meets all k ks i w
  unfolding word_meets
  meets_it e = go o e
    where
      go : (r : Option ℕ) → Some k ≡ named_of r → there ≡ (not (is_member k r) || there)
      go (some q) e = let z : k ≡ q = cc in rw (eq-eqb q k (sym z))
      go none e = let z : ◌≡◌ {A = ℕ} 0 1 = cc in absurd (omega arith)

  pub meets_other : (Some k ≡ named_of o → ⊥) → true ≡ word_meets all k ks i w
  unfolding word_meets
  meets_other h = go o h
    where
      go : (r : Option ℕ) → (Some k ≡ named_of r → ⊥) → true ≡ (not (is_member k r) || there)
      go (some q) h = rw (ne_eqb q k (λ f. h (ap (λ (j : ℕ). Some j) (sym f))))
      go none h = refl

-- ---- a node's links

module _ (all : List ℕ) (k : ℕ) (ks : List ℕ) (i : ℕ) (links : List PathLink) (w : NodeEntry) where
  abbrev f : PathLink → Bool
  f = word_meets all k ks i

  pub its_links : {own : List PathLink} {start count : ℕ} → own ≡ take count (drop start links) → start ≡ w.link_id
      → count ≡ w.link_count → every f own ≡ words_meet all k ks i links w
  unfolding words_meet
  its_links eo es en = rw (eo, es, en)

-- ---- all of the first

pub below_yes : (f : ℕ → Bool) (n : ℕ) → ((j : ℕ) → j < n → f j ≡ true) → true ≡ all_below f n
unfolding all_below
below_yes f zero h = refl
below_yes f (suc n) h = rw (← below_yes f n (λ j lt. h j (omega arith)), h n (omega arith))

pub below_all : (f : ℕ → Bool) (n : ℕ) → list_all f (range_with_len 0 n) ≡ all_below f n
unfolding all_below
below_all f zero = refl
below_all f (suc n) =
    sym (list_all-map (λ b. b) f (range_with_len 0 (suc n)))
    ∙ ap (list_all (λ (b : Bool). b)) (ap (λ (k : ℕ). map f (range_with_len 0 k)) (sym (add-one n))
    ∙ map-range_with_len_more f 0 n n (omega arith))
    ∙ list_all-append (λ b. b) (map f (range_with_len 0 n)) (f n ∷ [])
    ∙ (λ i. (list_all-map (λ b. b) f (range_with_len 0 n) ∙ below_all f n) i && and-true (f n) i)

-- ---- the member that is named, by its own nodes

-- whether the links of each member that name the member k name one of these numbers
abbrev pub meets_by : List ℕ → List (List ℕ) → List NodeEntry → List PathLink → ℕ → List ℕ → ℕ → Bool
meets_by all ws nodes links k ks i =
    every (words_meet all k ks i (take (count_of 11 ws i) (drop (start_of 16 ws i) links)))
    (take (count_of 10 ws i) (drop (start_of 15 ws i) nodes))

pub meets_all : (all : List ℕ) (ws : List (List ℕ)) (nodes : List NodeEntry) (links : List PathLink) (k : ℕ)
    (T : List NodeEntry)
    → T ≡ take (count_of 10 ws k) (drop (start_of 15 ws k) nodes)
    → list_all (meets_by all ws nodes links k (map number_of T)) (range_with_len 0 (length ws))
    ≡ all_below (part_meets all ws nodes links k) (length ws)
unfolding part_meets numbers_of numbers_in
meets_all all ws nodes links k T e =
    ap (λ (ks : List ℕ). list_all (meets_by all ws nodes links k ks) (range_with_len 0 (length ws)))
    (ap (map number_of) e)
    ∙ below_all (part_meets all ws nodes links k) (length ws)
