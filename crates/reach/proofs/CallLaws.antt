-- T-01's and T-08's sentences, of the calls `within` and `nearest` themselves. Assumes nothing.
use Prim.Native.Nat.{ℕ, ◌+◌, ◌*◌, ◌<◌, ◌≤◌}
use native.Mathlib.Omega.{arith}
use mathlib.Core.Path.{◌≡◌, refl, ap, sym, ◌∙◌, subst}
use mathlib.Core.Bool.{Bool, true, false, cond}
use mathlib.Core.Logic.{⊎_elim}
use mathlib.Core.List.{List, [], ◌∷◌, ◌++◌}
use mathlib.Core.Option.{Option, none, some}
use lib.Dec.{ltb}
use lib.IntN.{ℤ}
use lib.ListN.{length, take, drop, get_or}
use lib.Seq.{take_at, drop_at, get_or-take}
use borrow.Author.Tests.{le-ltb}
use Rattle.numbers.specs.Refusals.{Answer, when, decided, unless}
use Rattle.cells.specs.declared.ynd.Ynd.{Ynd}
use Rattle.cells.specs.Memory.{over_limit, nodes_causes}
use Rattle.reach.specs.Reach.{stored, distances, within, nearest_of, places_within, near, times}
use Rattle.reach.specs.Reach.{Precedes}
use Rattle.reach.specs.Reach.{Left, left, listed, within_causes, within_call, nearest_answer}
use Rattle.reach.specs.Reach.{nearest_call}
use Rattle.reach.specs.declared.reach.NearestNode.{NearestNode}
use Rattle.reach.proofs.DistanceLaws.{on_spot, spot}
use Rattle.reach.proofs.ListedLaws.{times_more, some_listed, first_listed, within_once, once_is, once_if}
use Rattle.reach.proofs.OrderLaws.{ordered_same, ordered_up, ordered_first, Before, strictly}
use Rattle.reach.proofs.NearestLaws.{Nearest, nearest_is, nearest_none, none_nearest}
use Rattle.std.specs.Prelude.{Result, Ok, Err, Some, None}
use Rattle.numbers.specs.declared.refusal.Refusal.{Refusal}
use Rattle.numbers.proofs.Refusing.{not_refused}
use Rattle.numbers.specs.declared.refusal.Refusal.TheVariants.{TooShort, AtLimit}
use Rattle.numbers.specs.declared.refusal.Lent.TheVariants as lent
use Rattle.cells.specs.declared.node_entry.NodeEntry.{NodeEntry}
use Rattle.cells.specs.Nodes.{no_entry}

-- ---- an accepted call, and a refused one

accepted : (l places after : List ℕ) (count : ℕ) (a : Answer) → listed a l places ≡ left (Ok count) after
    → (length l ≡ count) × (l ++ drop (length l) places ≡ after)
accepted l places after count (Ok _) e =
    let f : ◌≡◌ {A = Result ℕ Refusal} (Ok (length l)) (Ok count) = ap (λ (r : Left). r.answer) e in
    (cc, ap (λ (r : Left). r.places) e)
accepted l places after count (Err n) e =
    not_refused (ap (λ (r : Left). r.answer) e)

refused : (l places after : List ℕ) (c : Refusal) (a : Answer) → listed a l places ≡ left (Err c) after
    → after ≡ places
refused l places after c (Ok _) e = not_refused (sym (ap (λ (r : Left). r.answer) e))
refused l places after c (Err n) e = sym (ap (λ (r : Left). r.places) e)

-- an accepted call has passed each test
passed : (t u v : Bool) (l places after : List ℕ) (count : ℕ)
    → listed (decided (when t AtLimit ∷ when u (TooShort lent.Nodes) ∷ when v (TooShort lent.List) ∷ [])) l places
    ≡ left (Ok count) after
    → (t ≡ false) × (u ≡ false)
passed false false v l places after count e = (refl, refl)
passed true u v l places after count e =
    not_refused (ap (λ (r : Left). r.answer) e)
passed false true v l places after count e =
    not_refused (ap (λ (r : Left). r.answer) e)

-- ---- within

at_most_one : (t : Bool) → cond t 1 0 ≤ 1
at_most_one true = omega arith
at_most_one false = omega arith

head_listed : (l : List ℕ) → 0 < length l → 0 < times (get_or l 0 0) l
head_listed [] h = absurd (omega arith)
head_listed (x ∷ xs) h = omega (arith, times_more x xs)

-- what the causes come to, of a call that lists l
abbrev within_decided : Ynd → List NodeEntry → List ℕ → List ℕ → Answer
within_decided ynd nodes l places = decided (within_causes ynd (length nodes) (length l) (length places))

module _ (ynd : Ynd) (nodes : List NodeEntry) (x y : ℤ) (radius : ℕ) (places after : List ℕ) where
  -- a refusal changes nothing
  pub refused_stays : (c : Refusal) → within_call ynd nodes x y radius places ≡ left (Err c) after
      → after ≡ places
  unfolding within_call
  refused_stays c h =
      let l = places_within ynd nodes x y radius in
      refused l places after c (within_decided ynd nodes l places) h

  module _ (count : ℕ) (h : within_call ynd nodes x y radius places ≡ left (Ok count) after) where
    both : (length (places_within ynd nodes x y radius) ≡ count)
        × (places_within ynd nodes x y radius ++ drop (length (places_within ynd nodes x y radius)) places ≡ after)
    unfolding within_call
    both =
        let l = places_within ynd nodes x y radius in
        accepted l places after count (within_decided ynd nodes l places) h

    first_entries : take count after ≡ places_within ynd nodes x y radius
    first_entries =
        let l = places_within ynd nodes x y radius in
        ap (take count) (sym both.1) ∙ take_at l (drop (length l) places) count both.0

    -- later entries stay
    pub rest_stays : drop count after ≡ drop count places
    rest_stays =
        let l = places_within ynd nodes x y radius in
        ap (drop count) (sym both.1) ∙ drop_at l (drop (length l) places) count both.0
        ∙ ap (λ (k : ℕ). drop k places) both.0

    -- T-01: a place is listed exactly if its node is within reach, and then once
    pub listed_once : (p : ℕ) → times p (take count after) ≡ cond (near ynd nodes x y radius p) 1 0
    unfolding places_within
    listed_once p =
        let d = distances x y nodes in
        ap (times p) first_entries ∙ ordered_same d p (within d radius ynd.node_count)
        ∙ within_once d radius ynd.node_count p

    -- every node within reach
    pub listed_near : (p : ℕ) → p < ynd.node_count → distances x y nodes p ≤ radius * radius
        → times p (take count after) ≡ 1
    listed_near p lt le =
        listed_once p ∙ once_if p ynd.node_count (distances x y nodes p) (radius * radius) lt le

    -- and no other
    pub listed_only : (p : ℕ) → 0 < times p (take count after)
        → (p < ynd.node_count) × (distances x y nodes p ≤ radius * radius)
    listed_only p t = once_is p ynd.node_count (distances x y nodes p) (radius * radius) (rw (listed_once p) at t)

    -- the count is the list's
    pub listed_long : length (take count after) ≡ count
    listed_long = ap length first_entries ∙ both.0

    tests : (over_limit ynd ≡ false) × (ltb (length nodes) ynd.node_count ≡ false)
    unfolding within_call within_causes nodes_causes
    tests =
        let l = places_within ynd nodes x y radius in
        passed (over_limit ynd) (ltb (length nodes) ynd.node_count) (ltb (length places) (length l)) l places
        after count h

    entry : (k : ℕ) → k < count → get_or (places_within ynd nodes x y radius) k 0 ≡ get_or after k 0
    entry k lt = ap (λ (l : List ℕ). get_or l k 0) (sym first_entries) ∙ get_or-take count after k 0 lt

    entry_once : (p : ℕ) → times p (places_within ynd nodes x y radius) ≤ 1
    entry_once p =
        omega (
          arith,
          ap (times p) first_entries,
          listed_once p,
          at_most_one (near ynd nodes x y radius p),
        )

    entry_up : (i : ℕ) → i + 1 < length (places_within ynd nodes x y radius)
        → let l = places_within ynd nodes x y radius
        in Before (distances x y nodes) (get_or l i 0) (get_or l (i + 1) 0)
    unfolding places_within
    entry_up i lt = ordered_up (distances x y nodes) (within (distances x y nodes) radius ynd.node_count) i lt

    -- T-08: neighbours ascend: the first is less far, or as far and a lower place
    pub listed_ascending : (i : ℕ) → i + 1 < count
        → Precedes (distances x y nodes) (get_or after i 0) (get_or after (i + 1) 0)
    listed_ascending i lt =
        let d = distances x y nodes in
        let l = places_within ynd nodes x y radius in
        let long : i + 1 < length l = omega (arith, both.0) in
        subst (λ (p : ℕ). Precedes d p (get_or after (i + 1) 0)) (entry i (omega arith))
        (subst (λ (q : ℕ). Precedes d (get_or l i 0) q) (entry (i + 1) lt)
        (strictly d l i long entry_once (entry_up i long)))

    -- T-01: radius 0 lists exactly the nodes on that spot
    pub spot_listed : radius ≡ 0 → (p : ℕ) → p < ynd.node_count
        → x ≡ (stored (get_or nodes p no_entry)).x → y ≡ (stored (get_or nodes p no_entry)).y
        → times p (take count after) ≡ 1
    unfolding distances
    spot_listed zero p lt e f = listed_near p lt (omega (arith, spot x y (get_or nodes p no_entry) e f))

    pub spot_only : radius ≡ 0 → (p : ℕ) → 0 < times p (take count after)
        → (x ≡ (stored (get_or nodes p no_entry)).x) × (y ≡ (stored (get_or nodes p no_entry)).y)
    unfolding distances
    spot_only zero p t =
        let r : radius * radius ≡ 0 = ap (λ (k : ℕ). k * k) zero in
        on_spot x y (get_or nodes p no_entry) (omega (arith, (listed_only p t).1))

-- ---- nearest

at_answer : (d : ℕ → ℕ) (q s : ℕ) (a : Answer) (o : Option ℕ)
    → unless a (nearest_answer d o) ≡ Ok (Some (record { place = q; square = s })) → (o ≡ some q) × (s ≡ d q)
at_answer d q s (Ok _) (some p) e =
    let n : ◌≡◌ {A = NearestNode} (record { place = p; square = d p }) (record { place = q; square = s }) = cc in (
      ap (λ (r : NearestNode). some r.place) n,
      sym (ap (λ (r : NearestNode). r.square) n) ∙ ap (λ (r : NearestNode). d r.place) n,
    )
at_answer d q s (Ok _) none e = let z : ◌≡◌ {A = ℕ} 0 1 = cc in absurd (omega arith)
at_answer d q s (Err n) o e = not_refused e

no_answer : (d : ℕ → ℕ) (a : Answer) (o : Option ℕ)
    → unless a (nearest_answer d o) ≡ Ok None → o ≡ none
no_answer d (Ok _) (some p) e = let z : ◌≡◌ {A = ℕ} 0 1 = cc in absurd (omega arith)
no_answer d (Ok _) none e = refl
no_answer d (Err n) o e = not_refused e

module _ (ynd : Ynd) (nodes : List NodeEntry) (x y : ℤ) where
  -- T-01: none exactly for the empty cell, one way
  pub nothing_empty : nearest_call ynd nodes x y ≡ Ok None → ynd.node_count ≡ 0
  unfolding nearest_call
  nothing_empty h =
      let d = distances x y nodes in
      nearest_none d ynd.node_count
      (no_answer d (decided (nodes_causes ynd (length nodes))) (nearest_of d ynd.node_count) h)

  -- and the other; a struct with too many junctions is refused, whatever its nodes
  pub empty_nothing : over_limit ynd ≡ false → ynd.node_count ≡ 0 → nearest_call ynd nodes x y ≡ Ok None
  unfolding nearest_call nodes_causes
  empty_nothing o e =
      let held = le-ltb (length nodes) ynd.node_count (omega arith) in
      rw (o, held, none_nearest (distances x y nodes) ynd.node_count e) refl

  module _ (q s : ℕ) (h : nearest_call ynd nodes x y ≡ Ok (Some (record { place = q; square = s }))) where
    taken : (nearest_of (distances x y nodes) ynd.node_count ≡ some q) × (s ≡ distances x y nodes q)
    unfolding nearest_call
    taken =
        let d = distances x y nodes in
        at_answer d q s (decided (nodes_causes ynd (length nodes))) (nearest_of d ynd.node_count) h

    -- its squared distance comes with it
    pub nearest_distance : s ≡ distances x y nodes q
    nearest_distance = taken.1

    -- T-01: the least squared distance, the lowest place where equal
    pub nearest_least : Nearest (distances x y nodes) ynd.node_count q
    nearest_least = nearest_is (distances x y nodes) ynd.node_count q taken.0

    -- ---- both calls

    module _ (radius count : ℕ) (places after : List ℕ)
        (l : within_call ynd nodes x y radius places ≡ left (Ok count) after) where
      -- the nearest is listed where it is within reach
      pub nearest_listed : s ≤ radius * radius → times q (take count after) ≡ 1
      nearest_listed near =
          let d : distances x y nodes q ≤ radius * radius = omega (arith, nearest_distance) in
          listed_near ynd nodes x y radius places after count l q nearest_least.place d

      -- it is within reach exactly if the list is not empty
      pub within_some : s ≤ radius * radius → 0 < count
      within_some near = omega (
        arith,
        some_listed (take count after) q (omega (arith, nearest_listed near)),
        listed_long ynd nodes x y radius places after count l,
      )

      pub some_within : 0 < count → s ≤ radius * radius
      some_within f =
          let whole = listed_long ynd nodes x y radius places after count l in
          let long : 0 < length (take count after) = omega (arith, whole) in
          first_listed (take count after) long (λ p t.
          let in_List = listed_only ynd nodes x y radius places after count l p t in
          omega (arith, nearest_distance, nearest_least.least p in_List.0, in_List.1))

      -- and no listed place is nearer
      pub none_nearer : (p : ℕ) → 0 < times p (take count after) → s ≤ distances x y nodes p
      none_nearer p t =
          let in_List = listed_only ynd nodes x y radius places after count l p t in
          omega (arith, nearest_distance, nearest_least.least p in_List.0)

-- ---- the first entry

module _ (ynd : Ynd) (nodes : List NodeEntry) (x y : ℤ) (radius : ℕ) (places after : List ℕ) (count : ℕ)
    (h : within_call ynd nodes x y radius places ≡ left (Ok count) after) (pos : 0 < count) where
  head_near : (get_or (take count after) 0 0 < ynd.node_count)
      × (distances x y nodes (get_or (take count after) 0 0) ≤ radius * radius)
  head_near =
      let l = take count after in
      let long : 0 < length l = omega (arith, listed_long ynd nodes x y radius places after count h) in
      listed_only ynd nodes x y radius places after count h (get_or l 0 0) (head_listed l long)

  head_before : (q : ℕ) → 0 < times q (take count after)
      → Before (distances x y nodes) (get_or (take count after) 0 0) q
  unfolding places_within
  head_before q t =
      let d = distances x y nodes in
      let e = first_entries ynd nodes x y radius places after count h in
      subst (λ (l : List ℕ). Before d (get_or l 0 0) q) (sym e)
      (ordered_first d (within d radius ynd.node_count) q (omega (arith, ap (times q) e)))

  -- the head is the nearest: it is listed first, and the nearest is listed
  head_nearest : (q : ℕ) → Nearest (distances x y nodes) ynd.node_count q → get_or (take count after) 0 0 ≡ q
  head_nearest q n =
      let d = distances x y nodes in
      let f = get_or (take count after) 0 0 in
      let least = n.least f head_near.0 in
      let in_reach : d q ≤ radius * radius = omega (arith, least, head_near.1) in
      let t = listed_near ynd nodes x y radius places after count h q n.place in_reach in
      ⊎_elim
      (λ less. absurd (omega (arith, less, least)))
      (λ b. omega (arith, b.1, n.lowest f head_near.0 b.0))
      (head_before q (omega arith))

  nearest_head : nearest_of (distances x y nodes) ynd.node_count ≡ some (get_or (take count after) 0 0)
  nearest_head = go (nearest_of (distances x y nodes) ynd.node_count) refl
    where
      go : (o : Option ℕ) → nearest_of (distances x y nodes) ynd.node_count ≡ o
          → o ≡ some (get_or (take count after) 0 0)
      go none e =
          absurd (omega (arith, nearest_none (distances x y nodes) ynd.node_count e, head_near.0))
      go (some q) e =
          ap some (sym (head_nearest q (nearest_is (distances x y nodes) ynd.node_count q e)))

  -- T-08: the first entry is what `nearest` gives
  pub first_nearest : nearest_call ynd nodes x y
      ≡ Ok (Some (record { place = get_or after 0 0; square = distances x y nodes (get_or after 0 0) }))
  unfolding nearest_call nodes_causes
  first_nearest =
      let d = distances x y nodes in
      let t = tests ynd nodes x y radius places after count h in
      let e : get_or (take count after) 0 0 ≡ get_or after 0 0 = get_or-take count after 0 0 pos in
      let n : nearest_of d ynd.node_count ≡ some (get_or after 0 0) = nearest_head ∙ ap some e in
      rw (t.0, t.1, n) refl
