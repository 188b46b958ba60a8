-- The links of the others corrected in place: part by part, once each.
use Rattle.std.proofs.Math.Bool.{and-false}
use Prim.Native.Nat.{ℕ, suc, ◌+◌, ◌-◌, ◌≤◌, ◌<◌}
use native.Mathlib.Omega.{arith}
use native.Mathlib.Numerals.{add-one}
use mathlib.Core.Path.{◌≡◌, refl, ap, sym, ◌∙◌}
use mathlib.Core.Bool.{Bool, true, false, not, ◌&&◌}
use mathlib.Core.List.{List, [], ◌∷◌, ◌++◌, map, append_assoc}
use lib.Dec.{eqb}
use lib.ListN.{length, get_or, take, drop, length-drop, length-append, drop_of_length-le}
use lib.Seq.{length-take-le, take_at, drop_at, drop-cons}
use Rattle.std.proofs.lemmas.List.{take-append-drop, take-take, drop-append-le}
use borrow.Author.Tests.{eqb-true}
use borrow.Rule.Slice.PartMut.{put_mid}
use Rattle.cells.specs.Area.{belongs}
use Rattle.cells.specs.Lookup.{first_with}
use Rattle.cells.specs.Nodes.{first_area}
use Rattle.cells.specs.Renumber.{over}
use Rattle.cells.proofs.Sequences.Tests.{by_test}
use Rattle.sets.specs.SetRenumber.{Change, is_member, meant, corrected, correct_link}
use Rattle.sets.specs.CellSet.{word}
use Rattle.sets.specs.Leave.{start_of}
use Rattle.sets.specs.SetParts.{count_of, Holding, areas_of}
use Rattle.sets.specs.RenumberMember.{correct_part, correct_parts}
use Rattle.sets.specs.CorrectParts.{relabelled, part_corrected}
use Rattle.sets.proofs.SetLists.{over_same, over_long}
use Rattle.sets.proofs.SetLaws.{not_meant, meant_of_area}
use Rattle.sets.proofs.PartLaws.{start_next, start_none, part_inside, part_below}
use Rattle.sets.proofs.CellSetLaws.{area_there}
use Rattle.cells.specs.declared.node_entry.NodeEntry.{NodeEntry}
use Rattle.cells.specs.declared.link.PathLink.{PathLink}

-- the area of a member, by where its part starts
pub area_at_start : {len : ℕ} (ws : List (List ℕ)) (nodes : List NodeEntry) (i start n : ℕ) → Holding 10 15 ws len
    → i < length ws
    → start ≡ start_of 15 ws i → n ≡ count_of 10 ws i
    → first_area (take n (drop start nodes)) ≡ get_or (areas_of ws nodes) i 0
area_at_start ws nodes i start n h lt es en =
    let le : n ≤ count_of 15 ws i = omega (arith, h.held i lt) in
    ap first_area (sym (take-take n (count_of 15 ws i) (drop start nodes) le))
    ∙ area_there ws nodes i start (count_of 15 ws i) n lt en refl (ap (λ (k : ℕ). drop k nodes) es)

-- ---- one part

module _ (x : Change) (i c : ℕ) (part : List PathLink) where
  pub part_own : eqb i x.member ≡ true → correct_part x i c part ≡ part
  part_own t = rw t

  pub part_other : eqb i x.member ≡ false → correct_part x i c part ≡ over (map (correct_link x i)) c part
  part_other f = rw f

  none_meant : eqb i x.member ≡ false → ((a : ℕ) → meant x i a ≡ false) → correct_part x i c part ≡ part
  unfolding corrected
  none_meant f h = part_other f ∙ over_same (correct_link x i) (λ w. rw (h w.area_id)) c part

  pub part_long : length (correct_part x i c part) ≡ length part
  part_long = by_test (eqb i x.member)
      (λ t. ap length (part_own t))
      (λ f. ap length (part_other f) ∙ over_long (correct_link x i) c part)

  module _ (area : ℕ) (is : area ≡ get_or x.areas x.member 0)
      (first : is_member x.member (first_with x.areas area) ≡ true)
      (f : eqb i x.member ≡ false) where
    by_area : (a : ℕ) → (b : Bool) → belongs (get_or x.areas i 0) area ≡ b → meant x i a ≡ not b && eqb a area
    by_area a b e = meant_of_area x area is first i a f ∙ by_test (eqb a area)
        (λ t. rw (eqb-true a area t, e))
        (λ g. rw g (and-false (not (belongs (get_or x.areas i 0) a)) ∙ sym (and-false (not b))))

    -- its own rule claims the area
    pub part_claimed : belongs (get_or x.areas i 0) area ≡ true → correct_part x i c part ≡ part
    part_claimed t = none_meant f (λ a. by_area a true t)

    pub part_named : belongs (get_or x.areas i 0) area ≡ false
        → correct_part x i c part ≡ over (map (relabelled x.old area)) c part
    unfolding corrected relabelled
    part_named u = part_other f ∙ (λ k. over (map (λ l. named l k)) c part)
      where
        named : (l : PathLink) → correct_link x i l ≡ relabelled x.old area l
        named l = rw (by_area l.area_id false u) (by_test (eqb l.area_id area) (λ t. rw t) (λ g. rw g))

-- ---- part by part

module _ (x : Change) (ws : List (List ℕ)) where
  abbrev s : ℕ → ℕ
  s i = start_of 16 ws i

  abbrev z : ℕ → ℕ
  z i = count_of 16 ws i

  -- what is left, corrected, gives the whole
  abbrev pub whole : ℕ → List PathLink → List PathLink
  whole i l = take (s i) l ++ correct_parts x i (drop i ws) (drop (s i) l)

  pub parts_start : (l : List PathLink) → whole 0 l ≡ correct_parts x 0 ws l
  parts_start l = ap (λ (k : ℕ). take k l ++ correct_parts x 0 ws (drop k l)) (start_none 16 ws)

  module _ (l l' : List PathLink) (i : ℕ) (lt : i < length ws)
      (fit : s i + z i ≤ length l) (e : l' ≡ part_corrected x ws i l) where
    abbrev D : List PathLink
    D = drop (s i) l

    abbrev P : List PathLink
    P = correct_part x i (count_of 11 ws i) (take (z i) D)

    long : length P ≡ z i
    long = part_long x i (count_of 11 ws i) (take (z i) D)
        ∙ length-take-le (z i) D (omega (arith, length-drop (s i) l))

    front : length (take (s i) l ++ P) ≡ s i + z i
    front = omega (arith, length-append (take (s i) l) P, length-take-le (s i) l (omega arith), long)

    regrouped : l' ≡ (take (s i) l ++ P) ++ drop (z i) D
    regrouped = e ∙ sym (append_assoc (take (s i) l) P (drop (z i) D))

    next : s (i + 1) ≡ s i + z i
    next = start_next 16 ws i lt

    one : correct_parts x i (drop i ws) D ≡ P ++ correct_parts x (i + 1) (drop (i + 1) ws) (drop (z i) D)
    unfolding correct_parts
    one = ap (λ (r : List (List ℕ)). correct_parts x i r D) (drop-cons ws i [] lt)
        ∙ ap (λ (k : ℕ). P ++ correct_parts x k (drop k ws) (drop (z i) D)) (sym (add-one i))

    pub parts_turn : whole i l ≡ whole (i + 1) l'
    parts_turn =
        ap (λ (r : List PathLink). take (s i) l ++ r) one
        ∙ sym (append_assoc (take (s i) l) P (correct_parts x (i + 1) (drop (i + 1) ws) (drop (z i) D)))
        ∙ (λ k. sym cut k ++ correct_parts x (i + 1) (drop (i + 1) ws) (sym rest k))
      where
        cut : take (s (i + 1)) l' ≡ take (s i) l ++ P
        cut = (λ k. take (next k) (regrouped k)) ∙ take_at (take (s i) l ++ P) (drop (z i) D) (s i + z i) front

        rest : drop (s (i + 1)) l' ≡ drop (z i) D
        rest = (λ k. drop (next k) (regrouped k)) ∙ drop_at (take (s i) l ++ P) (drop (z i) D) (s i + z i) front

  -- a part that stays
  pub part_stays : (l : List PathLink) (i : ℕ)
      → correct_part x i (count_of 11 ws i) (take (z i) (drop (s i) l)) ≡ take (z i) (drop (s i) l)
      → l ≡ part_corrected x ws i l
  part_stays l i e =
      sym (ap (λ (p : List PathLink). take (s i) l ++ (p ++ drop (z i) (drop (s i) l))) e
      ∙ ap (λ (p : List PathLink). take (s i) l ++ p) (take-append-drop (z i) (drop (s i) l))
      ∙ take-append-drop (s i) l)

  pub parts_end : (l : List PathLink) (i : ℕ) → length ws ≤ i → whole i l ≡ l
  unfolding correct_parts
  parts_end l i le =
      ap (λ (r : List (List ℕ)). take (s i) l ++ correct_parts x i r (drop (s i) l)) (drop_of_length-le ws le)
      ∙ take-append-drop (s i) l

-- a list changed from a part's start on is changed in that part alone, if no more is changed than the part has
pub part_over : {A : Type 0} (f : List A → List A) (c z : ℕ) (D : List A) → c ≤ z → z ≤ length D
    → over f c D ≡ over f c (take z D) ++ drop z D
part_over f c z D le fit =
    let back : drop c D ≡ drop c (take z D) ++ drop z D =
    ap (drop c) (sym (take-append-drop z D))
    ∙ drop-append-le c (take z D) (drop z D) (omega (arith, length-take-le z D fit)) in
    (λ k. f (sym (take-take c z D le) k) ++ back k)
    ∙ sym (append_assoc (f (take c (take z D))) (drop c (take z D)) (drop z D))

-- nothing is corrected where the member renumbered is not the first of its area
pub others_stay : (x : Change) → is_member x.member (first_with x.areas (get_or x.areas x.member 0)) ≡ false
    → (i : ℕ) (ws : List (List ℕ)) (l : List PathLink) → correct_parts x i ws l ≡ l
unfolding correct_parts
others_stay x later i [] l = refl
others_stay x later i (w ∷ ws) l =
    (λ k. stays k ++ others_stay x later (suc i) ws (drop (word 16 w) l) k) ∙ take-append-drop (word 16 w) l
  where
    stays : correct_part x i (word 11 w) (take (word 16 w) l) ≡ take (word 16 w) l
    stays = by_test (eqb i x.member)
        (λ t. part_own x i (word 11 w) (take (word 16 w) l) t)
        (λ f. none_meant x i (word 11 w) (take (word 16 w) l) f (λ a. not_meant x later i a f))

-- ---- a member's links, lent

module _ (ws : List (List ℕ)) (l : List PathLink) (i : ℕ) (h : Holding 11 16 ws (length l)) (lt : i < length ws)
    (start c : ℕ) (es : start ≡ start_of 16 ws i) (ec : c ≡ count_of 11 ws i) where
  pub lent_links : start + c ≤ length l
  lent_links = omega (arith, part_inside h i lt, h.held i lt)

  -- the links of a member that doesn't claim them
  pub member_corrected : (x : Change) (area : ℕ) → area ≡ get_or x.areas x.member 0
      → is_member x.member (first_with x.areas area) ≡ true
      → eqb i x.member ≡ false → belongs (get_or x.areas i 0) area ≡ false
      → (r : List PathLink) → r ≡ map (relabelled x.old area) (take (start + c - start) (drop start l))
      → put_mid start (start + c - start) l r ≡ part_corrected x ws i l
  member_corrected x area is first f u r er =
      let s = start_of 16 ws i in
      let z = count_of 16 ws i in
      let D = drop s l in
      let fit = part_inside h i lt in
      let n : start + c - start ≡ c = omega arith in
      ap (λ (t : List PathLink). take start l ++ (t ++ drop (start + c - start) (drop start l))) er
      ∙ ap (λ (k : ℕ). take start l ++ over (map (relabelled x.old area)) k (drop start l)) n
      ∙ (λ k. take (es k) l ++ over (map (relabelled x.old area)) (ec k) (drop (es k) l))
      ∙ ap (λ (t : List PathLink). take s l ++ t)
      (part_over (map (relabelled x.old area)) (count_of 11 ws i) z D (h.held i lt) (omega (arith, length-drop s l))
      ∙ ap (λ (t : List PathLink). t ++ drop z D)
      (sym (part_named x i (count_of 11 ws i) (take z D) area is first f u)))

-- for the check
pub ruleset turn_laws = (part_below, parts_start, parts_turn, parts_end, others_stay)
