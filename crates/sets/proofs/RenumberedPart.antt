-- Renumbering one member in place: what the call answers, and the six lists after it.
use Prim.Native.Nat.{ℕ, ◌+◌, ◌≤◌, ◌<◌}
use native.Mathlib.Omega.{arith}
use native.Mathlib.Nat.{zero-add}
use mathlib.Core.Path.{◌≡◌, refl, ap, sym, ◌∙◌}
use mathlib.Core.Bool.{Bool, true, false, cond}
use mathlib.Core.List.{List, [], ◌∷◌, ◌++◌, map, append_assoc}
use lib.Dec.{ltb}
use lib.ListN.{length, get_or, set, take, drop, length-drop, length-append, length-map}
use lib.Seq.{length-take-le, drop_at, drop-drop}
use Rattle.std.proofs.lemmas.List.{take-append-drop, take-take}
use borrow.Author.Tests.{le-ltb, ltb-false, eq-eqb}
use Rattle.numbers.specs.Refusals.{when, decided}
use Rattle.numbers.specs.Refusals.{answered as answer_from}
use Rattle.numbers.proofs.Refusing.{not_refused}
use Rattle.records.specs.Put.{put}
use Rattle.cells.specs.Order.{Old, keep, parted, new_number, new_places}
use Rattle.cells.specs.Nodes.{is_ped, is_vehicle, first_area, number_of, reordered, old_of, relinked, rereffed}
use Rattle.cells.specs.Memory.{Memory, memory, ynd_after, over_limit, short, short_of}
use Rattle.cells.specs.Cell.{Cell, old_nodes}
use Rattle.cells.specs.CellOf.{nodes_of, cell_of}
use Rattle.cells.specs.NewNumbers.{new_numbers, numbers_left, NumbersLeft, numbers_causes, numbers_if, numbers_call}
use Rattle.cells.specs.Renumber.{Renumbered, renumbered_by, over, vehicles, peds, renumber_lists, recounted}
use Rattle.cells.specs.Renumber.{answer_of, new_lists, renumber_memory, left_by, renumber, scratch_left}
use Rattle.cells.specs.declared.ynd.Ynd.{Ynd}
use Rattle.cells.proofs.Sequences.Tests.{by_test}
use Rattle.cells.proofs.Forms.Limits.{within}
use Rattle.cells.proofs.Renumbering.Parted.{places_length}
use Rattle.cells.proofs.Renumbering.CellRenumbered.{number_length, parted_length, old_same}
use Rattle.cells.proofs.Renumbering.NumberTable.{table_tells, table_long, new_few}
use Rattle.sets.specs.MemberList.{cells_of}
use Rattle.sets.specs.SetRenumber.{Change, change_of}
use Rattle.sets.specs.CellSet.{CellSet, cell_set, ynd_of, words_at, parts_of, parts_in, members_of}
use Rattle.sets.specs.Leave.{start_of}
use Rattle.sets.specs.SetParts.{Holding, Holds, count_of, starts_of}
use Rattle.sets.specs.SetStored.{member_in, entry_with, with_member}
use Rattle.sets.specs.RenumberMember.{member_renumbered, correct_parts, others_corrected, renumbered_at}
use Rattle.sets.specs.CorrectParts.{Table, Tells, change_in}
use Rattle.sets.specs.declared.member.MemberPart.{MemberPart}
use Rattle.std.specs.Result.{IsErrAnd}
use Rattle.std.proofs.lemmas.Result.{err_from_is_err_and}
use Rattle.cells.specs.declared.counts.Counts.{Counts}
use Rattle.sets.proofs.PartLaws.{part_of}
use Rattle.sets.proofs.CellSetLaws.{member_at_law, areas_held}
use Rattle.sets.proofs.SetMemory.{cell_at_law}
use Rattle.sets.proofs.CorrectLaws.{part_own, part_over}
use Rattle.sets.proofs.PartLaws.{part_inside}
use Rattle.sets.proofs.SetCorrected.{links_long, links_parts}
use Rattle.sets.proofs.MemberPartLaws.{put_back}
use Rattle.std.specs.Prelude.{Result, Ok, Err}
use Rattle.numbers.specs.Refusals.{Answer}
use Rattle.numbers.specs.declared.refusal.Refusal.{Refusal}
use Rattle.numbers.specs.declared.refusal.Refusal.TheVariants.{TooShort}
use Rattle.numbers.specs.declared.refusal.Lent.TheVariants as lent
use Rattle.cells.specs.declared.node_entry.NodeEntry.{NodeEntry}
use Rattle.cells.specs.declared.link.PathLink.{PathLink}
use Rattle.records.specs.declared.junction_ref.NodeJunctionRef.{NodeJunctionRef}

-- ---- one list

module _ {A : Type 0} (f : List A → List A) (n z at : ℕ) (l l' : List A) where
  -- what is stored over n entries from a part's start on is stored in the part
  pub part_put : take at l' ≡ take at l → drop at l' ≡ over f n (drop at l) → length (f (take n (drop at l))) ≡ n
      → n ≤ z → at + z ≤ length l → l' ≡ put l at (over f n (take z (drop at l)))
  unfolding put
  part_put ef ed long le fit =
      let D = drop at l in
      let X = over f n (take z D) in
      let far : z ≤ length D = omega (arith, length-drop at l) in
      let same : take n (take z D) ≡ take n D = take-take n z D le in
      let many : length X ≡ z =
      length-append (f (take n (take z D))) (drop n (take z D))
      ∙ omega (
        arith,
        ap (λ (t : List A). length (f t)) same,
        long,
        length-drop n (take z D),
        length-take-le z D
            far,
      ) in
      sym (take-append-drop at l')
      ∙ (λ i. ef i ++ (ed ∙ part_over f n z D le far) i)
      ∙ ap (λ (t : List A). take at l ++ (X ++ t)) (drop-drop z at l ∙ ap (λ (k : ℕ). drop (at + k) l) (sym many))
      ∙ sym (append_assoc (take at l) X (drop (at + length X) l))

-- what renumbering goes by is in the nodes that count
old_cut : (n z : ℕ) (nodes : List NodeEntry) → n ≤ z → old_of n nodes ≡ old_of n (take z nodes)
unfolding old_of
old_cut n z nodes le =
    ap (λ (l : List NodeEntry). record { area = first_area l; numbers = map number_of l; peds = map is_ped l })
    (sym (take-take n z nodes le))

-- a cell over no limit, in lists that hold it
asked_plain : (over : Bool) (n : ℕ) (lack : Answer) (s p : ℕ) → over ≡ false → lack ≡ (Ok tt)
    → answer_of over n lack s p ≡ decided (when (ltb s 65536) (TooShort lent.Scratch)
    ∷ when (ltb p n) (TooShort lent.NewPlaces) ∷ [])
unfolding answer_of
asked_plain over n lack s p e w = rw (e, w)

-- ---- the member in its parts

-- what the call is lent
abbrev pub Lent : CellSet → ℕ → MemberPart → Type 0
Lent y j part =
    (j < length y.members) × (length y.members ≤ 9) × (over_limit part.ynd ≡ false)
    × (part.ynd ≡ ynd_of (get_or y.members j [])) × (part.a ≡ starts_of y.members j) × Holds y

module _ (y : CellSet) (j : ℕ) (part : MemberPart) (q : Lent y j part) where
  abbrev ws : List (List ℕ)
  ws = y.members

  abbrev lt : j < length ws
  lt = q.0

  abbrev h : Holds y
  h = q.5

  few : over_limit (ynd_of (get_or ws j [])) ≡ false
  few = sym (ap over_limit q.3) ∙ q.2

  abbrev v : Ynd
  v = ynd_of (get_or ws j [])

  abbrev n : ℕ
  n = v.node_count

  abbrev start : ℕ → ℕ
  start size = start_of size ws j

  abbrev room : ℕ → ℕ
  room size = count_of size ws j

  abbrev N : List NodeEntry
  N = drop (start 15) y.nodes

  abbrev L : List PathLink
  L = drop (start 16) y.links

  abbrev R : List NodeJunctionRef
  R = drop (start 19) y.refs

  -- the member's memory
  abbrev m : Memory
  m = memory v (take (room 15) N) (take (room 16) L) (take (room 17) (drop (start 17) y.junctions))
      (take (room 18) (drop (start 18) y.heights)) (take (room 19) R)

  pub m_is : member_in y j ≡ m
  unfolding parts_in
  m_is =
      member_at_law y j lt
      ∙ (λ i. memory v (part_of 15 ws y.nodes j lt i) (part_of 16 ws y.links j lt i) (part_of 17 ws y.junctions j lt i)
      (part_of 18 ws y.heights j lt i) (part_of 19 ws y.refs j lt i))

  -- a part has as many entries as its count says
  part_fits_law : {A : Type 0} (k size : ℕ) (l : List A) → Holding k size ws (length l)
      → count_of k ws j ≤ length (take (room size) (drop (start size) l))
  part_fits_law k size l g =
      let p = part_inside g j lt in
      omega (
        arith,
        g.held j lt,
        length-drop (start size) l,
        length-take-le (room size) (drop (start size) l) (omega (arith, length-drop (start size) l)),
      )

  m_whole : short m ≡ (Ok tt)
  unfolding short_of ynd_of
  m_whole =
      rw (
        le-ltb _ _ (part_fits_law 10 15 y.nodes h.nodes_hold),
        le-ltb _ _ (part_fits_law 11 16 y.links h.links_hold),
        le-ltb _ _ (part_fits_law 12 17 y.junctions h.junctions_hold),
        le-ltb _ _ (part_fits_law 13 18 y.heights h.heights_hold),
        le-ltb _ _ (part_fits_law 14 19 y.refs h.refs_hold),
      )

  nodes_far : n ≤ length N
  unfolding ynd_of
  nodes_far = omega (arith, part_inside h.nodes_hold j lt, h.nodes_hold.held j lt, length-drop (start 15) y.nodes)

  few_nodes : n ≤ 65536
  few_nodes = (within v few).0

  -- ---- what the call answers

  abbrev causes : ℕ → ℕ → Answer
  causes s p = decided (when (ltb s 65536) (TooShort lent.Scratch) ∷ when (ltb p n) (TooShort lent.NewPlaces) ∷ [])

  asked_table : (s p : ℕ) → decided (numbers_causes n (length N) s p) ≡ causes s p
  unfolding numbers_causes
  asked_table s p = rw (le-ltb 65536 n few_nodes, le-ltb (length N) n nodes_far)

  asked_part : (m' : Memory) → m'.ynd ≡ v → short m' ≡ (Ok tt) → (s p : ℕ)
      → answer_of (over_limit m'.ynd) m'.ynd.node_count (short m') s p ≡ causes s p
  asked_part m' e w s p =
      asked_plain (over_limit m'.ynd) m'.ynd.node_count (short m') s p (ap over_limit e ∙ few) w
      ∙ ap (λ (u : Ynd). decided (when (ltb s 65536) (TooShort lent.Scratch)
      ∷ when (ltb p u.node_count) (TooShort lent.NewPlaces) ∷ [])) e

  module _ (S P : List ℕ) where
    abbrev o : Old
    o = old_of n N

    abbrev called : Answer → NumbersLeft
    called a = numbers_if a S P
        (numbers_left (Ok tt) (new_numbers o ++ drop 65536 S) (new_places (map is_ped (take n N)) ++ drop n P))

    by_causes : numbers_call n N S P ≡ called (causes (length S) (length P))
    unfolding numbers_call
    by_causes = ap called (asked_table (length S) (length P))

    answered : (called (causes (length S) (length P))).answer ≡ causes (length S) (length P)
    answered = go (causes (length S) (length P))
      where
        go : (a : Answer) → (called a).answer ≡ a
        go (Ok tt) = refl
        go (Err x) = refl

    own_call : renumber m (length S) P ≡ left_by (causes (length S) (length P)) m P
    unfolding renumber
    own_call = ap (λ (a : Answer). left_by a m P) (asked_part m refl m_whole (length S) (length P))

    -- what the code's call says of the new numbers
    module _ (a : Answer) (t p : List ℕ)
        (told : numbers_left a t p ≡ numbers_call part.ynd.node_count (drop part.a.nodes y.nodes) S P) where
      e : numbers_left a t p ≡ numbers_call n N S P
      e = told ∙ (λ i. numbers_call (q.3 i).node_count (drop (q.4 i).nodes y.nodes) S P)

      is : a ≡ causes (length S) (length P)
      is = ap (λ (r : NumbersLeft). r.answer) (e ∙ by_causes) ∙ answered

      pub refused_at : {x : Refusal} {r : Answer} → a ≡ Err x → IsErrAnd r (λ z. z ≡ x)
          → (member_renumbered r y p ≡ renumbered_at y j (renumber (member_in y j) (length S) P)) × scratch_left r S t
      refused_at {x} {r} d er =
          let k = err_from_is_err_and r er in
          let c : causes (length S) (length P) ≡ Err x = sym is ∙ d in
          let left = e ∙ by_causes ∙ ap called c in
          let same : p ≡ P = ap (λ (r : NumbersLeft). r.places) left in
          let whole : member_renumbered (Err x) y p ≡ renumbered_at y j (renumber (member_in y j) (length S) P) =
          (λ i. member_renumbered (Err x) y (same i))
          ∙ sym (ap (λ (k : Memory). renumbered_at y j (renumber k (length S) P)) m_is
          ∙ ap (renumbered_at y j) (own_call ∙ ap (λ (z : Answer). left_by z m P) c)) in
          rw (k.1, k.2) (whole, ap (λ (r : NumbersLeft). r.table) left)

      -- an accepted call
      module _ (d : a ≡ (Ok tt)) where
        fine : causes (length S) (length P) ≡ (Ok tt)
        fine = sym is ∙ d

        filled : numbers_left a t p ≡ called (Ok tt)
        filled = e ∙ by_causes ∙ ap called fine

        table_is : t ≡ new_numbers o ++ drop 65536 S
        table_is = ap (λ (r : NumbersLeft). r.table) filled

        places_are : p ≡ new_places (map is_ped (take n N)) ++ drop n P
        places_are = ap (λ (r : NumbersLeft). r.places) filled

        pub tells : Tells o t
        tells = record { told = λ k hk. ap (λ (r : List ℕ). get_or r k 0) table_is ∙ table_tells o S k hk }

        pub is_table : Table t
        is_table = record {
          few = λ k hk.
              let q : get_or t k 0 ≡ new_number o k = tells.told k hk in
              omega (arith, new_few n N k few_nodes nodes_far hk);
        }

        both : (65536 ≤ length S) × (n ≤ length P)
        both =
            by_test (ltb (length S) 65536) (λ u. no (sym (ap first u) ∙ fine)) (λ f.
            by_test (ltb (length P) n) (λ u. no (sym (second f u) ∙ fine)) (λ g.
            (ltb-false (length S) 65536 f, ltb-false (length P) n g)))
          where
            first : Bool → Answer
            first b = cond b (Err (TooShort lent.Scratch))
                (cond (ltb (length P) n) (Err (TooShort lent.NewPlaces)) (Ok tt))

            second : ltb (length S) 65536 ≡ false → ltb (length P) n ≡ true → causes (length S) (length P)
                ≡ Err (TooShort lent.NewPlaces)
            second f u = rw (f, u)

            no : {Z : Type 0} {x : Refusal} → ◌≡◌ {A = Answer} (Err x) (Ok tt) → Z
            no r = not_refused r

        many : length (new_places (map is_ped (take n N))) ≡ n
        many = places_length (map is_ped (take n N)) ∙ length-map (take n N) is_ped ∙ length-take-le n N nodes_far

        pub wide : 65536 ≤ length S
        wide = both.0

        same_room : causes (length t) (length p) ≡ (Ok tt)
        same_room =
            let b = both in
            let large : 65536 ≤ length t =
            omega (arith, ap length table_is, length-append (new_numbers o) (drop 65536 S), table_long o) in
            let long : n ≤ length p =
            omega (arith, ap length places_are, length-append (new_places (map is_ped (take n N))) (drop n P), many) in
            rw (le-ltb (length t) 65536 large, le-ltb (length p) n long)

        -- ---- the six lists

        abbrev x : Change
        x = change_of (cells_of (members_of y)) j

        change_is : change_in ws y.nodes j o ≡ x
        unfolding cell_of nodes_of ynd_of
        change_is =
            let ls = take m.ynd.link_count m.links in
            let cut : take n (take (room 15) N) ≡ take n N = take-take n (room 15) N (h.nodes_hold.held j lt) in
            λ i. record {
              areas = areas_held y i;
              member = j;
              old = (old_cut n (room 15) N (h.nodes_hold.held j lt)
                  ∙ old_same ls n m.nodes
                  ∙ ap (λ (k : Memory). old_nodes (nodes_of k)) (sym m_is)
                  ∙ ap (λ (k : Cell). old_nodes k.nodes) (sym (cell_at_law (members_of y) j))) i;
            }

        module _ (Lc : List PathLink) (el : Lc ≡ correct_parts (change_in ws y.nodes j o) 0 ws y.links) where
          corrected : Lc ≡ correct_parts x 0 ws y.links
          corrected = el ∙ ap (λ (c : Change). correct_parts c 0 ws y.links) change_is

          pub others_long : length Lc ≡ length y.links
          others_long = ap length corrected ∙ links_long x 0 ws y.links

          -- the member's own part is as it was
          own_part : take (room 16) (drop (start 16) Lc) ≡ take (room 16) L
          own_part =
              sym (part_of 16 ws Lc j lt)
              ∙ ap (λ (l : List PathLink). get_or (parts_of (words_at 16 ws) l) j []) corrected
              ∙ links_parts x 0 ws y.links j lt h.links_hold.fit
              ∙ part_own x (0 + j) (count_of 11 ws j) _ (eq-eqb (0 + j) j (zero-add j))
              ∙ part_of 16 ws y.links j lt

          -- what the code renumbers: from the parts' starts on
          abbrev m₁ : Memory
          m₁ = memory v N (drop (start 16) Lc) y.junctions y.heights R

          far : {A : Type 0} (k size : ℕ) (l : List A) → Holding k size ws (length l)
              → count_of k ws j ≤ length (drop (start size) l)
          far k size l g = omega (arith, part_inside g j lt, g.held j lt, length-drop (start size) l)

          m₁_whole : short m₁ ≡ (Ok tt)
          unfolding short_of ynd_of
          m₁_whole =
              let links : count_of 11 ws j ≤ length (drop (start 16) Lc) =
              omega (
                arith,
                part_inside h.links_hold j lt,
                h.links_hold.held j lt,
                length-drop (start 16) Lc,
                others_long,
              ) in
              let junctions : count_of 12 ws j ≤ length y.junctions =
              omega (arith, part_inside h.junctions_hold j lt, h.junctions_hold.held j lt) in
              let heights : count_of 13 ws j ≤ length y.heights =
              omega (arith, part_inside h.heights_hold j lt, h.heights_hold.held j lt) in
              rw (
                le-ltb _ _ nodes_far,
                le-ltb _ _ links,
                le-ltb _ _ junctions,
                le-ltb _ _ heights,
                le-ltb _ _ (far 14 19 y.refs h.refs_hold),
              )

          m₁_call : renumber m₁ (length t) p ≡ left_by (Ok tt) m₁ p
          unfolding renumber
          m₁_call = ap (λ (z : Answer). left_by z m₁ p) (asked_part m₁ refl m₁_whole (length t) (length p) ∙ same_room)

          -- what the code's call says of the part
          module _ (r : Result Ynd Refusal) (N' : List NodeEntry) (L' : List PathLink) (R' : List NodeJunctionRef)
              (P' : List ℕ)
              (call : renumbered_by part.ynd r (drop part.a.nodes N') (drop part.a.links L') y.junctions y.heights
              (drop part.a.refs R') P'
              ≡ renumber (memory part.ynd (drop part.a.nodes y.nodes) (drop part.a.links Lc) y.junctions y.heights
              (drop part.a.refs y.refs)) (length t) p)
              (before : (take part.a.nodes N' ≡ take part.a.nodes y.nodes)
              × (take part.a.links L' ≡ take part.a.links Lc) × (take part.a.refs R' ≡ take part.a.refs y.refs)) where
            er : renumbered_by v r (drop (start 15) N') (drop (start 16) L') y.junctions y.heights
                (drop (start 19) R') P'
                ≡ renumber m₁ (length t) p
            er =
                sym (λ i. renumbered_by (q.3 i) r (drop (q.4 i).nodes N') (drop (q.4 i).links L') y.junctions y.heights
                (drop (q.4 i).refs R') P')
                ∙ call
                ∙ (λ i. renumber (memory (q.3 i) (drop (q.4 i).nodes y.nodes) (drop (q.4 i).links Lc) y.junctions
                y.heights (drop (q.4 i).refs y.refs)) (length t) p)

            same_before : {A : Type 0} (of : Counts → ℕ) (l l' : List A) → take (of part.a) l' ≡ take (of part.a) l
                → take (of (starts_of ws j)) l' ≡ take (of (starts_of ws j)) l
            same_before of l l' b = sym (λ i. take (of (q.4 i)) l') ∙ b ∙ (λ i. take (of (q.4 i)) l)

            eN : take (start 15) N' ≡ take (start 15) y.nodes
            eN = same_before (λ z. z.nodes) _ _ before.0

            eL : take (start 16) L' ≡ take (start 16) Lc
            eL = same_before (λ z. z.links) _ _ before.1

            eR : take (start 19) R' ≡ take (start 19) y.refs
            eR = same_before (λ z. z.refs) _ _ before.2

            done : renumbered_by v r (drop (start 15) N') (drop (start 16) L') y.junctions y.heights
                (drop (start 19) R') P'
                ≡ left_by (Ok tt) m₁ p
            done = er ∙ m₁_call

            le₁₅ : n ≤ room 15
            unfolding ynd_of
            le₁₅ = h.nodes_hold.held j lt

            cut : take n N ≡ take n (take (room 15) N)
            cut = sym (take-take n (room 15) N le₁₅)

            old : o ≡ old_of n (take (room 15) N)
            old = old_cut n (room 15) N le₁₅

            ynd_is : ynd_after v r ≡ recounted v (vehicles n (take (room 15) N)) (peds n (take (room 15) N))
            unfolding renumber_memory vehicles peds
            ynd_is =
                ap (λ (z : Renumbered). z.memory.ynd) done
                ∙ ap (λ (l : List NodeEntry). recounted v (length (keep is_vehicle l)) (length (keep is_ped l))) cut

            nodes_are : N' ≡ put y.nodes (start 15) (over reordered n (take (room 15) N))
            unfolding renumber_memory new_lists renumber_lists reordered
            nodes_are =
                part_put reordered n (room 15) (start 15) y.nodes N' eN (ap (λ (z : Renumbered). z.memory.nodes) done)
                (number_length 0 (parted is_ped (take n N)) ∙ parted_length (take n N) ∙ length-take-le n N nodes_far)
                le₁₅ (part_inside h.nodes_hold j lt)

            links_are : L' ≡ put (correct_parts x 0 ws y.links) (start 16)
                (over (map (relinked (old_of n (take (room 15) N)))) v.link_count (take (room 16) L))
            unfolding renumber_memory new_lists renumber_lists ynd_of
            links_are =
                let fit : start 16 + room 16 ≤ length Lc = omega (arith, part_inside h.links_hold j lt, others_long) in
                let held : count_of 11 ws j ≤ length (drop (start 16) Lc) =
                omega (arith, h.links_hold.held j lt, length-drop (start 16) Lc) in
                part_put (map (relinked o)) v.link_count (room 16) (start 16) Lc L' eL
                (ap (λ (z : Renumbered). z.memory.links) done)
                (length-map (take v.link_count (drop (start 16) Lc)) (relinked o)
                ∙ length-take-le v.link_count (drop (start 16) Lc) held)
                (h.links_hold.held j lt) fit
                ∙ (λ i. put (corrected i) (start 16) (over (map (relinked (old i))) v.link_count (own_part i)))

            refs_are : R' ≡ put y.refs (start 19)
                (over (map (rereffed (old_of n (take (room 15) N)))) v.ref_count (take (room 19) R))
            unfolding renumber_memory new_lists renumber_lists ynd_of
            refs_are =
                part_put (map (rereffed o)) v.ref_count (room 19) (start 19) y.refs R' eR
                (ap (λ (z : Renumbered). z.memory.refs) done)
                (length-map (take v.ref_count R) (rereffed o)
                ∙ length-take-le v.ref_count R (far 14 19 y.refs h.refs_hold))
                (h.refs_hold.held j lt) (part_inside h.refs_hold j lt)
                ∙ (λ i. put y.refs (start 19) (over (map (rereffed (old i))) v.ref_count (take (room 19) R)))

            places_kept : P' ≡ (new_lists m P).places
            unfolding renumber_memory new_lists renumber_lists
            places_kept =
                ap (λ (z : Renumbered). z.places) done
                ∙ ap (λ (l : List ℕ). new_places (map is_ped (take n N)) ++ l)
                (ap (drop n) places_are ∙ drop_at (new_places (map is_ped (take n N))) (drop n P) n many)
                ∙ ap (λ (l : List NodeEntry). new_places (map is_ped l) ++ drop n P) cut

            lists_are : (next : Ynd) → r ≡ Ok next
                → cell_set (set ws j (entry_with next (get_or ws j []))) N' L' y.junctions y.heights R'
                ≡ with_member (others_corrected y j) j (renumber_memory m P)
            unfolding with_member others_corrected renumber_memory new_lists renumber_lists
            lists_are next is = λ i. record {
              members = set ws j (entry_with ((ap (ynd_after v) (sym is) ∙ ynd_is) i) (get_or ws j []));
              nodes = nodes_are i;
              links = links_are i;
              junctions = sym (put_back y.junctions (start 17) (room 17)) i;
              heights = sym (put_back y.heights (start 18) (room 18)) i;
              refs = refs_are i;
            }

            -- it is accepted
            pub never_refused : {Z : Type 0} (x : Refusal) → r ≡ Err x → Z
            never_refused x q = not_refused (sym (ap (λ (z : Result Ynd Refusal). answer_from z) q)
                ∙ ap (λ (z : Renumbered). z.answer) done)

            pub renumbered_at_law : (next : Ynd) → r ≡ Ok next → member_renumbered (Ok tt)
                (cell_set (set ws j (entry_with next (get_or ws j []))) N' L' y.junctions y.heights R') P'
                ≡ renumbered_at y j (renumber (member_in y j) (length S) P)
            renumbered_at_law next is =
                (λ i. member_renumbered (Ok tt) (lists_are next is i) (places_kept i))
                ∙ sym (ap (λ (k : Memory). renumbered_at y j (renumber k (length S) P)) m_is
                ∙ ap (renumbered_at y j) (own_call ∙ ap (λ (z : Answer). left_by z m P) fine))
