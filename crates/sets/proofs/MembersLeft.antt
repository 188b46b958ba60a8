-- What leaves is gone, and the other members are as they were, each in its place or one lower.
use Prim.Native.Nat.{ℕ, zero, suc, ◌+◌, ◌-◌, ◌≤◌, ◌<◌}
use native.Mathlib.Omega.{arith}
use mathlib.Core.Path.{◌≡◌, refl, ap, sym, ◌∙◌}
use mathlib.Core.List.{List, [], ◌∷◌, ◌++◌, append_assoc}
use mathlib.Core.Option.{Option, none, some}
use lib.Dec.{ltb}
use lib.ListN.{length, get_or, take, drop, length-append, length-drop, length-map}
use lib.Seq.{length-take-le, take_all, take_at, drop_at, drop-drop}
use borrow.Author.Tests.{ltb-true, ltb-false}
use Rattle.numbers.specs.Refusals.{decided}
use Rattle.cells.specs.Memory.{memory}
use Rattle.cells.specs.CellOf.{cell_of}
use Rattle.cells.proofs.Sequences.Tests.{by_test}
use Rattle.sets.specs.Members.{areas, area_of}
use Rattle.sets.specs.MemberList.{no_memory, cells_of, unless}
use Rattle.sets.specs.CellSet.{CellSet, cell_set, word, ynd_of, words_at, total, parts_of, parts_in, members_of}
use Rattle.sets.specs.Leave.{closed, start_of, without, SetLeft, set_left, first_of_area, leave_causes, left_by}
use Rattle.sets.specs.Leave.{leave_area, removed, used}
use Rattle.sets.specs.SetParts.{Holds}
use Rattle.sets.proofs.PartLaws.{words_many, start_all, split}
use Rattle.sets.proofs.CellSetLaws.{members_many, member_at_law, members_same}
use Rattle.sets.proofs.MemberLaws.{first_has}
use Rattle.sets.proofs.RoomLaws.{lists_of, accepted}
use Rattle.sets.proofs.LeaveLaws.{asked_of}
use Rattle.std.specs.Prelude.{Ok, Err}
use Rattle.numbers.specs.declared.refusal.Refusal.{Refusal}
use Rattle.numbers.specs.Refusals.{Answer}

-- ---- one list

module _ {A : Type 0} where
  -- what stands behind the parts doesn't matter
  parts_only : (cs : List ℕ) (l t : List A) → total cs ≤ length l → parts_of cs (take (total cs) l ++ t)
      ≡ parts_of cs l
  unfolding parts_of total
  parts_only [] l t h = refl
  parts_only (d ∷ cs) l t h =
      let far : length (take d l) ≡ d = length-take-le d l (omega arith) in
      let X = take (total cs) (drop d l) ++ t in
      let s = split d (total cs) l t in
      λ i. (ap (take d) s ∙ take_at (take d l) X d far) i
      ∷ (ap (λ (r : List A). parts_of cs (drop d r)) s ∙ ap (parts_of cs) (drop_at (take d l) X d far)
      ∙ parts_only cs (drop d l) t (omega (arith, length-drop d l))) i

  parts_removed : (cs : List ℕ) (l t : List A) (j : ℕ) → j < length cs → total cs ≤ length l
      → parts_of (removed j cs) (take (total (take j cs)) l ++ (take (total cs - total (take (suc j) cs))
      (drop (total (take (suc j) cs)) l) ++ t)) ≡ removed j (parts_of cs l)
  unfolding parts_of total removed
  parts_removed [] l t j lt h = absurd (omega arith)
  parts_removed (c ∷ cs) l t zero lt h =
      let a : c + 0 ≡ c = omega arith in
      let b : c + total cs - (c + 0) ≡ total cs = omega arith in
      (λ i. parts_of cs (take (b i) (drop (a i) l) ++ t)) ∙ parts_only cs (drop c l) t (omega (arith, length-drop c l))
  parts_removed (c ∷ cs) l t (suc j) lt h =
      let far : length (take c l) ≡ c = length-take-le c l (omega arith) in
      let s = total (take j cs) in
      let e = total (take (suc j) cs) in
      let d : c + total cs - (c + e) ≡ total cs - e = omega arith in
      let R = take (total cs - e) (drop e (drop c l)) ++ t in
      let same : take (c + s) l ++ (take (c + total cs - (c + e)) (drop (c + e) l) ++ t) ≡ take c l
      ++ (take s (drop c l) ++ R) =
      (λ i. take (c + s) l ++ (take (d i) (sym (drop-drop e c l) i) ++ t)) ∙ split c s l R in
      λ i. (ap (take c) same ∙ take_at (take c l) (take s (drop c l) ++ R) c far) i
      ∷ (ap (λ (r : List A). parts_of (removed j cs) (drop c r)) same
      ∙ ap (parts_of (removed j cs)) (drop_at (take c l) (take s (drop c l) ++ R) c far)
      ∙ parts_removed cs (drop c l) t j (omega arith) (omega (arith, length-drop c l))) i

  pub removed_below : (l : List A) (j i : ℕ) (d : A) → i < j → get_or (removed j l) i d ≡ get_or l i d
  unfolding removed
  removed_below [] j i d lt = refl
  removed_below (x ∷ xs) zero i d lt = absurd (omega arith)
  removed_below (x ∷ xs) (suc j) zero d lt = refl
  removed_below (x ∷ xs) (suc j) (suc i) d lt = removed_below xs j i d (omega arith)

  pub removed_above : (l : List A) (j i : ℕ) (d : A) → j ≤ i → get_or (removed j l) i d ≡ get_or l (suc i) d
  unfolding removed
  removed_above [] j i d le = refl
  removed_above (x ∷ xs) zero i d le = refl
  removed_above (x ∷ xs) (suc j) zero d le = absurd (omega arith)
  removed_above (x ∷ xs) (suc j) (suc i) d le = removed_above xs j i d (omega arith)

  pub removed_length : (l : List A) (j : ℕ) → j < length l → length (removed j l) + 1 ≡ length l
  unfolding removed
  removed_length [] j lt = absurd (omega arith)
  removed_length (x ∷ xs) zero lt = omega arith
  removed_length (x ∷ xs) (suc j) lt = omega (arith, removed_length xs j (omega arith))

  removed_is : (l : List A) (j : ℕ) → removed j l ≡ take j l ++ drop (suc j) l
  unfolding removed
  removed_is [] zero = refl
  removed_is [] (suc j) = refl
  removed_is (x ∷ xs) zero = refl
  removed_is (x ∷ xs) (suc j) = ap {B = List A} (λ r. x ∷ r) (removed_is xs j)

  -- the entries that are the set's after it
  pub entries_left : (l : List A) (j : ℕ) → j < length l → take (length l - 1) (closed j (suc j) (length l) l)
      ≡ removed j l
  unfolding closed
  entries_left l j lt =
      let n = length l - suc j in
      let S = take n (drop (suc j) l) in
      let all : S ≡ drop (suc j) l = take_all n (drop (suc j) l)
      (let z : length (drop (suc j) l) ≤ n = omega (arith, length-drop (suc j) l) in z) in
      let long : length (take j l ++ S) ≡ length l - 1 = omega (
        arith,
        length-append (take j l) S,
        length-take-le j
            l (omega arith),
        ap length all,
        length-drop (suc j) l,
      ) in
      ap (take (length l - 1)) (sym (append_assoc (take j l) S (drop (j + n) l)))
      ∙ take_at (take j l ++ S) (drop (j + n) l) (length l - 1) long
      ∙ ap (λ (t : List A). take j l ++ t) all
      ∙ sym (removed_is l j)

pub words_removed : (k : ℕ) (ws : List (List ℕ)) (j : ℕ) → words_at k (removed j ws) ≡ removed j (words_at k ws)
unfolding words_at removed
words_removed k [] j = refl
words_removed k (w ∷ ws) zero = refl
words_removed k (w ∷ ws) (suc j) = ap {B = List ℕ} (λ r. word k w ∷ r) (words_removed k ws j)

-- ---- the members

module _ (y : CellSet) (h : Holds y) (j : ℕ) (lt : j < length y.members) where
  abbrev ws : List (List ℕ)
  ws = y.members

  abbrev shut : {A : Type 0} → ℕ → List A → List A
  shut size l = closed (start_of size ws j) (start_of size ws (suc j)) (start_of size ws (length ws)) l

  parts⁻ : {A : Type 0} (size : ℕ) (l : List A) → total (words_at size ws) ≤ length l
      → parts_of (words_at size (removed j ws)) (shut size l) ≡ removed j (parts_of (words_at size ws) l)
  unfolding closed
  parts⁻ {A} size l f =
      let t = drop (start_of size ws j + (start_of size ws (length ws) - start_of size ws (suc j))) l in
      (λ i. parts_of (words_removed size ws j i)
      (take (start_of size ws j) l ++ (take (start_all size ws i - start_of size ws (suc j))
      (drop (start_of size ws (suc j)) l) ++ t)))
      ∙ parts_removed (words_at size ws) l t j (rw words_many lt) f

  below : {A : Type 0} (size : ℕ) (l : List A) → total (words_at size ws) ≤ length l → (i : ℕ) → i < j
      → get_or (parts_of (words_at size (removed j ws)) (shut size l)) i []
      ≡ get_or (parts_of (words_at size ws) l) i []
  below {A} size l f i li = ap (λ (ps : List (List A)). get_or ps i []) (parts⁻ size l f)
      ∙ removed_below (parts_of (words_at size ws) l) j i [] li

  above : {A : Type 0} (size : ℕ) (l : List A) → total (words_at size ws) ≤ length l → (i : ℕ) → j ≤ i
      → get_or (parts_of (words_at size (removed j ws)) (shut size l)) i []
      ≡ get_or (parts_of (words_at size ws) l) (suc i) []
  above {A} size l f i li = ap (λ (ps : List (List A)). get_or ps i []) (parts⁻ size l f)
      ∙ removed_above (parts_of (words_at size ws) l) j i [] li

  abbrev y⁻ : CellSet
  y⁻ = cell_set (removed j ws) (shut 15 y.nodes) (shut 16 y.links) (shut 17 y.junctions) (shut 18 y.heights)
      (shut 19 y.refs)

  long⁻ : length (removed j ws) + 1 ≡ length ws
  long⁻ = removed_length ws j lt

  left : members_of y⁻ ≡ removed j (members_of y)
  unfolding parts_in
  left = members_same (members_of y⁻) (removed j (members_of y))
      (let z : length (members_of y⁻) ≡ length (removed j (members_of y)) = omega (
        arith,
        members_many y⁻,
        long⁻,
        members_many y,
        removed_length (members_of y) j
            (let q : j < length (members_of y) = omega (arith, members_many y) in q),
      ) in z)
      (λ i li.
      let li⁻ : i < length (removed j ws) = omega (arith, members_many y⁻) in
      by_test (ltb i j)
      (λ t.
      let b = ltb-true i j t in
      member_at_law y⁻ i li⁻
      ∙ (λ k. memory (ynd_of (removed_below ws j i [] b k))
      (below 15 y.nodes h.nodes_hold.fit i b k) (below 16 y.links h.links_hold.fit i b k)
      (below 17 y.junctions h.junctions_hold.fit i b k)
      (below 18 y.heights h.heights_hold.fit i b k) (below 19 y.refs h.refs_hold.fit i b k))
      ∙ sym (member_at_law y i (let z : i < length ws = omega (arith, long⁻) in z))
      ∙ sym (removed_below (members_of y) j i no_memory b))
      (λ f.
      let b = ltb-false i j f in
      member_at_law y⁻ i li⁻
      ∙ (λ k. memory (ynd_of (removed_above ws j i [] b k))
      (above 15 y.nodes h.nodes_hold.fit i b k) (above 16 y.links h.links_hold.fit i b k)
      (above 17 y.junctions h.junctions_hold.fit i b k)
      (above 18 y.heights h.heights_hold.fit i b k) (above 19 y.refs h.refs_hold.fit i b k))
      ∙ sym (member_at_law y (suc i) (let z : suc i < length ws = omega (arith, long⁻) in z))
      ∙ sym (removed_above (members_of y) j i no_memory b)))

  -- the set after the member j left, by the entries that are its own
  pub members_left : members_of (used (length ws - 1) (without y j)) ≡ removed j (members_of y)
  unfolding without
  members_left = ap (λ (w : List (List ℕ)). members_of
      (cell_set w (shut 15 y.nodes) (shut 16 y.links) (shut 17 y.junctions) (shut 18 y.heights) (shut 19 y.refs)))
      (entries_left ws j lt) ∙ left

-- ---- the call

module _ (y : CellSet) (area : ℕ) where
  abbrev called : Answer → SetLeft
  called a = unless a (λ cause. set_left (Err cause) (length y.members) y) (left_by (first_of_area y area) y)

  -- a refused call leaves all six lists, and the number of members
  pub leave_refused : (x : Refusal) → (leave_area y area).answer ≡ Err x → ((leave_area y area).lists ≡ y)
      × ((leave_area y area).count ≡ length y.members)
  unfolding leave_area
  leave_refused x e = go (decided (leave_causes y area)) e
    where
      done : (o : Option ℕ) → (left_by o y).answer ≡ (Ok tt)
      done (some j) = refl
      done none = refl

      go : (a : Answer) → (called a).answer ≡ Err x → ((called a).lists ≡ y) × ((called a).count ≡ length y.members)
      go (Ok tt) e = let d = sym (done (first_of_area y area))
          ∙ e in let z : ◌≡◌ {A = ℕ} 0 1 = cc in absurd (omega arith)
      go (Err n) e = (refl, refl)

  -- an accepted one leaves the other members, each as it was
  module _ (j : ℕ) (f : first_of_area y area ≡ some j) where
    pub there : j < length y.members
    unfolding first_of_area
    there = omega (
      arith,
      (first_has (areas (cells_of (members_of y))) area j f).0,
      length-map
          (cells_of (members_of y)) area_of,
      length-map (members_of y) cell_of,
      members_many y,
    )

    abbrev answered : Answer → SetLeft
    answered a = unless a (λ cause. set_left (Err cause) (length y.members) y) (left_by (some j) y)

    after : (a : Answer) → a ≡ lists_of y → (answered a).answer ≡ (Ok tt)
        → members_of (used (answered a).count (answered a).lists) ≡ removed j (members_of y)
    after (Ok tt) t e = members_left y (accepted y t).whole j there
    after (Err x) t e = let z : ◌≡◌ {A = ℕ} 0 1 = cc in absurd (omega arith)

    pub leave_done : (leave_area y area).answer ≡ (Ok tt)
        → members_of (used (leave_area y area).count (leave_area y area).lists) ≡ removed j (members_of y)
    leave_done e =
        let s = asked_of y area j f in
        ap (λ (r : SetLeft). members_of (used r.count r.lists)) s
        ∙ after (lists_of y) refl (ap (λ (r : SetLeft). r.answer) (sym s) ∙ e)
