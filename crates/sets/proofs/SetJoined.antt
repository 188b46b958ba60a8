-- Joining, and joining then leaving, at the calls.
use Rattle.sets.proofs.MemberKept.{seven_words}
use Rattle.std.proofs.lemmas.Bool.{not-false}
use Rattle.std.proofs.lemmas.List.{map-append}
use Prim.Native.Nat.{ℕ, suc, ◌+◌, ◌-◌, ◌≤◌, ◌<◌}
use native.Mathlib.Omega.{arith}
use mathlib.Core.Path.{◌≡◌, refl, ap, sym, ◌∙◌, subst}
use mathlib.Core.Bool.{Bool, true, false, ◌||◌}
use mathlib.Core.List.{List, [], ◌∷◌, ◌++◌}
use mathlib.Core.Option.{Option, none, some}
use lib.Dec.{eqb, ltb, leb}
use lib.ListN.{length, take, drop, length-append, length-drop, length-map, get_or-append}
use lib.Seq.{length-take-le, get_or-append_seam}
use borrow.Author.Tests.{ltb-true, ltb-false, leb-true, leb-false, eq-eqb}
use Rattle.numbers.specs.Refusals.{Cause, decided, when}
use Rattle.numbers.proofs.Refusing.{passed}
use Rattle.cells.specs.Lists.{every}
use Rattle.cells.specs.Memory.{Memory, over_limit}
use Rattle.cells.specs.Add.{done}
use Rattle.cells.specs.Memory.{unless as unless-left}
use Rattle.cells.specs.Cell.{Cell}
use Rattle.cells.specs.CellOf.{cell_of}
use Rattle.cells.specs.Lookup.{first_with, is_some, or_later}
use Rattle.cells.specs.Read.{filled, cell_read, read_of}
use Rattle.cells.proofs.Reading.FileRead.{read_all}
use Rattle.cells.proofs.Sequences.Tests.{by_test, and_left, and_right, true_false, every_at}
use Rattle.sets.specs.Members.{areas, area_of}
use Rattle.sets.specs.MemberList.{no_memory, member_at, cells_of, nodes_together, any_over, over_set, unless}
use Rattle.sets.specs.SetClaim.{CellAsRead}
use Rattle.sets.specs.CellSet.{CellSet, cell_set, word, words_at, total, members_of, room_for, holds_list}
use Rattle.sets.specs.Leave.{SetLeft, set_left, used, without, first_of_area, leave_causes, leave_area, removed}
use Rattle.sets.specs.Join.{entry_of, stored, part_fits, lack_for, set_lengths, cell_lengths, join_causes}
use Rattle.sets.specs.Join.{joined_member, with_cell, join_cell}
use Rattle.sets.specs.SetParts.{Holding, Holds}
use Rattle.sets.specs.HandBack.{copied, leaver, lack_of_back, hand_causes, hand_back}
use Rattle.sets.specs.SetStored.{member_in}
use Rattle.sets.specs.SetCallLaws.{joined_set, JoinStores, JoinStoresTheorem, ReadThenJoin, JoinThenLeave}
use Rattle.sets.specs.SetCallLaws.{JoinThenLeaveTheorem}
use Rattle.cells.specs.declared.counts.Counts.{Counts}
use Rattle.sets.proofs.CellSetLaws.{members_many}
use Rattle.sets.proofs.JoinLaws.{Fitting, AllFit, all_fit, both_done, together_more, over_more}
use Rattle.sets.proofs.RoomLaws.{tail_done}
use Rattle.numbers.specs.Refusals.{unless as handed_on}
use Rattle.numbers.specs.declared.refusal.Lent.TheVariants as lent
use Rattle.sets.proofs.MembersJoined.{entries_more, words_more, members_joined, cell_joined, part_long}
use Rattle.sets.proofs.MembersLeft.{leave_done}
use Rattle.sets.proofs.HandBackLaws.{handed_cell}
use Rattle.sets.proofs.SetDemand.{as_read}
use Rattle.sets.proofs.SetKept.{Usable, may_be_used}
use Rattle.std.specs.Prelude.{Ok, Err}
use Rattle.numbers.specs.Refusals.{Answer}
use Rattle.numbers.specs.declared.refusal.Refusal.TheVariants.{TooShort, AtLimit, AreaTaken}

-- ---- what an accepted joining says

module _ (count : ℕ) (y : CellSet) (m : Memory) (sizes : Counts) where
  abbrev before : CellSet
  before = used count y

  abbrev ws : List (List ℕ)
  ws = before.members

  abbrev causes : List Cause
  causes = join_causes before (length y.members) m sizes

  abbrev lacking : List Cause
  lacking = lack_for ws (set_lengths before) (cell_lengths m) m.ynd sizes

  record Joins : Type 0 where
    pub not_there : is_some (first_of_area before (area_of (cell_of m))) ≡ false
    pub within : over_set (members_of before ++ (m ∷ [])) ≡ false
    pub all : decided lacking ≡ (Ok tt)
    pub entry : length ws < length y.members
    pub lists : (join_cell count y m sizes).lists ≡ with_cell y before m sizes
    pub counted : (join_cell count y m sizes).count ≡ length ws + 1

  joins : (join_cell count y m sizes).answer ≡ (Ok tt) → Joins
  unfolding join_cell join_causes
  joins e = go (decided causes) refl e
    where
      left : Answer → SetLeft
      left a = unless a (λ cause. set_left (Err cause) (length ws) y)
          (set_left (Ok tt) (length ws + 1) (with_cell y before m sizes))

      full : Cause
      full = when (leb (length y.members) (length ws)) (TooShort lent.Members)

      later : decided causes ≡ (Ok tt) → (decided lacking ≡ (Ok tt)) × (decided (full ∷ []) ≡ (Ok tt))
      later d =
          let rest = lacking ++ (full ∷ []) in
          let taken = when (is_some (first_of_area before (area_of (cell_of m)))) AreaTaken in
          let limit = when (over_set (members_of before ++ (m ∷ []))) AtLimit in
          both_done lacking (full ∷ []) (tail_done limit rest (tail_done taken (limit ∷ rest) d))

      go : (a : Answer) → decided causes ≡ a → (left a).answer ≡ (Ok tt) → Joins
      go (Err x) d q = let z : ◌≡◌ {A = ℕ} 0 1 = cc in absurd (omega arith)
      go (Ok tt) d q = record {
        not_there = passed causes 0 d;
        within = passed causes 1 d;
        all = (later d).0;
        entry = leb-false (length y.members) (length ws) (passed (full ∷ []) 0 (later d).1);
        lists = ap (λ (a : Answer). (left a).lists) d;
        counted = ap (λ (a : Answer). (left a).count) d;
      }

-- ---- lists that hold the members hold one more

list_held : (k size : ℕ) (ws : List (List ℕ)) (len have n room : ℕ) → part_fits k size ws len have n room ≡ true
    → Holding k size ws len
unfolding part_fits holds_list
list_held k size ws len have n room t =
    let h = and_left (holds_list k size ws len) _ t in
    record {
      fit = leb-true _ _ (and_right (every (room_for k size) ws) (leb (total (words_at size ws)) len) h);
      held = λ i lt. leb-true _ _
          (every_at (room_for k size) ws i []
          (and_left (every (room_for k size) ws) (leb (total (words_at size ws)) len) h) lt);
    }

total_more : (cs : List ℕ) (c : ℕ) → total (cs ++ (c ∷ [])) ≡ total cs + c
unfolding total
total_more [] c = omega arith
total_more (d ∷ cs) c = omega (arith, total_more cs c)

more_held : (k size : ℕ) (ws : List (List ℕ)) (w : List ℕ) (len have : ℕ) → Holding k size ws len
    → Fitting size ws len have (word k w) (word size w) → Holding k size (ws ++ (w ∷ [])) len
more_held k size ws w len have h f = record {
  fit = rw (words_more size ws w, total_more (words_at size ws) (word size w)) f.in_list;
  held = λ i li. by_test (ltb i (length ws))
      (λ t. let lt = ltb-true i (length ws) t in rw (get_or-append ws (w ∷ []) [] i lt) (h.held i lt))
      (λ t.
      let at : i ≡ length ws = omega (arith, ltb-false i (length ws) t, length-append ws (w ∷ []), li) in
      rw (at, get_or-append_seam ws w [] []) f.in_part);
}

stored_long : {A : Type 0} (at : ℕ) (new l : List A) → at + length new ≤ length l → length (stored at new l) ≡ length l
unfolding stored
stored_long at new l h =
    omega (
      arith,
      length-append (take at l) (new ++ drop (at + length new) l),
      length-append new
          (drop (at + length new) l),
      length-take-le at l (omega arith),
      length-drop (at + length new) l,
    )

-- a set with the cell is over a limit exactly if the same set with what was stored of it is: the words are the same
over_words : (ms : List Memory) (m d : Memory) → d.ynd ≡ m.ynd → over_set (ms ++ (d ∷ [])) ≡ over_set (ms ++ (m ∷ []))
unfolding over_set
over_words ms m d e =
    let long : length (ms ++ (d ∷ [])) ≡ length (ms ++ (m ∷ [])) = length-append ms (d ∷ [])
    ∙ sym (length-append ms (m ∷ [])) in
    let sum : nodes_together (ms ++ (d ∷ [])) ≡ nodes_together (ms ++ (m ∷ [])) = together_more ms d
    ∙ (λ i. nodes_together ms + (e i).node_count) ∙ sym (together_more ms m) in
    let any : any_over (ms ++ (d ∷ [])) ≡ any_over (ms ++ (m ∷ [])) = over_more ms d
    ∙ (λ i. any_over ms || over_limit (e i)) ∙ sym (over_more ms m) in
    λ i. ltb 9 (long i) || (ltb 65536 (sum i) || any i)

-- ---- the set after it

module _ (count : ℕ) (y : CellSet) (m : Memory) (sizes : Counts) (seven : length m.ynd.unknowns ≡ 7)
    (e : (join_cell count y m sizes).answer ≡ (Ok tt)) where
  abbrev es : List (List ℕ)
  es = take count y.members

  abbrev w : List ℕ
  w = entry_of m.ynd sizes

  abbrev z : CellSet
  z = joined_set count y m sizes

  j : Joins count y m sizes
  j = joins count y m sizes e

  fit : AllFit es (set_lengths y) (cell_lengths m) m.ynd sizes
  fit = all_fit es (set_lengths y) (cell_lengths m) m.ynd sizes j.all

  abbrev z⁺ : CellSet
  z⁺ = cell_set (es ++ (w ∷ []))
      (stored (total (words_at 15 es)) (take m.ynd.node_count m.nodes) y.nodes)
      (stored (total (words_at 16 es)) (take m.ynd.link_count m.links) y.links)
      (stored (total (words_at 17 es)) (take m.ynd.junction_count m.junctions) y.junctions)
      (stored (total (words_at 18 es)) (take m.ynd.heightmap_count m.heights) y.heights)
      (stored (total (words_at 19 es)) (take m.ynd.ref_count m.refs) y.refs)

  z_is : z ≡ z⁺
  unfolding with_cell
  z_is =
      (λ i. used (j.counted i) (j.lists i))
      ∙ ap (λ (l : List (List ℕ)). cell_set l z⁺.nodes z⁺.links z⁺.junctions z⁺.heights z⁺.refs)
      (entries_more y.members count w j.entry)

  old_held : Holds (used count y)
  unfolding lack_for
  old_held =
      let a = lack_for es (set_lengths y) (cell_lengths m) m.ynd sizes in
      record {
        nodes_hold = list_held 10 15 es _ _ _ _ (not-false _ (passed a 0 j.all));
        links_hold = list_held 11 16 es _ _ _ _ (not-false _ (passed a 1 j.all));
        junctions_hold = list_held 12 17 es _ _ _ _ (not-false _ (passed a 2 j.all));
        heights_hold = list_held 13 18 es _ _ _ _ (not-false _ (passed a 3 j.all));
        refs_hold = list_held 14 19 es _ _ _ _ (not-false _ (passed a 4 j.all));
      }

  long : {A : Type 0} (size n room have : ℕ) (new l : List A) → have ≡ length new
      → Fitting size es (length l) have n room → length (stored (total (words_at size es)) (take n new) l) ≡ length l
  long size n room have new l c f =
      stored_long (total (words_at size es)) (take n new) l
      (omega (arith, length-take-le n new (omega (arith, f.in_cell)), f.in_part, f.in_list))

  new_held : Holds z⁺
  new_held = record {
    nodes_hold = rw (long 15 m.ynd.node_count sizes.nodes (length m.nodes) m.nodes y.nodes refl fit.nodes)
        (more_held 10 15 es w (length y.nodes) (length m.nodes) old_held.nodes_hold fit.nodes);
    links_hold = rw (long 16 m.ynd.link_count sizes.links (length m.links) m.links y.links refl fit.links)
        (more_held 11 16 es w (length y.links) (length m.links) old_held.links_hold fit.links);
    junctions_hold = rw (long 17 m.ynd.junction_count sizes.junctions
        (length m.junctions) m.junctions y.junctions refl fit.junctions)
        (more_held 12 17 es w (length y.junctions) (length m.junctions) old_held.junctions_hold fit.junctions);
    heights_hold = rw (long 18 m.ynd.heightmap_count sizes.heights
        (length m.heights) m.heights y.heights refl fit.heights)
        (more_held 13 18 es w (length y.heights) (length m.heights) old_held.heights_hold fit.heights);
    refs_hold = rw (long 19 m.ynd.ref_count sizes.refs (length m.refs) m.refs y.refs refl fit.refs)
        (more_held 14 19 es w (length y.refs) (length m.refs) old_held.refs_hold fit.refs);
  }

  abbrev old : List Memory
  old = members_of (used count y)

  abbrev m⁺ : Memory
  m⁺ = joined_member es y m sizes

  all : members_of z ≡ old ++ (m⁺ ∷ [])
  all = (λ i. members_of (used (j.counted i) (j.lists i))) ∙ members_joined count y m sizes seven fit j.entry

  z_usable : Usable z
  z_usable = record {
    within = ap over_set all ∙ over_words old m m⁺ refl ∙ j.within;
    whole = subst (λ (q : CellSet). Holds q) (sym z_is) new_held;
  }

  one_more_law : length z.members ≡ length es + 1
  one_more_law = ap (λ (q : CellSet). length q.members) z_is ∙ length-append es (w ∷ [])

  it : member_in z (length es) ≡ m⁺
  it =
      ap (λ (l : List Memory). member_at l (length es)) all
      ∙ ap (λ (k : ℕ). member_at (old ++ (m⁺ ∷ [])) k) (sym (members_many (used count y)))
      ∙ get_or-append_seam old m⁺ [] no_memory

  read_kept : CellAsRead m → CellAsRead m⁺
  read_kept r = record {
    system = r.system;
    graphics = r.graphics;
    lent = r.lent;
    accepted = r.accepted;
    same_cell = cell_joined count y m sizes seven fit ∙ r.same_cell;
    within = r.within;
    nodes_lie = omega (
      arith,
      part_long
          (total (words_at 15 es)) sizes.nodes m.ynd.node_count m.nodes y.nodes fit.nodes.in_cell fit.nodes.in_part
          fit.nodes.in_list,
      fit.nodes.in_part,
    );
    links_lie = omega (
      arith,
      part_long
          (total (words_at 16 es)) sizes.links m.ynd.link_count m.links y.links fit.links.in_cell fit.links.in_part
          fit.links.in_list,
      fit.links.in_part,
    );
  }

  kept_at : (i : ℕ) → i < length es → member_in z i ≡ member_in (used count y) i
  kept_at i lt =
      ap (λ (l : List Memory). member_at l i) all
      ∙ get_or-append old (m⁺ ∷ []) no_memory i
      (let q : i < length old = omega (arith, members_many (used count y)) in q)

  stores : JoinStores count y m sizes
  stores = record {
    one_more = one_more_law;
    counted = j.counted;
    others = kept_at;
    same_cell = ap cell_of it ∙ cell_joined count y m sizes seven fit;
    all_cells =
        ap cells_of all ∙ map-append cell_of old (m⁺ ∷ [])
        ∙ ap (λ (c : Cell). cells_of old ++ (c ∷ [])) (cell_joined count y m sizes seven fit);
    as_read = λ r. rw it (read_kept r);
    all_read = λ o r i lt. by_test (ltb i (length es))
        (λ t. let li = ltb-true i (length es) t in rw (kept_at i li) (o i li))
        (λ f. let at : i ≡ length es =
        omega (arith, ltb-false i (length es) f, one_more_law, lt) in rw (at, it) (read_kept r));
    usable = may_be_used z z_usable;
  }

  -- ---- leaving again

  abbrev area : ℕ
  area = area_of (cell_of m)

  first_last : (xs : List ℕ) → is_some (first_with xs area) ≡ false
      → first_with (xs ++ (area ∷ [])) area ≡ some (length xs)
  unfolding first_with
  first_last [] n = rw (eq-eqb area area refl) refl
  first_last (x ∷ xs) n = go (eqb x area) (first_with xs area) (first_last xs) n
    where
      go : (b : Bool) (o : Option ℕ) → (is_some o ≡ false → first_with (xs ++ (area ∷ [])) area ≡ some (length xs))
          → is_some (or_later b o) ≡ false → or_later b (first_with (xs ++ (area ∷ [])) area) ≡ some (suc (length xs))
      go true o h t = true_false t
      go false none h t = rw (h refl) refl
      go false (some q) h t = true_false t

  found : first_of_area z area ≡ some (length es)
  unfolding first_of_area
  found =
      let os = areas (cells_of old) in
      let many : length os ≡ length es = length-map (cells_of old) area_of ∙ length-map old cell_of
      ∙ members_many (used count y) in
      (λ i. first_with (areas (cells_of (all i))) area)
      ∙ ap (λ (l : List Cell). first_with (areas l) area) (map-append cell_of old (m⁺ ∷ []))
      ∙ ap (λ (l : List ℕ). first_with l area) (map-append area_of (cells_of old) (cell_of m⁺ ∷ []))
      ∙ ap (λ (c : Cell). first_with (os ++ (area_of c ∷ [])) area) (cell_joined count y m sizes seven fit)
      ∙ first_last os j.not_there
      ∙ ap some many

  removed_last : (xs : List Memory) (d : Memory) → removed (length xs) (xs ++ (d ∷ [])) ≡ xs
  unfolding removed
  removed_last [] d = refl
  removed_last (x ∷ xs) d = ap {B = List Memory} (λ l. x ∷ l) (removed_last xs d)

  leaves : leave_area z area ≡ set_left (Ok tt) (length z.members - 1) (without z (length es))
  unfolding leave_area leave_causes
  leaves = rw (found, may_be_used z z_usable) refl

  -- ---- handed back before it leaves

  may_leave : decided (leave_causes z area) ≡ (Ok tt)
  unfolding leave_causes
  may_leave = rw (found, may_be_used z z_usable) refl

  leaver_is : leaver z area ≡ m⁺
  unfolding leaver
  leaver_is = rw found it

  hands : (lent : Memory) → lack_of_back m lent ≡ (Ok tt) → (hand_back z area lent).answer ≡ (Ok tt)
  unfolding hand_back hand_causes
  hands lent room =
      ap (λ (a : Answer). (unless-left a lent (done (copied (leaver z area) lent))).answer)
      (ap (λ (a : Answer). handed_on a (lack_of_back (leaver z area) lent)) may_leave
      ∙ ap (λ (d : Memory). lack_of_back d lent) leaver_is ∙ room)

  then_leave : JoinThenLeave count y m sizes
  then_leave = record {
    left_again = ap (λ (r : SetLeft). r.answer) leaves;
    it_leaves = found;
    as_many = ap (λ (r : SetLeft). r.count) leaves ∙ omega (arith, one_more_law);
    set_back =
        leave_done z area (length es) found (ap (λ (r : SetLeft). r.answer) leaves)
        ∙ ap (removed (length es)) all
        ∙ ap (λ (k : ℕ). removed k (old ++ (m⁺ ∷ []))) (sym (members_many (used count y)))
        ∙ removed_last old m⁺;
    cell_back = λ lent t. handed_cell z area lent (length es) found t ∙ ap cell_of it
        ∙ cell_joined count y m sizes seven fit;
    has_room = hands;
  }

pub join_stores : JoinStoresTheorem
join_stores = stores

pub join_then_leave : JoinThenLeaveTheorem
join_then_leave = then_leave

-- ---- a cell read, then joined

pub seven_read : (s g : List ℕ) (m : Memory) → (read_of s g m).answer ≡ (Ok tt)
    → length (read_of s g m).memory.ynd.unknowns ≡ 7
unfolding filled cell_read
seven_read s g m e = read_all (λ d. length d.ynd.unknowns ≡ 7) s g m (λ n l j h r held. seven_words s) e

pub read_then_join : ReadThenJoin
read_then_join s g lent count y sizes a e =
    (join_stores count y (read_of s g lent).memory sizes (seven_read s g lent a) e).as_read (as_read s g lent a)
