-- What the call `set_sound` answers: each member's soundness by its parts, each link by its entry, and the causes.
use Rattle.std.proofs.lemmas.Bool.{not-false}
use Prim.Native.Nat.{ℕ, zero, suc, ◌+◌, ◌-◌, ◌≤◌, ◌<◌}
use native.Mathlib.Omega.{arith}
use native.Mathlib.Numerals.{add-one}
use mathlib.Core.Path.{◌≡◌, refl, ap, sym, subst, ◌∙◌}
use mathlib.Core.Bool.{Bool, true, false, not, ◌&&◌, ◌||◌}
use mathlib.Core.List.{List, []}
use lib.ListN.{length, get_or, take, drop, length-map, length-drop}
use lib.Seq.{get_or-take, length-take-le}
use borrow.Author.Tests.{ltb-false}
use Rattle.numbers.specs.Refusals.{Cause, decided}
use Rattle.numbers.proofs.Refusing.{passed}
use Rattle.cells.specs.Lists.{every}
use Rattle.cells.specs.Memory.{Memory, memory}
use Rattle.cells.specs.Nodes.{no_entry, number_at}
use Rattle.cells.specs.Cell.{Cell, numbers}
use Rattle.cells.specs.CellOf.{node_with, nodes_of, refs_of, cell_of}
use Rattle.cells.specs.Lookup.{first_with, is_some}
use Rattle.cells.specs.LookupCall.{numbers_in}
use Rattle.cells.specs.RenumberParts.{Indexed, Leads}
use Rattle.cells.specs.declared.ynd.Ynd.{Ynd}
use Rattle.walks.specs.Sound.{differing, node_sound, ref_named, is_empty, sound}
use Rattle.walks.specs.SoundCall.{verdict, indexed, SoundLeft, sound_left, sound_call}
use Rattle.walks.proofs.Ranges.{every_mapped}
use Rattle.walks.proofs.SoundWords.{numbers_same}
use Rattle.walks.proofs.SoundCases.{says}
use Rattle.sets.specs.Members.{cell_at, areas, member_for}
use Rattle.sets.specs.MemberList.{over_set, unless}
use Rattle.sets.specs.SetRenumber.{is_member}
use Rattle.sets.specs.SetSound.{set_sound}
use Rattle.sets.specs.CellSet.{CellSet, ynd_of, members_of, holds_list}
use Rattle.sets.specs.Leave.{start_of}
use Rattle.sets.specs.SetSoundCall.{indexed_set, sound_causes, set_sound_call}
use Rattle.sets.specs.SetParts.{Holding, count_of, bare, areas_of}
use Rattle.sets.specs.SetSoundParts.{all_below, link_meets, node_meets, member_meets, judged_at, word_meets}
use Rattle.sets.specs.SetSoundParts.{words_meet}
use Rattle.sets.specs.SetSoundParts.{ShortNumbers, numbers_of, part_meets, SetHeld, indexed_to, entries_causes}
use Rattle.sets.specs.CellSet.{cells_in}
use Rattle.sets.proofs.PartLaws.{rest}
use Rattle.sets.proofs.CellSetLaws.{members_many, areas_held}
use Rattle.sets.proofs.RoomLaws.{few_members, members_over, holding}
use Rattle.sets.proofs.PartLaws.{part_inside}
use Rattle.sets.proofs.MemberCells.{numbers_at, nodes_at, refs_at}
use Rattle.sets.proofs.CrossCases.{each_within}
use Rattle.sets.proofs.SetJudged.{set_judged}
use Rattle.sets.proofs.SetScratch.{indexed_leads, indexed_long, indexed_set_law, to_start, to_next}
use Rattle.std.specs.Prelude.{Result, Ok, Err}
use Rattle.sets.specs.declared.world.World.{World}
use Rattle.sets.specs.WorldParts.{set_of}
use Rattle.std.specs.Result.{result_unwrap_or}
use Rattle.numbers.specs.Refusals.{Answer}
use Rattle.numbers.specs.declared.refusal.Refusal.{Refusal}
use Rattle.cells.specs.declared.junction_entry.JunctionEntry.{JunctionEntry}
use Rattle.records.specs.declared.junction_ref.NodeJunctionRef.{NodeJunctionRef}
use Rattle.cells.specs.declared.node_entry.NodeEntry.{NodeEntry}
use Rattle.cells.specs.declared.link.PathLink.{PathLink}
use Rattle.walks.proofs.Ranges.{every_same}

-- ---- one member's soundness

-- it goes by nodes and refs alone
sound_same : (c d : Cell) → c.nodes ≡ d.nodes → c.refs ≡ d.refs → sound c ≡ sound d
unfolding sound
sound_same c d en er = λ i. is_empty (en i) ||
    (every (node_sound (en i)) (en i) && differing (numbers (en i)) && every (ref_named (en i)) (er i))

module _ (y : CellSet) (h : SetHeld y.members y.nodes y.links y.refs) (k : ℕ) (lt : k < length y.members) where
  abbrev ws : List (List ℕ)
  ws = y.members

  abbrev whole : List JunctionEntry → List ℕ → Memory
  whole js hs = memory (ynd_of (get_or ws k [])) (drop (start_of 15 ws k) y.nodes) (drop (start_of 16 ws k) y.links) js
      hs (drop (start_of 19 ws k) y.refs)

  pub numbers_are : numbers (cell_at (cells_in y) k).nodes ≡ numbers_of ws y.nodes k
  unfolding numbers_of
  numbers_are = numbers_at y k lt (h.nodes_hold.held k lt)

  module _ (js : List JunctionEntry) (hs : List ℕ) where
    sound_whole : sound (cell_of (whole js hs)) ≡ sound (cell_at (cells_in y) k)
    unfolding cell_of nodes_of refs_of ynd_of
    sound_whole = sound_same (cell_of (whole js hs)) (cell_at (cells_in y) k)
        (sym (nodes_at y k lt (h.nodes_hold.held k lt) (h.links_hold.held k lt)))
        (sym (refs_at y k lt (h.refs_hold.held k lt)))

    scratch_whole : numbers (cell_of (whole js hs)).nodes ≡ numbers_of ws y.nodes k
    unfolding numbers_of ynd_of
    scratch_whole = numbers_same (whole js hs)

    called_whole : (s : List ℕ) → 65536 ≤ length s → sound_call (whole js hs) s
        ≡ sound_left (verdict (sound (cell_at (cells_in y) k))) (indexed (numbers_of ws y.nodes k) 0 s)
    unfolding ynd_of
    called_whole s room =
        let ln : count_of 10 ws k ≤ length (drop (start_of 15 ws k) y.nodes) =
        omega (
          arith,
          length-drop (start_of 15 ws k) y.nodes,
          part_inside h.nodes_hold k lt,
          h.nodes_hold.held k lt,
        ) in
        let ll : count_of 11 ws k ≤ length (drop (start_of 16 ws k) y.links) =
        omega (
          arith,
          length-drop (start_of 16 ws k) y.links,
          part_inside h.links_hold k lt,
          h.links_hold.held k lt,
        ) in
        let lr : count_of 14 ws k ≤ length (drop (start_of 19 ws k) y.refs) =
        omega (
          arith,
          length-drop (start_of 19 ws k) y.refs,
          part_inside h.refs_hold k lt,
          h.refs_hold.held k lt,
        ) in
        says (whole js hs) s (h.within k lt) ln ll lr room
        ∙ (λ i. sound_left (verdict (sound_whole i)) (indexed (scratch_whole i) 0 s))

    -- the call, lent the parts from their starts
    member_called : {v : Ynd} {a c e : ℕ} (s : List ℕ) → v ≡ ynd_of (get_or ws k []) → a ≡ start_of 15 ws k
        → c ≡ start_of 16 ws k → e ≡ start_of 19 ws k → 65536 ≤ length s
        → sound_call (memory v (take (length y.nodes - a) (drop a y.nodes))
        (take (length y.links - c) (drop c y.links))
        js hs (take (length y.refs - e) (drop e y.refs))) s
        ≡ sound_left (verdict (sound (cell_at (cells_in y) k))) (indexed (numbers_of ws y.nodes k) 0 s)
    member_called {v} {a} {c} {e} s ev ea ec ee room =
        (λ i. sound_call (memory v (rest y.nodes a i) (rest y.links c i) js hs (rest y.refs e i)) s)
        ∙ (λ i. sound_call (memory (ev i) (drop (ea i) y.nodes) (drop (ec i) y.links) js hs (drop (ee i) y.refs)) s)
        ∙ called_whole s room

  -- the scratch after it leads to the member's nodes
  ready_of : (s now : List ℕ) → ShortNumbers (take (count_of 10 ws k) (drop (start_of 15 ws k) y.nodes))
      → 65536 ≤ length s → now ≡ indexed (numbers_of ws y.nodes k) 0 s
      → Leads (numbers_in (count_of 10 ws k) (drop (start_of 15 ws k) y.nodes)) now
  unfolding numbers_of
  ready_of s now all room e =
      let d = drop (start_of 15 ws k) y.nodes in
      let n = count_of 10 ws k in
      let fits : n ≤ length d = omega (
        arith,
        length-drop (start_of 15 ws k) y.nodes,
        part_inside h.nodes_hold k lt,
        h.nodes_hold.held k lt,
      ) in
      let each : (j : ℕ) → j < n → number_at d j < 65536 = λ j lj.
      rw (get_or-take n d j no_entry lj) at (all.short j (omega (arith, length-take-le n d fits))) in
      record {
        fits = omega (arith, ap length e, indexed_long (numbers_in n d) 0 s);
        indexed = subst (λ (t : List ℕ). Indexed (numbers_in n d) t) (sym e) (indexed_leads n d s fits room each);
      }

  -- ---- the links of the member i that name it

  module _ (all : List ℕ) (ea : all ≡ areas (cells_in y)) (i : ℕ) (li : i < length y.members) where
    abbrev cs : List Cell
    cs = cells_in y

    abbrev ks : List ℕ
    ks = numbers_of ws y.nodes k

    abbrev pool : List PathLink
    pool = take (count_of 11 ws i) (drop (start_of 16 ws i) y.links)

    link_same : (w : PathLink) → link_meets cs k i w ≡ word_meets all k ks i w
    unfolding word_meets
    link_same w = λ j. not (is_member k (member_for (sym ea j) i w.area_id)) || is_some
        (first_with (numbers_are j) w.node_id)

    node_same : (w : NodeEntry) → node_meets cs k i (node_with pool w) ≡ words_meet all k ks i pool w
    unfolding words_meet
    node_same w =
        every_same (link_meets cs k i) (word_meets all k ks i) link_same (take w.link_count (drop w.link_id pool))

    pub part_same : part_meets all ws y.nodes y.links k i ≡ member_meets cs k i
    unfolding part_meets nodes_of ynd_of
    part_same = sym (
        ap (every (node_meets cs k i)) (nodes_at y i li (h.nodes_hold.held i li) (h.links_hold.held i li))
        ∙ every_mapped (node_meets cs k i) (node_with pool) (words_meet all k ks i pool) node_same
        (take (count_of 10 ws i) (drop (start_of 15 ws i) y.nodes)))

-- ---- all members

module _ (y : CellSet) (h : SetHeld y.members y.nodes y.links y.refs) where
  cells_many : length (cells_in y) ≡ length y.members
  cells_many = length-map (members_of y) cell_of ∙ members_many y

  parts_same : (all : List ℕ) → all ≡ areas_of y.members y.nodes → (k : ℕ) → k < length y.members → (n : ℕ)
      → n ≤ length y.members
      → all_below (part_meets all y.members y.nodes y.links k) n ≡ all_below (member_meets (cells_in y) k) n
  unfolding all_below
  parts_same all e k lk zero le = refl
  parts_same all e k lk (suc n) le = λ i. parts_same all e k lk n (omega arith) i && part_same y h k lk all (e
      ∙ areas_held y) n (omega arith) i

  judged_by : (all : List ℕ) → all ≡ areas_of y.members y.nodes → (k : ℕ) → k < length y.members
      → true ≡ sound (cell_at (cells_in y) k)
      → all_below (part_meets all y.members y.nodes y.links k) (length y.members)
      ≡ judged_at (cells_in y) (length y.members) k
  unfolding judged_at
  judged_by all e k lk t = parts_same all e k lk (length y.members) (omega arith) ∙ rw (← t)

  all_judged : all_below (judged_at (cells_in y) (length y.members)) (length y.members) ≡ set_sound (cells_in y)
  all_judged = (λ i. all_below (judged_at (cells_in y) (sym cells_many i)) (sym cells_many i))
      ∙ set_judged (cells_in y)

  all_indexed : (s : List ℕ) → indexed_to (numbers_of y.members y.nodes) (length y.members) s
      ≡ indexed_set (cells_in y) s
  all_indexed s =
      ap (λ (n : ℕ). indexed_to (numbers_of y.members y.nodes) n s) (sym cells_many)
      ∙ indexed_set_law (cells_in y) (numbers_of y.members y.nodes) s
      (λ k lt. numbers_are y h k (omega (arith, cells_many)))

pub none_judged : (ds : List Cell) (n : ℕ) → true ≡ all_below (judged_at ds n) 0
unfolding all_below
none_judged ds n = refl

pub judged_next : (ds : List Cell) (n k : ℕ) → all_below (judged_at ds n) (k + 1)
    ≡ (all_below (judged_at ds n) k && judged_at ds n k)
unfolding all_below
judged_next ds n k = ap (all_below (judged_at ds n)) (add-one k)

-- ---- a set that links lead through, with refs that hold its members

module _ (x : World) (refs : List NodeJunctionRef) (hr : Holding 14 19 x.members.now (length refs)) where
  held : SetHeld x.members.now x.nodes.now x.links.now refs
  held = record {
    few = x.lent.few;
    within = x.lent.within;
    nodes_hold = x.lent.nodes_hold;
    links_hold = x.links_hold;
    refs_hold = hr;
  }

  pub all_told : {n : ℕ} {b : Bool} (js : List JunctionEntry) (hs : List ℕ) → n ≡ length x.members.now
      → b ≡ all_below (judged_at (cells_in (set_of x js hs refs)) (length x.members.now)) n → b
      ≡ set_sound (cells_in (set_of x js hs refs))
  all_told js hs en e =
      e ∙ ap (all_below (judged_at (cells_in (set_of x js hs refs)) (length x.members.now))) en
      ∙ all_judged (set_of x js hs refs) held

  module _ (k : ℕ) (lt : k < length x.members.now) where
    -- the member k, by the cell's own call from where its parts start
    pub member_told : {v : Ynd} {a c e : ℕ} (r : Result Bool Refusal) (s : List ℕ) {now : List ℕ} {b : Bool}
        → v ≡ ynd_of (get_or x.members.now k []) → a ≡ start_of 15 x.members.now k → c ≡ start_of 16 x.members.now k
        → e ≡ start_of 19 x.members.now k
        → 65536 ≤ length s
        → ((js : List JunctionEntry) (hs : List ℕ) → sound_left r now
        ≡ sound_call (memory v (take (length x.nodes.now - a) (drop a x.nodes.now))
        (take (length x.links.now - c) (drop c x.links.now)) js hs (take (length refs - e) (drop e refs))) s)
        → b ≡ result_unwrap_or r false
        → ((js : List JunctionEntry) (hs : List ℕ) → b ≡ sound (cell_at (cells_in (set_of x js hs refs)) k))
        × (now ≡ indexed (numbers_of x.members.now x.nodes.now k) 0 s)
    member_told r s ev ea ec ee room call eb =
        let told = λ (js : List JunctionEntry) (hs : List ℕ).
        call js hs ∙ member_called (set_of x js hs refs) held k lt js hs s ev ea ec ee room in (
          λ js hs. eb ∙ ap (λ (l : SoundLeft). result_unwrap_or l.answer false) (told js hs),
          ap (λ (l : SoundLeft). l.scratch) (told [] []),
        )

    pub ready_at : (s now : List ℕ)
        → ShortNumbers (take (count_of 10 x.members.now k) (drop (start_of 15 x.members.now k) x.nodes.now))
        → 65536 ≤ length s → now ≡ indexed (numbers_of x.members.now x.nodes.now k) 0 s
        → Leads (numbers_in (count_of 10 x.members.now k) (drop (start_of 15 x.members.now k) x.nodes.now)) now
    ready_at = ready_of (set_of x [] [] refs) held k lt

    -- it is not sound, or else its links decide
    pub unsound_at : (js : List JunctionEntry) (hs : List ℕ)
        → sound (cell_at (cells_in (set_of x js hs refs)) k) ≡ false
        → judged_at (cells_in (set_of x js hs refs)) (length x.members.now) k ≡ false
    unfolding judged_at
    unsound_at js hs e = rw e

    pub judged_told : (js : List JunctionEntry) (hs : List ℕ)
        → sound (cell_at (cells_in (set_of x js hs refs)) k) ≡ true
        → judged_at (cells_in (set_of x js hs refs)) (length x.members.now) k
        ≡ all_below (part_meets x.areas.now x.members.now x.nodes.now x.links.now k) (length x.members.now)
    judged_told js hs e = sym (judged_by (set_of x js hs refs) held x.areas.now x.lent.areas_are k lt (sym e))

-- ---- the call

module _ (ws : List (List ℕ)) (nodes : List NodeEntry) (links : List PathLink) (refs : List NodeJunctionRef)
    (room : ℕ) (done : (Ok tt)
    ≡ decided (entries_causes ws (length nodes) (length links) (length refs) room)) where
  abbrev causes : List Cause
  causes = entries_causes ws (length nodes) (length links) (length refs) room

  over_none : over_set (bare ws) ≡ false
  unfolding entries_causes
  over_none = passed causes 0 (sym done)

  pub held_of : SetHeld ws nodes links refs
  unfolding entries_causes
  held_of = record {
    few = few_members ws over_none;
    within = each_within ws over_none;
    nodes_hold = holding 10 15 ws (length nodes)
        (not-false (holds_list 10 15 ws (length nodes)) (passed causes 1 (sym done)));
    links_hold = holding 11 16 ws (length links)
        (not-false (holds_list 11 16 ws (length links)) (passed causes 2 (sym done)));
    refs_hold = holding 14 19 ws (length refs)
        (not-false (holds_list 14 19 ws (length refs)) (passed causes 3 (sym done)));
  }

  pub room_of_law : 65536 ≤ room
  unfolding entries_causes
  room_of_law = ltb-false room 65536 (passed causes 4 (sym done))

module _ (y : CellSet) (s : List ℕ) where
  abbrev start : Answer
  start = decided (entries_causes y.members (length y.nodes) (length y.links) (length y.refs) (length s))

  causes_are : decided (sound_causes y (length s)) ≡ start
  unfolding sound_causes entries_causes
  causes_are = rw (members_over y) refl

  pub by_start : set_sound_call y s ≡ unless start (λ cause. sound_left (Err cause) s)
      (sound_left (verdict (set_sound (cells_in y))) (indexed_set (cells_in y) s))
  unfolding set_sound_call
  by_start = ap (λ (a : Answer). unless a (λ cause. sound_left (Err cause) s)
      (sound_left (verdict (set_sound (cells_in y))) (indexed_set (cells_in y) s))) causes_are

  pub call_judged : (Ok tt) ≡ start → {v : Bool} {now : List ℕ} → v ≡ set_sound (cells_in y)
      → now ≡ indexed_to (numbers_of y.members y.nodes) (length y.members) s → sound_left (Ok v) now
      ≡ set_sound_call y s
  call_judged e ev en =
      let h = held_of y.members y.nodes y.links y.refs (length s) e in
      (λ i. sound_left (Ok (ev i)) ((en ∙ all_indexed y h s) i))
      ∙ sym (by_start ∙ ap (λ (a : Answer). unless a (λ cause. sound_left (Err cause) s)
      (sound_left (verdict (set_sound (cells_in y))) (indexed_set (cells_in y) s))) (sym e))

-- for the check
pub ruleset judge_laws = (held_of, room_of_law, call_judged)

pub ruleset one_laws = (ready_at, unsound_at, judged_told)

pub ruleset loop_laws = (to_start, to_next, none_judged, judged_next, all_told)
