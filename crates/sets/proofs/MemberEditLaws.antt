-- Edits of a member: where its parts lie, and the set after the cell's own edit.
use Rattle.sets.proofs.SetLists.{firsts, firsts_all}
use Prim.Native.Nat.{ℕ, ◌-◌, ◌≤◌, ◌<◌}
use mathlib.Core.Path.{◌≡◌, refl, ap, sym, ◌∙◌}
use mathlib.Core.Bool.{Bool, true, false, ◌||◌}
use mathlib.Core.List.{List, [], ◌++◌}
use lib.Dec.{ltb, leb}
use lib.ListN.{length, get_or, set, take, drop, replicate, length-replicate}
use lib.Seq.{set-get_or}
use borrow.Author.Tests.{le-ltb, le-leb, lt-leb}
use Rattle.numbers.specs.Refusals.{Cause, decided}
use Rattle.records.specs.Put.{put}
use Rattle.cells.specs.Memory.{Memory, memory, Left, left}
use Rattle.cells.specs.declared.ynd.Ynd.{Ynd}
use Rattle.cells.proofs.Sequences.Tests.{by_test, true_false}
use Rattle.sets.specs.MemberList.{nodes_together, over_set}
use Rattle.sets.specs.CellSet.{CellSet, cell_set, ynd_of, words_at, total, parts_in, members_of}
use Rattle.sets.specs.CellSet.{set_causes}
use Rattle.sets.specs.Join.{set_lengths}
use Rattle.cells.specs.Memory.{per_list}
use Rattle.sets.specs.SetParts.{bare}
use Rattle.sets.specs.SetStored.{member_in, ask_causes, entry_with, with_member}
use Rattle.sets.specs.MemberParts.{between, entry_ask, opened, part_memory}
use Rattle.sets.specs.MemberEdit.{set_edited, lists_left, edited_in, edit_by, add_causes}
use Rattle.cells.specs.declared.counts.Counts.{Counts}
use Rattle.sets.specs.declared.member.MemberPart.{MemberPart}
use Rattle.sets.proofs.RoomLaws.{members_over, few_members, bare_together, from_together}
use Rattle.sets.proofs.MemberPartLaws.{OpenAt, ask_held, open_in, put_part, put_back}
use Rattle.sets.proofs.MemberAskLaws.{Asks, not_called}
use Rattle.sets.proofs.EditsKept.{Kept}
use Rattle.std.specs.Result.{IsErrAnd}
use Rattle.std.proofs.lemmas.Result.{err_from_is_err_and}
use Rattle.std.specs.Prelude.{Result, Ok, Err}
use Rattle.numbers.specs.Refusals.{Answer}
use Rattle.numbers.specs.declared.refusal.Refusal.{Refusal}
use Rattle.numbers.specs.declared.refusal.Refusal.TheVariants.{NoSuchPlace, AtLimit}
use Rattle.cells.specs.Nodes.{no_entry, no_link, no_map, no_ref}
use Rattle.cells.specs.declared.node_entry.NodeEntry.{NodeEntry}
use Rattle.cells.specs.declared.link.PathLink.{PathLink}
use Rattle.cells.specs.declared.junction_entry.JunctionEntry.{JunctionEntry}
use Rattle.records.specs.declared.junction_ref.NodeJunctionRef.{NodeJunctionRef}

-- ---- bounds, whatever lists aren't lent

pub lens_lie : (ws : List (List ℕ)) (lens : Counts) (j : ℕ) (p : MemberPart) → Ok p ≡ opened ws lens j
    → (j < length ws) × ((p.a.nodes ≤ p.e.nodes) × (p.e.nodes ≤ lens.nodes))
    × ((p.a.links ≤ p.e.links) × (p.e.links ≤ lens.links))
    × ((p.a.junctions ≤ p.e.junctions) × (p.e.junctions ≤ lens.junctions))
    × ((p.a.heights ≤ p.e.heights) × (p.e.heights ≤ lens.heights))
    × ((p.a.refs ≤ p.e.refs) × (p.e.refs ≤ lens.refs))
lens_lie ws lens j p e =
    let y = cell_set ws (replicate lens.nodes no_entry) (replicate lens.links no_link) (replicate lens.junctions no_map)
    (replicate {A = ℕ} lens.heights 0) (replicate lens.refs no_ref) in
    let same : set_lengths y ≡ lens =
    λ i. per_list (length-replicate lens.nodes no_entry i) (length-replicate lens.links no_link i)
    (length-replicate lens.junctions no_map i) (length-replicate {A = ℕ} lens.heights 0 i)
    (length-replicate lens.refs no_ref i) in
    let k = open_in y j p lens (ap (λ (l : Counts). decided (entry_ask ws l j)) (sym same) ∙ ask_held y j) e in
    let l = rw same at k.lie in (
      k.may.there,
      (l.nodes_rise, l.nodes_end),
      (l.links_rise, l.links_end),
      (l.junctions_rise, l.junctions_end),
      (l.heights_rise, l.heights_end),
      (l.refs_rise, l.refs_end),
    )

-- ---- a member's own memory, put where it is

entry_back : (w : List ℕ) → length w ≡ 20 → entry_with (ynd_of w) w ≡ w
unfolding ynd_of firsts
entry_back w e = firsts_all 20 0 w (sym e)

-- ---- what an edit leaves of one list

-- the list `new` is l with x where l's part from a up to e was
pub record Wrote {A : Type 0} (a e : ℕ) (l x new : List A) : Type 0 where
  pub is : a ≤ e → e ≤ length l → new ≡ put l a x

pub wrote : {A : Type 0} {a e : ℕ} {l x : List A} → length x ≡ length (between a e l)
    → Wrote a e l x (take a l ++ (x ++ drop (e - a) (drop a l)))
wrote {A} {a} {e} {l} {x} n = record { is = λ rise end. put_part l a e x x rise end n refl }

pub stays : {A : Type 0} {a e : ℕ} {l : List A} → Wrote a e l (between a e l) l
stays {A} {a} {e} {l} = record { is = λ rise end. sym (put_back l a (e - a)) }

-- ---- an edit

module _ (y : CellSet) (j : ℕ) (edit : Memory → Left) (causes : List Cause) where
  pub edit_not : {x : Refusal} → decided causes ≡ Err x → set_edited (Err x) y ≡ edit_by causes y j edit
  unfolding edit_by
  edit_not e = rw e

  -- what the `?` at the opening gives
  pub not_edited : {x : Refusal} {r : Answer} {lens : Counts} {o : Result MemberPart Refusal} → decided causes
      ≡ decided (ask_causes y j)
      → Asks lens y → o ≡ opened y.members lens j → o ≡ Err x → IsErrAnd r (λ z. z ≡ x)
      → set_edited r y ≡ edit_by causes y j edit
  unfolding edit_by
  not_edited {x} {r} passed f eo is e =
      rw passed (not_called j f eo (λ (a : Answer). set_edited a y) (edited_in y j (edit (member_in y j))) is e)

module _ {y : CellSet} {j : ℕ} {p : MemberPart} (k : OpenAt y j p)
    (told : (i : ℕ) → i < length y.members → length (get_or y.members i []) ≡ 20) where
  abbrev part : Memory
  part = part_memory p.ynd p.a p.e y

  abbrev with_ynd : Ynd → List (List ℕ)
  with_ynd v = set y.members j (entry_with v (get_or y.members j []))

  own_entry : with_ynd p.ynd ≡ y.members
  own_entry =
      ap with_ynd k.own
      ∙ ap (set y.members j) (entry_back (get_or y.members j []) (told j k.may.there))
      ∙ set-get_or y.members j []

  part_back : with_member y j part ≡ y
  unfolding with_member
  part_back =
      let s = sym k.starts in
      λ i. record {
        members = own_entry i;
        nodes = ((λ t. put y.nodes (s t).nodes part.nodes) ∙ put_back y.nodes p.a.nodes _) i;
        links = ((λ t. put y.links (s t).links part.links) ∙ put_back y.links p.a.links _) i;
        junctions = ((λ t. put y.junctions (s t).junctions part.junctions) ∙ put_back y.junctions p.a.junctions _) i;
        heights = ((λ t. put y.heights (s t).heights part.heights) ∙ put_back y.heights p.a.heights _) i;
        refs = ((λ t. put y.refs (s t).refs part.refs) ∙ put_back y.refs p.a.refs _) i;
      }

  -- a refused edit of a cell leaves its memory; what this one leaves in each list
  module _ {edit : Memory → Left} (kept : Kept edit) {n N : List NodeEntry} {l L : List PathLink}
      {i J : List JunctionEntry} {r R : List NodeJunctionRef} {h H : List ℕ}
      (wn : Wrote p.a.nodes p.e.nodes y.nodes n N) (wl : Wrote p.a.links p.e.links y.links l L)
      (wj : Wrote p.a.junctions p.e.junctions y.junctions i J) (wh : Wrote p.a.heights p.e.heights y.heights h H)
      (wr : Wrote p.a.refs p.e.refs y.refs r R) where
    settled : (a : Answer) → (edit part).answer ≡ a
        → with_member y j (edit part).memory ≡ lists_left a y j (edit part).memory
    settled (Ok tt) e = refl
    settled (Err x) e = ap (with_member y j) (kept part x e) ∙ part_back

    pub leaves : (causes : List Cause) → decided causes ≡ decided (ask_causes y j)
        → {a : Answer} {v : Ynd} {W : List (List ℕ)}
        → ◌≡◌ {A = Left} (record { answer = a; memory = memory v n l i h r }) (edit part) → W ≡ with_ynd v
        → set_edited a (cell_set W N L J H R) ≡ edit_by causes y j edit
    unfolding edit_by with_member
    leaves causes passed {a} {v} {W} e eW =
        let s = k.starts in
        let lie = k.lie in
        let lists : cell_set W N L J H R ≡ with_member y j (edit part).memory =
        λ t. record {
          members = (eW ∙ ap (λ (z : Left). with_ynd z.memory.ynd) e) t;
          nodes = (wn.is lie.nodes_rise lie.nodes_end ∙ (λ u. put y.nodes (s u).nodes (e u).memory.nodes)) t;
          links = (wl.is lie.links_rise lie.links_end ∙ (λ u. put y.links (s u).links (e u).memory.links)) t;
          junctions = (wj.is lie.junctions_rise lie.junctions_end
              ∙ (λ u. put y.junctions (s u).junctions (e u).memory.junctions)) t;
          heights = (wh.is lie.heights_rise lie.heights_end
              ∙ (λ u. put y.heights (s u).heights (e u).memory.heights)) t;
          refs = (wr.is lie.refs_rise lie.refs_end ∙ (λ u. put y.refs (s u).refs (e u).memory.refs)) t;
        } in
        rw (passed, k.asked) (
        (λ t. set_edited (e t).answer ((lists ∙ settled (edit part).answer refl) t))
        ∙ ap (λ (m : Memory). edited_in y j (edit m)) k.part)

    -- an edit of entries alone
    pub stored : {a : Answer} → ◌≡◌ {A = Left} (record { answer = a; memory = memory p.ynd n l i h r }) (edit part)
        → set_edited a (cell_set y.members N L J H R) ≡ edit_by (ask_causes y j) y j edit
    stored e = leaves (ask_causes y j) refl e (sym own_entry)

    -- one that gives another `Ynd`, or a refusal
    module _ (causes : List Cause) (passed : decided causes ≡ decided (ask_causes y j)) {q : Result Ynd Refusal}
        (e : left p.ynd q n l i h r ≡ edit part) where
      pub edited : {v : Ynd} {W : List (List ℕ)} → q ≡ Ok v → W ≡ with_ynd v
          → set_edited (Ok tt) (cell_set W N L J H R) ≡ edit_by causes y j edit
      edited is = leaves causes passed (ap (λ (z : Result Ynd Refusal). left p.ynd z n l i h r) (sym is) ∙ e)

      pub refused : {x : Refusal} {a : Answer} → q ≡ Err x → IsErrAnd a (λ z. z ≡ x)
          → set_edited a (cell_set y.members N L J H R) ≡ edit_by causes y j edit
      refused {x} {a} is ea =
          let w = err_from_is_err_and a ea in
          ap (λ (b : Answer). set_edited b (cell_set y.members N L J H R)) (w.1 ∙ ap Err w.2)
          ∙ leaves causes passed (ap (λ (z : Result Ynd Refusal). left p.ynd z n l i h r) (sym is) ∙ e) (sym own_entry)

-- ---- a node more

module _ (y : CellSet) (j : ℕ) where
  abbrev full : Bool
  full = ltb 9 (length y.members) || leb 65536 (total (words_at 10 y.members))

  together : nodes_together (members_of y) ≡ total (words_at 10 y.members)
  unfolding members_of
  together = from_together (parts_in y) 0 y.members ∙ bare_together y.members

  pub add_13 : length y.members ≤ j → decided (add_causes y j) ≡ Err NoSuchPlace
  unfolding add_causes
  add_13 h = rw (le-leb (length y.members) j h)

  pub add_full : j < length y.members → true ≡ full → decided (add_causes y j) ≡ Err AtLimit
  unfolding add_causes
  add_full lt e = rw (lt-leb (length y.members) j lt, members_over y, together) (
      by_test (over_set (bare y.members)) (λ t. rw t) (λ o.
      rw (o, at_limit (ltb 9 (length y.members)) (le-ltb 9 (length y.members) (few_members y.members o)) e)))
    where
      at_limit : (b : Bool) → b ≡ false → true ≡ b || leb 65536 (total (words_at 10 y.members))
          → leb 65536 (total (words_at 10 y.members)) ≡ true
      at_limit true f e = true_false f
      at_limit false f e = sym e

  pub add_room : j < length y.members → false ≡ full → decided (add_causes y j) ≡ decided (ask_causes y j)
  unfolding add_causes ask_causes set_causes
  add_room lt e = rw (lt-leb (length y.members) j lt, together, no_more (ltb 9 (length y.members)) e)
    where
      no_more : (b : Bool) → false ≡ b || leb 65536 (total (words_at 10 y.members))
          → leb 65536 (total (words_at 10 y.members)) ≡ false
      no_more true e = true_false (sym e)
      no_more false e = sym e
