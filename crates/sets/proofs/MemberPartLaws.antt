-- A member by its parts of the lists: what a call on it asks, where the parts lie, and what is stored in them.
use Prim.Native.Nat.{ℕ, zero, suc, ◌+◌, ◌-◌, ◌≤◌, ◌<◌}
use native.Mathlib.Omega.{arith}
use mathlib.Core.Path.{◌≡◌, refl, ap, sym, ◌∙◌}
use mathlib.Core.Bool.{Bool, true, false, cond}
use mathlib.Core.List.{List, [], ◌∷◌, ◌++◌, append_assoc}
use lib.Dec.{leb}
use lib.ListN.{length, get_or, take, drop, length-drop, take-append-drop}
use lib.Seq.{length-take-le, drop-drop}
use borrow.Author.Tests.{leb-false}
use Rattle.numbers.specs.Refusals.{decided, unless}
use Rattle.numbers.proofs.Refusing.{not_refused}
use Rattle.records.specs.Put.{put}
use Rattle.cells.specs.Memory.{Memory, memory}
use Rattle.cells.specs.declared.ynd.Ynd.{Ynd}
use Rattle.cells.proofs.Sequences.Tests.{by_test}
use Rattle.cells.proofs.Reading.Fits.{Whole}
use Rattle.sets.specs.MemberList.{over_set}
use Rattle.sets.specs.CellSet.{CellSet, ynd_of, words_at, total, parts_of, parts_in, set_causes}
use Rattle.sets.specs.Leave.{start_of}
use Rattle.sets.specs.Join.{set_lengths}
use Rattle.sets.specs.SetParts.{Holds, count_of, starts_of, bare, list_causes}
use Rattle.sets.specs.SetStored.{member_in, ask_causes}
use Rattle.sets.specs.MemberParts.{entry_ask, opened, between, part_memory, PartsLie}
use Rattle.cells.specs.declared.counts.Counts.{Counts}
use Rattle.sets.specs.declared.member.MemberPart.{MemberPart}
use Rattle.sets.proofs.PartLaws.{total_below, start_next, part_of}
use Rattle.sets.proofs.CellSetLaws.{member_at_law}
use Rattle.sets.proofs.MemberStored.{FitsMember}
use Rattle.sets.proofs.RoomLaws.{lists_of, accepted, causes_held, few_members}
use Rattle.std.specs.Prelude.{Ok, Err}
use Rattle.numbers.specs.Refusals.{Answer}
use Rattle.numbers.specs.declared.refusal.Refusal.{Refusal}
use Rattle.numbers.specs.declared.refusal.Refusal.TheVariants.{NoSuchPlace}

-- ---- one list

module _ {A : Type 0} (l : List A) (a e : ℕ) where
  -- what a part is replaced by
  pub put_part : (x z : List A) → a ≤ e → e ≤ length l → length x ≡ length (between a e l) → x ≡ z
      → take a l ++ (x ++ drop (e - a) (drop a l)) ≡ put l a z
  unfolding put
  put_part x z rise end n same =
      let far : a + (e - a) ≡ a + length x
      = omega (
        arith,
        length-take-le (e - a) (drop a l)
            (let q : e - a ≤ length (drop a l) = omega (arith, length-drop a l) in q),
      ) in
      ap (λ (t : List A). take a l ++ (x ++ t)) (drop-drop (e - a) a l ∙ ap (λ (k : ℕ). drop k l) far)
      ∙ sym (append_assoc (take a l) x (drop (a + length x) l))
      ∙ ap (λ (y : List A). take a l ++ y ++ drop (a + length y) l) same

-- a part put where it was
pub put_back : {A : Type 0} (l : List A) (a n : ℕ) → put l a (take n (drop a l)) ≡ l
unfolding put
put_back {A} l a n =
    let x = take n (drop a l) in
    append_assoc (take a l) x (drop (a + length x) l)
    ∙ ap (λ (t : List A). take a l ++ (x ++ t)) (sym (drop-drop (length x) a l))
    ∙ ap (λ (t : List A). take a l ++ t) (part_rest n (drop a l))
    ∙ take-append-drop a l
  where
    part_rest : (k : ℕ) (r : List A) → take k r ++ drop (length (take k r)) r ≡ r
    part_rest zero r = refl
    part_rest (suc k) [] = refl
    part_rest (suc k) (w ∷ ws) = ap {B = List A} (λ t. w ∷ t) (part_rest k ws)

-- ---- a member

module _ (y : CellSet) (j : ℕ) where
  abbrev ws : List (List ℕ)
  ws = y.members

  -- what is asked by the entries and the lists' lengths is what the set is asked
  pub ask_held : decided (entry_ask ws (set_lengths y) j) ≡ decided (ask_causes y j)
  unfolding entry_ask ask_causes
  ask_held = go (leb (length ws) j)
    where
      go : (b : Bool) → cond b (Err NoSuchPlace) (lists_of y) ≡ cond b (Err NoSuchPlace) (decided (set_causes y))
      go true = refl
      go false = sym (causes_held y)

  -- an accepted call is on a member of a set that keeps to the limits, in lists that hold it
  pub record May : Type 0 where
    pub there : j < length ws
    pub few : length ws ≤ 9
    pub whole : Holds y

  pub may : (Ok tt) ≡ decided (entry_ask ws (set_lengths y) j) → May
  unfolding entry_ask
  may e = by_test (leb (length ws) j) (λ t. refused (rw t at e)) (λ f.
      let k = accepted y (rw f at e) in
      record { there = leb-false (length ws) j f; few = k.few; whole = k.whole })
    where
      refused : {P : Type 0} {a : Refusal} → ◌≡◌ {A = Answer} (Ok tt) (Err a) → P
      refused d = not_refused (sym d)

  module _ (k : May) (a e : Counts) (ea : a ≡ starts_of ws j) (ee : e ≡ starts_of ws (j + 1)) where
    rises : (size : ℕ) → start_of size ws j ≤ start_of size ws (j + 1)
    rises size = omega (arith, start_next size ws j k.there)

    ends : (size room : ℕ) → total (words_at size ws) ≤ room → start_of size ws (j + 1) ≤ room
    ends size room f = omega (arith, total_below (words_at size ws) (j + 1))

    pub parts_lie : PartsLie a e (set_lengths y)
    parts_lie = rw (ea, ee) (record {
      nodes_rise = rises 15;
      nodes_end = ends 15 (length y.nodes) k.whole.nodes_hold.fit;
      links_rise = rises 16;
      links_end = ends 16 (length y.links) k.whole.links_hold.fit;
      junctions_rise = rises 17;
      junctions_end = ends 17 (length y.junctions) k.whole.junctions_hold.fit;
      heights_rise = rises 18;
      heights_end = ends 18 (length y.heights) k.whole.heights_hold.fit;
      refs_rise = rises 19;
      refs_end = ends 19 (length y.refs) k.whole.refs_hold.fit;
    })

    part_between : {A : Type 0} (size : ℕ) (l : List A)
        → between (start_of size ws j) (start_of size ws (j + 1)) l ≡ get_or (parts_of (words_at size ws) l) j []
    part_between size l =
        let long : start_of size ws (j + 1) - start_of size ws j ≡ count_of size ws j
        = omega (arith, start_next size ws j k.there) in
        ap (λ (n : ℕ). take n (drop (start_of size ws j) l)) long ∙ sym (part_of size ws l j k.there)

    pub part_is : part_memory (ynd_of (get_or ws j [])) a e y ≡ member_in y j
    unfolding parts_in
    part_is =
        (λ i. part_memory (ynd_of (get_or ws j [])) (ea i) (ee i) y)
        ∙ (λ i. memory (ynd_of (get_or ws j [])) (part_between 15 y.nodes i) (part_between 16 y.links i)
        (part_between 17 y.junctions i) (part_between 18 y.heights i) (part_between 19 y.refs i))
        ∙ sym (member_at_law y j k.there)

-- a member's lists are as long as its parts, and so hold its entries
module _ (y : CellSet) (j : ℕ) (lt : j < length y.members) (h : Holds y) where
  part_length : {A : Type 0} (size : ℕ) (l : List A) → total (words_at size y.members) ≤ length l
      → length (get_or (parts_of (words_at size y.members) l) j []) ≡ count_of size y.members j
  part_length size l f =
      let s = start_of size y.members j in
      let n = count_of size y.members j in
      ap length (part_of size y.members l j lt)
      ∙ length-take-le n (drop s l) (let z : n ≤ length (drop s l)
      = omega (
        arith,
        length-drop s l,
        start_next size y.members j lt,
        total_below (words_at size y.members) (j + 1),
        f,
      ) in z)

  pub member_fits : FitsMember y.members j (member_in y j)
  unfolding parts_in ynd_of
  member_fits =
      let m = member_at_law y j lt in
      record {
        nodes_fit = ap (λ (m : Memory). length m.nodes) m ∙ part_length 15 y.nodes h.nodes_hold.fit;
        links_fit = ap (λ (m : Memory). length m.links) m ∙ part_length 16 y.links h.links_hold.fit;
        junctions_fit = ap (λ (m : Memory). length m.junctions) m ∙ part_length 17 y.junctions h.junctions_hold.fit;
        heights_fit = ap (λ (m : Memory). length m.heights) m ∙ part_length 18 y.heights h.heights_hold.fit;
        refs_fit = ap (λ (m : Memory). length m.refs) m ∙ part_length 19 y.refs h.refs_hold.fit;
        seven = ap (λ (m : Memory). length m.ynd.unknowns) m;
      }

  pub member_whole : Whole (member_in y j)
  unfolding ynd_of
  member_whole =
      let f = member_fits in
      let v = ap (λ (m : Memory). m.ynd) (member_at_law y j lt) in
      record {
        nodes_fit = omega (arith, f.nodes_fit, ap (λ (v : Ynd). v.node_count) v, h.nodes_hold.held j lt);
        links_fit = omega (arith, f.links_fit, ap (λ (v : Ynd). v.link_count) v, h.links_hold.held j lt);
        junctions_fit = omega
            (arith, f.junctions_fit, ap (λ (v : Ynd). v.junction_count) v, h.junctions_hold.held j lt);
        heights_fit = omega (arith, f.heights_fit, ap (λ (v : Ynd). v.heightmap_count) v, h.heights_hold.held j lt);
        refs_fit = omega (arith, f.refs_fit, ap (λ (v : Ynd). v.ref_count) v, h.refs_hold.held j lt);
      }

-- ---- a call on a member, opened

abbrev pub member_part : List (List ℕ) → ℕ → MemberPart
member_part ws j = record { ynd = ynd_of (get_or ws j []); a = starts_of ws j; e = starts_of ws (j + 1) }

module _ (ws : List (List ℕ)) (lens : Counts) (j : ℕ) where
  refused : {P : Type 0} {a : Refusal} → ◌≡◌ {A = Answer} (Ok tt) (Err a) → P
  refused d = not_refused (sym d)

  -- who passed is on a member, of nine at most
  pub asked_few : (Ok tt) ≡ decided (entry_ask ws lens j) → (j < length ws) × (length ws ≤ 9)
  unfolding entry_ask list_causes
  asked_few e = by_test (leb (length ws) j) (λ t. refused (rw t at e)) (λ f.
      by_test (over_set (bare ws)) (λ t. refused (rw (f, t) at e))
      (λ o. (leb-false (length ws) j f, few_members ws o)))

  pub open_refused : (x : Refusal) → Err x ≡ opened ws lens j → decided (entry_ask ws lens j) ≡ Err x
  unfolding opened
  open_refused x e = go (decided (entry_ask ws lens j)) e
    where
      go : (a : Answer) → Err x ≡ unless a (Ok (member_part ws j))
          → a ≡ Err x
      go (Err m) e = cc
      go (Ok tt) e = let z : ◌≡◌ {A = ℕ} 0 1 = cc in absurd (omega arith)

  pub open_at : (p : MemberPart) → Ok p ≡ opened ws lens j → ((Ok tt) ≡ decided (entry_ask ws lens j))
      × (p ≡ member_part ws j)
  unfolding opened
  open_at p e = go (decided (entry_ask ws lens j)) e
    where
      go : (a : Answer) → Ok p ≡ unless a (Ok (member_part ws j))
          → ((Ok tt) ≡ a) × (p ≡ member_part ws j)
      go (Ok tt) e = (refl, cc)
      go (Err m) e = let z : ◌≡◌ {A = ℕ} 0 1 = cc in absurd (omega arith)

  pub open_done : (v : Ynd) (a e : Counts) → (Ok tt) ≡ decided (entry_ask ws lens j) → v ≡ ynd_of (get_or ws j [])
      → a ≡ starts_of ws j → e ≡ starts_of ws (j + 1) → Ok (record { ynd = v; a = a; e = e }) ≡ opened ws lens j
  unfolding opened
  open_done v a e t ev ea ee =
      (λ i. Ok (record { ynd = ev i; a = ea i; e = ee i }))
      ∙ ap (λ (z : Answer). unless z (Ok (member_part ws j))) t

-- what an opened member is
pub record OpenAt (y : CellSet) (j : ℕ) (p : MemberPart) : Type 0 where
  pub may : May y j
  pub lie : PartsLie p.a p.e (set_lengths y)
  pub part : part_memory p.ynd p.a p.e y ≡ member_in y j
  pub own : p.ynd ≡ ynd_of (get_or y.members j [])
  pub starts : p.a ≡ starts_of y.members j
  pub ends : p.e ≡ starts_of y.members (j + 1)
  pub asked : decided (ask_causes y j) ≡ (Ok tt)

pub open_in : (y : CellSet) (j : ℕ) (p : MemberPart) (lens : Counts)
    → decided (entry_ask y.members lens j) ≡ decided (ask_causes y j) → Ok p ≡ opened y.members lens j → OpenAt y j p
open_in y j p lens same e =
    let o = open_at y.members lens j p e in
    let k = may y j (o.0 ∙ same ∙ sym (ask_held y j)) in
    let ea : p.a ≡ starts_of y.members j = ap (λ (q : MemberPart). q.a) o.1 in
    let ee : p.e ≡ starts_of y.members (j + 1) = ap (λ (q : MemberPart). q.e) o.1 in
    let ev : p.ynd ≡ ynd_of (get_or y.members j []) = ap (λ (q : MemberPart). q.ynd) o.1 in
    record {
      may = k;
      lie = parts_lie y j k p.a p.e ea ee;
      part = ap (λ (v : Ynd). part_memory v p.a p.e y) ev ∙ part_is y j k p.a p.e ea ee;
      own = ev;
      starts = ea;
      ends = ee;
      asked = sym (o.0 ∙ same);
    }

-- for the check
pub ruleset open_laws = (asked_few, open_done)
