-- A cell handed back: each answer, and that the lists lent then hold the cell that the member was.
use Prim.Native.Nat.{ℕ, ◌+◌, ◌≤◌, ◌<◌}
use native.Mathlib.Omega.{arith}
use mathlib.Core.Path.{◌≡◌, refl, ap, sym, ◌∙◌}
use mathlib.Core.List.{List, [], map}
use mathlib.Core.Option.{Option, none, some}
use lib.ListN.{length, take, drop}
use lib.Seq.{length-take-le, take_at}
use borrow.Author.Tests.{lt-leb}
use Rattle.numbers.specs.Refusals.{decided}
use Rattle.numbers.specs.Refusals.{unless as otherwise}
use Rattle.cells.specs.Memory.{Memory, memory, Left, left, unless, refuse, short_of}
use Rattle.std.specs.Result.{IsErrAnd}
use Rattle.std.proofs.lemmas.Result.{err_from_is_err_and}
use Rattle.cells.specs.Add.{done}
use Rattle.cells.specs.Lookup.{first_with}
use Rattle.cells.specs.CellOf.{node_with, junction_with, nodes_of, junctions_of, refs_of, cell_of}
use Rattle.cells.specs.declared.ynd.Ynd.{Ynd}
use Rattle.cells.proofs.Reading.Fits.{Whole, whole}
use Rattle.sets.specs.CellSet.{CellSet, ynd_of, set_causes}
use Rattle.sets.specs.Leave.{first_of_area, leave_causes, start_of}
use Rattle.sets.specs.Join.{stored, set_lengths, cell_lengths}
use Rattle.cells.specs.Memory.{counts_of}
use Rattle.cells.specs.RenumberParts.{lengths_of}
use Rattle.sets.specs.SetParts.{named_of, areas_of, count_of, Holding}
use Rattle.sets.specs.SetStored.{member_in, ask_causes}
use Rattle.sets.specs.HandBack.{copied, leaver, lack_of_back, hand_causes, hand_back}
use Rattle.sets.specs.MemberParts.{between, part_memory, Given, Giving}
use Rattle.cells.specs.declared.counts.Counts.{Counts}
use Rattle.sets.specs.declared.member.MemberPart.{MemberPart}
use Rattle.sets.proofs.PartLaws.{start_next}
use Rattle.sets.proofs.LeaveLaws.{found_is, named_some, named_none}
use Rattle.sets.proofs.MemberLaws.{first_has}
use Rattle.sets.proofs.CellSetLaws.{areas_many}
use Rattle.sets.proofs.RoomLaws.{accepted, causes_held}
use Rattle.sets.proofs.MemberPartLaws.{OpenAt, member_whole}
use Rattle.std.specs.Prelude.{Result, Ok, Err, Some, None}
use Rattle.numbers.specs.Refusals.{Answer}
use Rattle.numbers.specs.declared.refusal.Refusal.{Refusal}
use Rattle.numbers.specs.declared.refusal.Refusal.TheVariants.{NoSuchPlace}
use Rattle.cells.specs.declared.node_entry.NodeEntry.{NodeEntry}
use Rattle.cells.specs.declared.link.PathLink.{PathLink}
use Rattle.cells.specs.declared.junction_entry.JunctionEntry.{JunctionEntry}
use Rattle.records.specs.declared.junction_ref.NodeJunctionRef.{NodeJunctionRef}

-- what is asked of the lists lent, by how long they are
pub lack_told : (y : Ynd) (nodes : List NodeEntry) (links : List PathLink) (junctions : List JunctionEntry)
    (refs : List NodeJunctionRef) (heights : List ℕ) {lent : Counts} {a : Answer}
    → lent ≡ lengths_of nodes links junctions heights refs
    → a ≡ short_of y lent.nodes lent.links lent.junctions lent.heights lent.refs
    → short_of y (length nodes) (length links) (length junctions) (length heights) (length refs) ≡ a
lack_told y nodes links junctions refs heights el ea =
    sym (ea ∙ ap (λ (k : Counts). short_of y k.nodes k.links k.junctions k.heights k.refs) el)

-- ---- what is copied

front_copied : {A : Type 0} (n : ℕ) (from to : List A) → n ≤ length from
    → take n (stored 0 (take n from) to) ≡ take n from
unfolding stored
front_copied n from to h = take_at (take n from) (drop (0 + length (take n from)) to) n (length-take-le n from h)

-- the lists then hold the same cell
pub copied_cell : (from m : Memory) → Whole from → cell_of (copied from m) ≡ cell_of from
unfolding cell_of nodes_of junctions_of refs_of copied
copied_cell from m w =
    let v = from.ynd in
    let n = front_copied v.node_count from.nodes m.nodes w.nodes_fit in
    let l = front_copied v.link_count from.links m.links w.links_fit in
    let j = front_copied v.junction_count from.junctions m.junctions w.junctions_fit in
    let h = front_copied v.heightmap_count from.heights m.heights w.heights_fit in
    let r = front_copied v.ref_count from.refs m.refs w.refs_fit in
    λ i. record {
      nodes = map (node_with (l i)) (n i);
      junctions = map (junction_with (h i)) (j i);
      refs = (r i);
      vehicles = v.vehicle_node_count;
      peds = v.ped_node_count;
      vft = v.vft;
      words = v.unknowns;
    }

pub given_part : (p : MemberPart) (y : CellSet) (m : Memory) (k : Counts) → k ≡ counts_of p.ynd
    → (N : List NodeEntry) (L : List PathLink) (J : List JunctionEntry) (R : List NodeJunctionRef) (H : List ℕ)
    → N ≡ stored 0 (take k.nodes (between p.a.nodes p.e.nodes y.nodes)) m.nodes
    → L ≡ stored 0 (take k.links (between p.a.links p.e.links y.links)) m.links
    → J ≡ stored 0 (take k.junctions (between p.a.junctions p.e.junctions y.junctions)) m.junctions
    → H ≡ stored 0 (take k.heights (between p.a.heights p.e.heights y.heights)) m.heights
    → R ≡ stored 0 (take k.refs (between p.a.refs p.e.refs y.refs)) m.refs
    → memory p.ynd N L J H R ≡ copied (part_memory p.ynd p.a p.e y) m
unfolding copied
given_part p y m k ek N L J R H eN eL eJ eH eR =
    λ i. memory p.ynd
    ((eN ∙ ap (λ (q : Counts). stored 0 (take q.nodes (between p.a.nodes p.e.nodes y.nodes)) m.nodes) ek) i)
    ((eL ∙ ap (λ (q : Counts). stored 0 (take q.links (between p.a.links p.e.links y.links)) m.links) ek) i)
    ((eJ ∙ ap (λ (q : Counts). stored 0 (take q.junctions (between p.a.junctions p.e.junctions y.junctions))
    m.junctions) ek) i)
    ((eH ∙ ap (λ (q : Counts). stored 0 (take q.heights (between p.a.heights p.e.heights y.heights)) m.heights) ek) i)
    ((eR ∙ ap (λ (q : Counts). stored 0 (take q.refs (between p.a.refs p.e.refs y.refs)) m.refs) ek) i)

-- the struct lent doesn't matter
own_words : (from m : Memory) (v : Ynd)
    → copied from (memory v m.nodes m.links m.junctions m.heights m.refs) ≡ copied from m
unfolding copied
own_words from m v = refl

-- ---- the call's answers

first_there : (y : CellSet) (area j : ℕ) → first_of_area y area ≡ some j → j < length y.members
first_there y area j at =
    omega (
      arith,
      (first_has (areas_of y.members y.nodes) area j (found_is y area ∙ at)).0,
      areas_many y.members
          y.nodes,
    )

module _ (y : CellSet) (area : ℕ) (m : Memory) where
  abbrev found : Option ℕ
  found = first_with (areas_of y.members y.nodes) area

  pub hand_nobody : None ≡ named_of found → refuse NoSuchPlace m ≡ hand_back y area m
  unfolding hand_back hand_causes leave_causes
  hand_nobody n = let e : first_of_area y area ≡ none = sym (found_is y area) ∙ named_none y area found n in rw e

  module _ (j : ℕ) where
    abbrev last : Answer
    last = lack_of_back (member_in y j) m

    hand_is : first_of_area y area ≡ some j
        → hand_back y area m ≡ unless (otherwise (decided (set_causes y)) last) m (done (copied (member_in y j) m))
    unfolding hand_back hand_causes leave_causes leaver
    hand_is at = rw at

    set_asked : j < length y.members → decided (ask_causes y j) ≡ decided (set_causes y)
    unfolding ask_causes
    set_asked lt = rw (lt-leb (length y.members) j lt)

    -- an accepted call: the lists lent hold the cell that the member is
    pub handed_cell : first_of_area y area ≡ some j → (hand_back y area m).answer ≡ (Ok tt)
        → cell_of (hand_back y area m).memory ≡ cell_of (member_in y j)
    handed_cell at e =
        let s = hand_is at in
        let r = accepts (decided (set_causes y)) last (ap (λ (l : Left). l.answer) (sym s) ∙ e) in
        let k = accepted y (sym r.0 ∙ causes_held y) in
        let there : j < length y.members = omega (arith, first_there y area j at) in
        ap (λ (l : Left). cell_of l.memory) s ∙ ap cell_of r.1
        ∙ copied_cell (member_in y j) m (member_whole y j there k.whole)
      where
        accepts : (a b : Answer) → (unless (otherwise a b) m (done (copied (member_in y j) m))).answer ≡ (Ok tt)
            → (a ≡ (Ok tt)) × ((unless (otherwise a b) m (done (copied (member_in y j) m))).memory
            ≡ copied (member_in y j) m)
        accepts (Ok u) (Ok v) e = (refl, refl)
        accepts (Ok u) (Err x) e = let z : ◌≡◌ {A = ℕ} 0 1 = cc in absurd (omega arith)
        accepts (Err x) b e = let z : ◌≡◌ {A = ℕ} 0 1 = cc in absurd (omega arith)

  module _ (j : ℕ) (f : Some j ≡ named_of found) where
    at : first_of_area y area ≡ some j
    at = sym (found_is y area) ∙ named_some y area j found f

    -- what a `?` gives before anything is copied
    refuses : {x : Refusal} (r : Result Ynd Refusal) → refuse x m ≡ hand_back y area m → IsErrAnd r (λ z. z ≡ x)
        → left m.ynd r m.nodes m.links m.junctions m.heights m.refs ≡ hand_back y area m
    refuses {x} r h e =
        let k = err_from_is_err_and r e in
        ap (λ (q : Result Ynd Refusal). left m.ynd q m.nodes m.links m.junctions m.heights m.refs)
        (k.1 ∙ ap Err k.2) ∙ h

    pub hand_not : {x : Refusal} (r : Result Ynd Refusal) → decided (ask_causes y j) ≡ Err x → IsErrAnd r (λ z. z ≡ x)
        → left m.ynd r m.nodes m.links m.junctions m.heights m.refs ≡ hand_back y area m
    hand_not r e = refuses r (ap (λ (a : Answer). unless (otherwise a (last j)) m (done (copied (member_in y j) m)))
        (sym e ∙ set_asked j (first_there y area j at)) ∙ sym (hand_is j at))

    module _ {p : MemberPart} (k : OpenAt y j p) where
      abbrev asked : Answer
      asked = lack_of_back (memory p.ynd [] [] [] [] []) m

      abbrev handed : Answer → Left
      handed a = unless a m (done (copied (member_in y j) m))

      lack_is : asked ≡ last j
      lack_is = ap (λ (v : Memory). lack_of_back (memory v.ynd [] [] [] [] []) m) k.part

      passed : handed asked ≡ hand_back y area m
      passed = ap handed lack_is
          ∙ sym (hand_is j at ∙ ap (λ (a : Answer). handed (otherwise a (last j)))
          (sym (set_asked j k.may.there) ∙ k.asked))

      pub hand_short : {x : Refusal} (r : Result Ynd Refusal) → asked ≡ Err x → IsErrAnd r (λ z. z ≡ x)
          → left m.ynd r m.nodes m.links m.junctions m.heights m.refs ≡ hand_back y area m
      hand_short r e = refuses r (ap handed (sym e) ∙ passed)

      pub hand_done : {r : Memory} → asked ≡ (Ok tt)
          → r ≡ copied (part_memory p.ynd p.a p.e y) (memory p.ynd m.nodes m.links m.junctions m.heights m.refs)
          → done r ≡ hand_back y area m
      hand_done d e =
          ap done (e ∙ own_words (part_memory p.ynd p.a p.e y) m p.ynd ∙ ap (λ (v : Memory). copied v m) k.part)
          ∙ ap handed (sym d) ∙ passed

      given : (c size : ℕ) (len have a e : ℕ) → Holding c size y.members len → (w : ℕ) → w ≡ count_of c y.members j
          → a ≡ start_of size y.members j → e ≡ start_of size y.members (j + 1) → e ≤ len → w ≤ have
          → Given w a e len have
      given c size len have a e h w ew ea ee el hw = record {
        inside = omega (arith, ew, ea, ee, h.held j k.may.there, start_next size y.members j k.may.there);
        end = el;
        room = hw;
      }

      pub hand_fits : asked ≡ (Ok tt) → Giving p (set_lengths y) (cell_lengths m)
      unfolding ynd_of
      hand_fits d =
          let t = whole (memory p.ynd m.nodes m.links m.junctions m.heights m.refs) d in
          let h = k.may.whole in
          record {
            nodes = given 10 15 _ _ _ _ h.nodes_hold _ (ap (λ (v : Ynd). v.node_count) k.own)
                (ap (λ (q : Counts). q.nodes) k.starts) (ap (λ (q : Counts). q.nodes) k.ends)
                k.lie.nodes_end t.nodes_fit;
            links = given 11 16 _ _ _ _ h.links_hold _ (ap (λ (v : Ynd). v.link_count) k.own)
                (ap (λ (q : Counts). q.links) k.starts) (ap (λ (q : Counts). q.links) k.ends)
                k.lie.links_end t.links_fit;
            junctions = given 12 17 _ _ _ _ h.junctions_hold _ (ap (λ (v : Ynd). v.junction_count) k.own)
                (ap (λ (q : Counts). q.junctions) k.starts) (ap (λ (q : Counts). q.junctions) k.ends)
                k.lie.junctions_end t.junctions_fit;
            heights = given 13 18 _ _ _ _ h.heights_hold _ (ap (λ (v : Ynd). v.heightmap_count) k.own)
                (ap (λ (q : Counts). q.heights) k.starts) (ap (λ (q : Counts). q.heights) k.ends) k.lie.heights_end
                t.heights_fit;
            refs = given 14 19 _ _ _ _ h.refs_hold _ (ap (λ (v : Ynd). v.ref_count) k.own)
                (ap (λ (q : Counts). q.refs) k.starts) (ap (λ (q : Counts). q.refs) k.ends) k.lie.refs_end t.refs_fit;
          }
