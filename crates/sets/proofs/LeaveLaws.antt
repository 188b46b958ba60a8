-- A member that leaves: the gap closed in each list, and what the call answers.
use Prim.Native.Nat.{ℕ, suc, ◌+◌, ◌-◌, ◌≤◌, ◌<◌}
use native.Mathlib.Omega.{arith}
use native.Mathlib.Numerals.{add-one}
use mathlib.Core.Path.{◌≡◌, refl, ap, sym, ◌∙◌}
use mathlib.Core.List.{List}
use mathlib.Core.Option.{Option, none, some}
use lib.ListN.{length}
use Rattle.cells.specs.Lookup.{first_with}
use Rattle.sets.specs.MemberList.{unless}
use Rattle.sets.specs.CellSet.{CellSet, cell_set, words_at}
use Rattle.sets.specs.Leave.{SetLeft, set_left, left_after, closed, start_of, without, first_of_area, leave_causes}
use Rattle.sets.specs.Leave.{left_by, leave_area}
use Rattle.sets.specs.Join.{set_lengths}
use Rattle.sets.specs.SetParts.{Holding, named_of, starts_of, areas_of, list_causes}
use Rattle.cells.specs.declared.counts.Counts.{Counts}
use Rattle.sets.proofs.MemberLaws.{first_has}
use Rattle.sets.proofs.PartLaws.{total_below, start_next, start_all}
use Rattle.sets.proofs.CellSetLaws.{areas_many, areas_held}
use Rattle.sets.proofs.RoomLaws.{lists_of, causes_held}
use Rattle.std.specs.Prelude.{Result, Ok, Err, Some, None}
use Rattle.std.specs.Prelude as std
use Rattle.std.specs.Result.{IsErrAnd, result_ok}
use Rattle.std.proofs.lemmas.Result.{err_from_is_err_and}
use Rattle.numbers.specs.Refusals.{decided}
use Rattle.numbers.specs.declared.refusal.Refusal.{Refusal}
use Rattle.numbers.specs.Refusals.{Answer}
use Rattle.numbers.specs.declared.refusal.Refusal.TheVariants.{NoSuchPlace}
use Rattle.cells.specs.declared.node_entry.NodeEntry.{NodeEntry}
use Rattle.cells.specs.declared.link.PathLink.{PathLink}
use Rattle.cells.specs.declared.junction_entry.JunctionEntry.{JunctionEntry}
use Rattle.records.specs.declared.junction_ref.NodeJunctionRef.{NodeJunctionRef}

-- what `ok_or` hands on is what was found
pub handed_on : {A E : Type 0} {o n : std.Option A} {r : Result A E} {x : A} → o ≡ result_ok r → r ≡ Ok x → o ≡ n
    → Some x ≡ n
handed_on eo er en = sym (eo ∙ ap result_ok er) ∙ en

-- where a list's parts lie; `of` is the list's among the five
pub closes : {k size room : ℕ} {ws : List (List ℕ)} → Holding k size ws room → (of : Counts → ℕ)
    → ((i : ℕ) → of (starts_of ws i) ≡ start_of size ws i) → {a e t : Counts} (j : ℕ) → j < length ws
    → a ≡ starts_of ws j → e ≡ starts_of ws (j + 1) → t ≡ starts_of ws (length ws)
    → (of a ≤ of e) × (of e ≤ of t) × (of t ≤ room)
closes {k} {size} {room} {ws} h of is j lt ea ee et =
    let start = λ (i : ℕ). start_of size ws i in
    let e = ap of ee ∙ is (j + 1) in
    let t = ap of et ∙ is (length ws) in (
      omega (arith, ap of ea ∙ is j, e, start_next size ws j lt),
      omega (arith, e, t, start_all size ws, total_below (words_at size ws) (j + 1)),
      omega (arith, t, start_all size ws, h.fit),
    )

module _ (y : CellSet) (j : ℕ) where
  abbrev ws : List (List ℕ)
  ws = y.members

  -- the six lists, closed
  pub taken_out : (a e t : Counts) → a ≡ starts_of ws j → e ≡ starts_of ws (j + 1) → t ≡ starts_of ws (length ws)
      → (W : List (List ℕ)) (N : List NodeEntry) (L : List PathLink) (J : List JunctionEntry)
      (R : List NodeJunctionRef) (H : List ℕ)
      → W ≡ closed j (j + 1) (length ws) ws
      → N ≡ closed a.nodes e.nodes t.nodes y.nodes → L ≡ closed a.links e.links t.links y.links
      → J ≡ closed a.junctions e.junctions t.junctions y.junctions → H ≡ closed a.heights e.heights t.heights y.heights
      → R ≡ closed a.refs e.refs t.refs y.refs → cell_set W N L J H R ≡ without y j
  unfolding without
  taken_out a e t ea ee et W N L J R H eW eN eL eJ eH eR =
      let next : e ≡ starts_of ws (suc j) = ee ∙ ap (starts_of ws) (add-one j) in
      λ i. record {
        members = (eW ∙ ap (λ (k : ℕ). closed j k (length ws) ws) (add-one j)) i;
        nodes = (eN ∙ (λ k. closed (ea k).nodes (next k).nodes (et k).nodes y.nodes)) i;
        links = (eL ∙ (λ k. closed (ea k).links (next k).links (et k).links y.links)) i;
        junctions = (eJ ∙ (λ k. closed (ea k).junctions (next k).junctions (et k).junctions y.junctions)) i;
        heights = (eH ∙ (λ k. closed (ea k).heights (next k).heights (et k).heights y.heights)) i;
        refs = (eR ∙ (λ k. closed (ea k).refs (next k).refs (et k).refs y.refs)) i;
      }

-- ---- the call's answers

-- what the set is asked, by the lists' lengths
pub checked : (y : CellSet) {lens : Counts} {a : Answer} → lens ≡ set_lengths y
    → a ≡ decided (list_causes y.members lens.nodes lens.links lens.junctions lens.heights lens.refs) → lists_of y ≡ a
checked y e ea = sym (ea ∙ ap (λ (l : Counts). decided (list_causes y.members l.nodes l.links l.junctions l.heights
    l.refs)) e)

module _ (y : CellSet) (area : ℕ) where
  abbrev found : Option ℕ
  found = first_with (areas_of y.members y.nodes) area

  pub found_is : found ≡ first_of_area y area
  unfolding first_of_area
  found_is = ap (λ (l : List ℕ). first_with l area) (areas_held y)

  -- for the check: the call shows the set
  pub found_by : first_of_area y area ≡ found
  found_by = sym found_is

  pub named_some : (j : ℕ) (o : Option ℕ) → Some j ≡ named_of o → o ≡ some j
  named_some j (some q) e = cc
  named_some j none e = let z : ◌≡◌ {A = ℕ} 0 1 = cc in absurd (omega arith)

  pub named_none : (o : Option ℕ) → None ≡ named_of o → o ≡ none
  named_none (some q) e = let z : ◌≡◌ {A = ℕ} 0 1 = cc in absurd (omega arith)
  named_none none e = refl

  pub nobody : None ≡ named_of found → set_left (Err NoSuchPlace) (length y.members) y ≡ leave_area y area
  unfolding leave_area leave_causes
  nobody n = let e : first_of_area y area ≡ none = sym found_is ∙ named_none found n in rw e

  pub asked_of : (j : ℕ) → first_of_area y area ≡ some j
      → leave_area y area ≡ unless (lists_of y) (λ cause. set_left (Err cause) (length y.members) y)
      (left_by (some j) y)
  unfolding leave_area leave_causes
  asked_of j e = rw (e, causes_held y)

  module _ (j : ℕ) (n : Some j ≡ named_of found) where
    pub there : j < length y.members
    there = omega (
      arith,
      (first_has (areas_of y.members y.nodes) area j (named_some j found n)).0,
      areas_many
          y.members y.nodes,
    )

    asked : leave_area y area ≡ unless (lists_of y) (λ cause. set_left (Err cause) (length y.members) y)
        (left_by (some j) y)
    asked = asked_of j (sym found_is ∙ named_some j found n)

    abbrev left : Answer → SetLeft
    left a = unless a (λ cause. set_left (Err cause) (length y.members) y) (left_by (some j) y)

    pub refused_leave : {x : Refusal} (r : Result ℕ Refusal) → lists_of y ≡ Err x → IsErrAnd r (λ z. z ≡ x)
        → left_after (length y.members) r y ≡ leave_area y area
    refused_leave {x} r e er =
        let k = err_from_is_err_and r er in
        ap (λ (q : Result ℕ Refusal). left_after (length y.members) q y) (k.1 ∙ ap Err k.2) ∙ ap left (sym e)
        ∙ sym asked

    pub gone : {y' : CellSet} → lists_of y ≡ (Ok tt) → y' ≡ without y j
        → set_left (Ok tt) (length y.members - 1) y' ≡ leave_area y area
    gone e t = ap (set_left (Ok tt) (length y.members - 1)) t ∙ ap left (sym e) ∙ sym asked
