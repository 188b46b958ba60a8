-- T-09's sentence for sets of drawn cells; and what is handed back. Assumes nothing.
use Prim.Native.Nat.{ℕ, ◌+◌, ◌≤◌, ◌<◌}
use native.Mathlib.Omega.{arith}
use mathlib.Core.Path.{◌≡◌, refl, sym, ◌∙◌, subst}
use mathlib.Core.List.{List}
use mathlib.Core.Option.{Option, none, some}
use lib.ListN.{length, get_or, take, drop, length-map, length-append, get_or-append}
use lib.Seq.{get_or-take, length-take-le}
use Rattle.std.specs.Prelude.{Ok}
use Rattle.numbers.proofs.Refusing.{not_refused}
use Rattle.cells.specs.Memory.{Memory}
use Rattle.cells.proofs.WritingBack.KeptCells.{Kept}
use Rattle.std.proofs.lemmas.List.Elements.{All-from_get_or}
use Rattle.cells.specs.Nodes.{no_entry, no_map}
use Rattle.sets.specs.Members.{no_cell}
use Rattle.sets.specs.MemberList.{member_at, cells_of}
use Rattle.sets.proofs.CellSetLaws.{members_many}
use Rattle.sets.proofs.SetCallsUnnoticed.{in_six_lists}
use Rattle.sets.proofs.SetMemory.{cell_at_law}
use Rattle.sets.proofs.SetDemand.{unnoticed}
use Rattle.sets.specs.CellSet.{CellSet, members_of}
use Rattle.sets.specs.Join.{stored}
use Rattle.sets.specs.Leave.{first_of_area, leave_causes}
use Rattle.sets.specs.HandBack.{copied, leaver_of, leaver, hand_causes, hand_back}
use Rattle.sets.proofs.HandBackLaws.{copied_cell}
use Rattle.cells.proofs.Editing.AddLaws.{done_memory}
use Rattle.drawn.specs.Made.{Made}
use Rattle.drawn.proofs.FrontTidy.{front_tidy}
use Rattle.drawn.proofs.DrawnDemand.{made_lies, made_kept}
use Rattle.drawnsets.specs.AllMade.{AllMade}
use Rattle.drawnsets.specs.Claim.{MadeSetUnnoticed, MadeCallsUnnoticed, HandedMade}
use Rattle.drawnsets.proofs.SetMade.{first_there}

pub made_set_unnoticed : MadeSetUnnoticed
made_set_unnoticed ms made is-stored s calls =
    unnoticed ms
    (record {
      is_sound = s;
      is_kept = All-from_get_or Kept (cells_of ms) no_cell (λ i lt.
          let inside = rw length-map at lt in
          rw (cell_at_law ms i) (made_kept (member_at ms i) (made i inside) (is-stored i inside)));
    })
    (λ i lt. made_lies (member_at ms i) (made i lt).tidy)
    calls

-- of the six lists that hold the members
pub made_calls_unnoticed : MadeCallsUnnoticed
made_calls_unnoticed y made is-stored s calls =
    in_six_lists y calls s
    (made_set_unnoticed (members_of y) made (λ i li. is-stored i (rw members_many at li)) s calls)

-- ---- handed back

module _ {A : Type 0} (n : ℕ) (from to : List A) (fits : n ≤ length from) where
  copied_front : (q : ℕ) (d : A) → q < n → get_or (stored 0 (take n from) to) q d ≡ get_or from q d
  unfolding stored
  copied_front q d lt =
      get_or-append (take n from) (drop (0 + length (take n from)) to) d q (omega (arith, length-take-le n from fits))
      ∙ get_or-take n from q d lt

  copied_long : n ≤ length (stored 0 (take n from) to)
  unfolding stored
  copied_long = omega (
    arith,
    length-append (take n from) (drop (0 + length (take n from)) to),
    length-take-le n from fits,
  )

copied_made : (from m : Memory) → Made from → Made (copied from m)
unfolding copied
copied_made from m h =
    let t = h.tidy in
    let v = from.ynd in
    record {
      tidy = front_tidy from t _ _ _ _ _
          (λ q lt. copied_front v.node_count from.nodes m.nodes t.nodes_lie q no_entry lt)
          (λ q lt. copied_front v.junction_count from.junctions m.junctions t.junctions_lie q no_map lt)
          (copied_long v.node_count from.nodes m.nodes t.nodes_lie)
          (copied_long v.link_count from.links m.links t.links_lie)
          (copied_long v.junction_count from.junctions m.junctions t.junctions_lie)
          (copied_long v.heightmap_count from.heights m.heights t.values_lie)
          (copied_long v.ref_count from.refs m.refs t.refs_lie);
      fits = rw (copied_cell from m (record {
        nodes_fit = t.nodes_lie;
        links_fit = t.links_lie;
        junctions_fit = t.junctions_lie;
        heights_fit = t.values_lie;
        refs_fit = t.refs_lie;
      })) h.fits;
    }

-- an accepted call copies the member that the area names
module _ (y : CellSet) (h : AllMade y) (area : ℕ) (lent : Memory) where
  handed_of : (o : Option ℕ) → first_of_area y area ≡ o → hand_causes y area lent ≡ (Ok tt) → Made (leaver_of o y)
  unfolding hand_causes leave_causes
  handed_of (some j) f e = h j (first_there y area j f)
  handed_of none f e = not_refused (rw f at e)

  handed : (hand_back y area lent).answer ≡ (Ok tt) → Made (hand_back y area lent).memory
  unfolding hand_back leaver
  handed e =
      let d = done_memory (hand_causes y area lent) lent (copied (leaver_of (first_of_area y area) y) lent) e in
      subst Made (sym d.1)
      (copied_made (leaver_of (first_of_area y area) y) lent (handed_of (first_of_area y area) refl d.0))

pub handed_made : HandedMade
handed_made = handed
