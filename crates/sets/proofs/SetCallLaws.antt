-- Other sentences of T-09, of the calls on a set in six lists: what they do to the members, what a refused call
-- changes, and renumbering the later of two members of one area.
use Prim.Native.Nat.{ℕ, ◌+◌}
use native.Mathlib.Omega.{arith}
use mathlib.Core.Path.{◌≡◌, refl, ap, ◌∙◌}
use mathlib.Core.Bool.{false}
use mathlib.Core.List.{List, [], ◌∷◌}
use mathlib.Core.Option.{some}
use lib.Dec.{eqb}
use lib.ListN.{length, get_or}
use Rattle.numbers.specs.Refusals.{decided}
use Rattle.cells.specs.Memory.{Memory}
use Rattle.cells.specs.Cell.{Cell}
use Rattle.cells.specs.CellOf.{cell_of}
use Rattle.cells.specs.Lookup.{first_with}
use Rattle.cells.specs.Renumber.{Renumbered, renumber}
use Rattle.cells.specs.WriteRead.{Both, write_read_of}
use Rattle.sets.specs.Members.{areas, area_of}
use Rattle.sets.specs.MemberList.{cells_of, unless}
use Rattle.sets.specs.SetRenumber.{is_member, change_of}
use Rattle.sets.specs.CellSet.{CellSet, cell_set, members_of}
use Rattle.sets.specs.Leave.{SetLeft, set_left, used, first_of_area}
use Rattle.sets.specs.Join.{join_causes, with_cell, join_cell}
use Rattle.sets.specs.SetStored.{member_in, ask_causes, with_member}
use Rattle.sets.specs.RenumberMember.{MemberRenumbered, member_renumbered, others_corrected}
use Rattle.sets.specs.RenumberMember.{lists_after, renumbered_at, renumber_member}
use Rattle.sets.specs.WriteMember as write
use Rattle.sets.specs.WriteMember.{SetWritten, set_written, wrote_in, write_read_member}
use Rattle.sets.specs.SetCallLaws.{CallsFollowTheorem, RefusedChangesNone, LaterCorrectsNone, OneMemberWalks}
use Rattle.cells.specs.declared.counts.Counts.{Counts}
use Rattle.sets.proofs.SetMemory.{cell_at_law}
use Rattle.sets.proofs.SetLaws.{written_refused, places_stay}
use Rattle.sets.proofs.MembersLeft.{leave_refused}
use Rattle.sets.proofs.CellSetLaws.{members_many, members_same}
use Rattle.sets.proofs.CorrectLaws.{others_stay}
use Rattle.sets.proofs.MemberLaws.{area_at}
use Rattle.sets.proofs.CrossingHeld.{one_crossing}
use Rattle.sets.proofs.SetKept.{usable, may_be_used}
use Rattle.sets.proofs.SetCalled.{renumbered_as, written_as, run_as}
use Rattle.std.specs.Prelude.{Result, Ok, Err}
use Rattle.numbers.specs.Refusals.{Answer}
use Rattle.numbers.specs.declared.refusal.Refusal.{Refusal}
use Rattle.cells.specs.declared.link.PathLink.{PathLink}

pub calls_follow : CallsFollowTheorem
calls_follow y e =
    let u = usable y e in
    record {
      renumbered = λ j s ps. (renumbered_as y u j s ps).lists.same_members;
      renumber_answer = λ j s ps. (renumbered_as y u j s ps).same_answer;
      renumber_places = λ j s ps. (renumbered_as y u j s ps).same_places;
      written = λ j section. (written_as y u j section).lists.same_members;
      write_answer = λ j section. (written_as y u j section).same_answer;
      write_section = λ j section. (written_as y u j section).same_section;
      run_members = λ calls. (run_as y u calls).same_members;
      still_usable = λ calls. let r = run_as y u calls in may_be_used _ r.as_usable;
      as_many = λ calls. (run_as y u calls).as_many;
    }

-- ---- refusals

renumbering_refused : (y : CellSet) (j s : ℕ) (ps : List ℕ) (x : Refusal) → (renumber_member y j s ps).answer ≡ Err x
    → ((renumber_member y j s ps).lists ≡ y) × ((renumber_member y j s ps).places ≡ ps)
unfolding renumber_member
renumbering_refused y j s ps x e = go (decided (ask_causes y j)) e
  where
    r : Renumbered
    r = renumber (member_in y j) s ps

    left : Answer → MemberRenumbered
    left a = unless a (λ cause. member_renumbered (Err cause) y ps) (renumbered_at y j r)

    called : (a : Answer) → r.answer ≡ a → a ≡ Err x → (lists_after a y j r.memory ≡ y) × (r.places ≡ ps)
    called (Ok tt) d q = let z : ◌≡◌ {A = ℕ} 0 1 = cc in absurd (omega arith)
    called (Err c) d q = (refl, places_stay (member_in y j) ps s c d)

    go : (a : Answer) → (left a).answer ≡ Err x → ((left a).lists ≡ y) × ((left a).places ≡ ps)
    go (Ok tt) q = called r.answer refl q
    go (Err c) q = (refl, refl)

writing_refused : (y : CellSet) (j : ℕ) (s : List ℕ) (x : Refusal) → (write_read_member y j s).answer ≡ Err x
    → ((write_read_member y j s).lists ≡ y) × ((write_read_member y j s).section ≡ s)
unfolding write_read_member
writing_refused y j s x e = go (decided (ask_causes y j)) e
  where
    b : Both
    b = write_read_of (member_in y j) s

    left : Answer → SetWritten
    left a = unless a (λ cause. set_written (Err cause) y s) (wrote_in y j b)

    called : (a : Result ℕ Refusal) → b.answer ≡ a → a ≡ Err x
        → (write.lists_after a y j b.memory ≡ y) × (b.section ≡ s)
    called (Ok n) d q = let z : ◌≡◌ {A = ℕ} 0 1 = cc in absurd (omega arith)
    called (Err c) d q = (refl, (written_refused (member_in y j) s c d).1)

    go : (a : Answer) → (left a).answer ≡ Err x → ((left a).lists ≡ y) × ((left a).section ≡ s)
    go (Ok tt) q = called b.answer refl q
    go (Err c) q = (refl, refl)

joining_refused : (count : ℕ) (y : CellSet) (m : Memory) (sizes : Counts) (x : Refusal)
    → (join_cell count y m sizes).answer ≡ Err x
    → ((join_cell count y m sizes).lists ≡ y) × ((join_cell count y m sizes).count ≡ length (used count y).members)
unfolding join_cell
joining_refused count y m sizes x e = go (decided (join_causes (used count y) (length y.members) m sizes)) e
  where
    left : Answer → SetLeft
    left a = unless a (λ cause. set_left (Err cause) (length (used count y).members) y)
        (set_left (Ok tt) (length (used count y).members + 1) (with_cell y (used count y) m sizes))

    go : (a : Answer) → (left a).answer ≡ Err x
        → ((left a).lists ≡ y) × ((left a).count ≡ length (used count y).members)
    go (Ok tt) q = let z : ◌≡◌ {A = ℕ} 0 1 = cc in absurd (omega arith)
    go (Err c) q = (refl, refl)

pub refused_changes_none : RefusedChangesNone
refused_changes_none =
    record {
      renumber_refused = renumbering_refused;
      write_refused = writing_refused;
      join_refused =
          joining_refused;
      leave_refused = leave_refused;
    }

-- ---- the later of two members of one area

none_corrected : (y : CellSet) (j first : ℕ) → first_of_area y (area_of (cell_of (member_in y j))) ≡ some first
    → eqb first j ≡ false → others_corrected y j ≡ y
unfolding others_corrected first_of_area
none_corrected y j first f other =
    let cs = cells_of (members_of y) in
    let at : first_with (areas cs) (get_or (areas cs) j 0) ≡ some first =
    ap (first_with (areas cs)) (area_at cs j ∙ ap (λ (c : Cell). area_of c) (cell_at_law (members_of y) j)) ∙ f in
    ap (λ (l : List PathLink). cell_set y.members y.nodes l y.junctions y.heights y.refs)
    (others_stay (change_of cs j) (ap (is_member j) at ∙ other) 0 y.members y.links)

pub later_corrects_none : LaterCorrectsNone
unfolding renumber_member
later_corrects_none y j first s ps f other e = go (decided (ask_causes y j)) e
  where
    r : Renumbered
    r = renumber (member_in y j) s ps

    left : Answer → MemberRenumbered
    left a = unless a (λ cause. member_renumbered (Err cause) y ps) (renumbered_at y j r)

    called : (a : Answer) → a ≡ (Ok tt) → lists_after a y j r.memory ≡ with_member y j r.memory
    called (Ok tt) q = ap (λ (z : CellSet). with_member z j r.memory) (none_corrected y j first f other)
    called (Err c) q = let z : ◌≡◌ {A = ℕ} 0 1 = cc in absurd (omega arith)

    go : (a : Answer) → (left a).answer ≡ (Ok tt) → (left a).lists ≡ with_member y j r.memory
    go (Ok tt) q = called r.answer q
    go (Err c) q = let z : ◌≡◌ {A = ℕ} 0 1 = cc in absurd (omega arith)

-- ---- a set of one member

pub one_member_walks : OneMemberWalks
one_member_walks y e one choices p visited =
    let u = usable y e in
    one_crossing y (member_in y 0)
    (members_same (members_of y) (member_in y 0 ∷ []) (members_many y ∙ one)
    (λ i li. let z : i ≡ 0 = omega (arith, members_many y) in rw z refl))
    u.whole.nodes_hold u.whole.links_hold choices p visited
