-- Other sentences of T-09 about renumbering and writing one member.
use Prim.Native.Nat.{ℕ}
use native.Mathlib.Omega.{arith}
use mathlib.Core.Path.{◌≡◌, refl, ap, sym, ◌∙◌}
use mathlib.Core.Bool.{true, false, not, ◌&&◌}
use mathlib.Core.List.{List, []}
use mathlib.Core.Option.{Option, none, some}
use lib.Dec.{eqb}
use lib.ListN.{length, get_or, set, take}
use lib.Seq.{set-get_or}
use borrow.Author.Tests.{eqb-true, eqb-false, eq-eqb, ne_eqb}
use Rattle.numbers.specs.Refusals.{decided}
use Rattle.cells.specs.Area.{belongs}
use Rattle.cells.specs.Cell.{Cell}
use Rattle.cells.specs.Memory.{Memory, memory, over_limit, short}
use Rattle.cells.specs.Lookup.{first_with}
use Rattle.cells.specs.Read.{read_of}
use Rattle.cells.specs.Renumber.{answer_of, left_by, renumber}
use Rattle.cells.specs.Write.{write_call}
use Rattle.cells.specs.WriteRead.{if_read, if_written, write_read_of}
use Rattle.cells.proofs.Sequences.Tests.{by_test, true_false}
use Rattle.sets.specs.Members.{cell_at, area_of, areas, member_for}
use Rattle.sets.specs.MemberList.{member_at, member_causes, unless}
use Rattle.sets.specs.SetRenumber.{Change, is_member, meant, corrected, change_of, correct_link, correct_memory}
use Rattle.sets.specs.SetRenumber.{members_after, SetRenumbered, renumbered_in, not_renumbered, renumber_in}
use Rattle.sets.specs.SetRenumber.{SetBoth, both_in, not_written, write_read_in}
use Rattle.sets.proofs.SetLists.{over_same}
use Rattle.sets.proofs.MemberLaws.{first_has, area_at}
use Rattle.std.specs.Prelude.{Result, Ok, Err}
use Rattle.numbers.specs.Refusals.{Answer}
use Rattle.numbers.specs.declared.refusal.Refusal.{Refusal}
use Rattle.cells.specs.declared.link.PathLink.{PathLink}

-- ---- "A write refused in one member changes none", and so a renumbering

pub written_refused : (m : Memory) (s : List ℕ) (x : Refusal) → (write_read_of m s).answer ≡ Err x
    → ((write_read_of m s).memory ≡ m) × ((write_read_of m s).section ≡ s)
unfolding write_read_of
written_refused m s x e = go (write_call m s).answer e
  where
    t : List ℕ
    t = (write_call m s).section

    reading : (n : ℕ) (c : Answer) → (if_read n t c (read_of (take n t) [] m).memory m s).answer ≡ Err x
        → ((if_read n t c (read_of (take n t) [] m).memory m s).memory ≡ m)
        × ((if_read n t c (read_of (take n t) [] m).memory m s).section ≡ s)
    reading n (Err y) e = (refl, refl)
    reading n (Ok tt) e = let z : ◌≡◌ {A = ℕ} 0 1 = cc in absurd (omega arith)

    go : (a : Result ℕ Refusal) → (if_written a t m s).answer ≡ Err x → ((if_written a t m s).memory ≡ m)
        × ((if_written a t m s).section ≡ s)
    go (Err y) e = (refl, refl)
    go (Ok n) e = reading n (read_of (take n t) [] m).answer e

pub write_refused : (ms : List Memory) (j : ℕ) (s : List ℕ) (x : Refusal) → (write_read_in ms j s).answer ≡ Err x
    → ((write_read_in ms j s).members ≡ ms) × ((write_read_in ms j s).section ≡ s)
unfolding write_read_in
write_refused ms j s x e = go (decided (member_causes ms j)) e
  where
    left : Answer → SetBoth
    left a = unless a (not_written ms s) (both_in ms j (write_read_of (member_at ms j) s))

    go : (a : Answer) → (left a).answer ≡ Err x → ((left a).members ≡ ms) × ((left a).section ≡ s)
    go (Ok tt) e = let r = written_refused (member_at ms j) s x e in
        (ap (λ (m : Memory). set ms j m) r.0 ∙ set-get_or ms j _, r.1)
    go (Err y) e = (refl, refl)

pub places_stay : (m : Memory) (ps : List ℕ) (s : ℕ) (x : Refusal) → (renumber m s ps).answer ≡ Err x
    → (renumber m s ps).places ≡ ps
unfolding renumber
places_stay m ps s x e = go (answer_of (over_limit m.ynd) m.ynd.node_count (short m) s (length ps)) e
  where
    go : (a : Answer) → (left_by a m ps).answer ≡ Err x → (left_by a m ps).places ≡ ps
    go (Ok tt) e = let z : ◌≡◌ {A = ℕ} 0 1 = cc in absurd (omega arith)
    go (Err y) e = refl

pub renumbering_refused : (ms : List Memory) (j s : ℕ) (ps : List ℕ) (x : Refusal) → (renumber_in ms j s ps).answer
    ≡ Err x
    → ((renumber_in ms j s ps).members ≡ ms) × ((renumber_in ms j s ps).places ≡ ps)
unfolding renumber_in
renumbering_refused ms j s ps x e = go (decided (member_causes ms j)) e
  where
    left : Answer → SetRenumbered
    left a = unless a (not_renumbered ms ps) (renumbered_in ms j (renumber (member_at ms j) s ps))

    called : (a : Answer) (m : Memory) → a ≡ Err x → members_after a ms j m ≡ ms
    called (Ok tt) m e = let z : ◌≡◌ {A = ℕ} 0 1 = cc in absurd (omega arith)
    called (Err y) m e = refl

    go : (a : Answer) → (left a).answer ≡ Err x → ((left a).members ≡ ms) × ((left a).places ≡ ps)
    go (Ok tt) e = (
      called (renumber (member_at ms j) s ps).answer (renumber (member_at ms j) s ps).memory e,
      places_stay (member_at ms j) ps s x e,
    )
    go (Err y) e = (refl, refl)

-- ---- "Where edits gave two members one area, the one that joined first is meant by links .., and renumbering the
-- other
-- corrects no links outside it"

-- a link in another member, where the member renumbered is not the first of its area
pub not_meant : (x : Change) → is_member x.member (first_with x.areas (get_or x.areas x.member 0)) ≡ false
    → (i a : ℕ) → eqb i x.member ≡ false → meant x i a ≡ false
unfolding member_for
not_meant x other i a ne = by_test (belongs (get_or x.areas i 0) a)
    (λ t. rw (t, ne))
    (λ f. rw f (by_test (is_member x.member (first_with x.areas a))
    (λ t.
    let h : first_with x.areas a ≡ some x.member = is_some (first_with x.areas a) t in
    let e : get_or x.areas x.member 0 ≡ a = (first_has x.areas a x.member h).1 in
    true_false (sym t ∙ ap (λ (b : ℕ). is_member x.member (first_with x.areas b)) (sym e) ∙ other))
    (λ g. g)))
  where
    is_some : (r : Option ℕ) → is_member x.member r ≡ true → r ≡ some x.member
    is_some none t = true_false (sym t)
    is_some (some q) t = ap {B = Option ℕ} some (eqb-true q x.member t)

module _ (cs : List Cell) (j k : ℕ) (first : first_with (areas cs) (area_of (cell_at cs j)) ≡ some k)
    (other : eqb k j ≡ false) where
  later : is_member j (first_with (areas cs) (get_or (areas cs) j 0)) ≡ false
  later = ap (is_member j) (ap (first_with (areas cs)) (area_at cs j) ∙ first) ∙ other

  pub other_corrects_none : (i : ℕ) (m : Memory) → eqb i j ≡ false → correct_memory (change_of cs j) i m ≡ m
  unfolding correct_memory corrected
  other_corrects_none i m ne =
      ap (λ (l : List PathLink). memory m.ynd m.nodes l m.junctions m.heights m.refs)
      (over_same (correct_link (change_of cs j) i) (λ w. rw (not_meant (change_of cs j) later i w.area_id ne))
      m.ynd.link_count m.links)

-- ---- the same by one area: what a fast correction tests

-- where the member renumbered is the first of its area, a link in another member is meant exactly if it names that
-- area
-- and the own rule doesn't claim it
pub meant_of_area : (x : Change) (area : ℕ) → area ≡ get_or x.areas x.member 0
    → is_member x.member (first_with x.areas area) ≡ true
    → (i a : ℕ) → eqb i x.member ≡ false → meant x i a ≡ not (belongs (get_or x.areas i 0) a) && eqb a area
unfolding member_for
meant_of_area x area is first i a ne = by_test (belongs (get_or x.areas i 0) a)
    (λ t. rw (t, ne))
    (λ f. rw f (by_test (eqb a area)
    (λ t. let e : a ≡ area = eqb-true a area t in rw (t, e) first)
    (λ g. rw g (go (first_with x.areas a) refl (eqb-false a area g)))))
  where
    go : (r : Option ℕ) → first_with x.areas a ≡ r → (a ≡ area → ⊥) → is_member x.member r ≡ false
    go none e differs = refl
    go (some q) e differs =
        ne_eqb q x.member (λ z.
        differs (sym (first_has x.areas a q e).1 ∙ ap (λ (n : ℕ). get_or x.areas n 0) z ∙ sym is))

pub meant_by_area : (cs : List Cell) (j : ℕ) → first_with (areas cs) (area_of (cell_at cs j)) ≡ some j → (i a : ℕ)
    → eqb i j ≡ false
    → meant (change_of cs j) i a ≡ not (belongs (get_or (areas cs) i 0) a) && eqb a (area_of (cell_at cs j))
meant_by_area cs j first = meant_of_area (change_of cs j) (area_of (cell_at cs j)) (sym (area_at cs j))
    (ap (is_member j) first ∙ eq-eqb j j refl)
