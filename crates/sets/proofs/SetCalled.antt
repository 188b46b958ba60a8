-- The calls on a set in six lists do to its members what the calls on a list of members do, and keep what a call
-- needs.
use Prim.Native.Nat.{ℕ, ◌<◌}
use native.Mathlib.Omega.{arith}
use mathlib.Core.Path.{◌≡◌, refl, ap, sym, ◌∙◌, subst}
use mathlib.Core.Bool.{Bool, cond}
use mathlib.Core.List.{List, [], ◌∷◌}
use lib.ListN.{length, set}
use lib.Seq.{set-get_or}
use Rattle.numbers.specs.Refusals.{decided}
use Rattle.cells.specs.Memory.{Memory}
use Rattle.cells.specs.Renumber.{Renumbered, renumber}
use Rattle.cells.specs.WriteRead.{Both, write_read_of}
use Rattle.walks.specs.Calls.{Call, renumbering, write_read, is_done}
use Rattle.sets.specs.Crossing.{Location}
use Rattle.sets.specs.MemberList.{no_memory, cells_of, member_causes, unless}
use Rattle.sets.specs.SetRenumber.{members_after, SetRenumbered, renumbered_in, not_renumbered, renumber_in, SetBoth}
use Rattle.sets.specs.SetRenumber.{both_in, not_written, write_read_in}
use Rattle.sets.specs.SetCalls.{SetCall, after_in, run_in, renumbers_in, moves_to, moved_in}
use Rattle.sets.specs.CellSet.{CellSet, members_of}
use Rattle.sets.specs.SetStored.{member_in, with_member}
use Rattle.sets.specs.RenumberMember.{MemberRenumbered, member_renumbered, others_corrected, lists_after}
use Rattle.sets.specs.RenumberMember.{renumbered_at}
use Rattle.sets.specs.RenumberMember.{renumber_member}
use Rattle.sets.specs.WriteMember as write
use Rattle.sets.specs.WriteMember.{SetWritten, set_written, wrote_in, write_read_member}
use Rattle.sets.specs.SetRun.{after_on, run_set, renumbers_on, moved_on}
use Rattle.sets.proofs.SetMemory.{member_there}
use Rattle.sets.proofs.SetLaws.{written_refused}
use Rattle.sets.proofs.CellSetLaws.{members_many}
use Rattle.sets.proofs.MemberKept.{Stays, renumber_stays, write_read_stays}
use Rattle.sets.proofs.SetKept.{Usable, Changed, asked_alike, member_ready, stored}
use Rattle.sets.proofs.SetCorrected.{z, corrected_is, corrected_usable, own_as_was, all_corrected}
use Rattle.std.specs.Prelude.{Result, Ok, Err}
use Rattle.numbers.specs.Refusals.{Answer}
use Rattle.numbers.specs.declared.refusal.Refusal.{Refusal}

-- the six lists y before a call and z after it, whose members then are ms
pub record As (y z : CellSet) (ms : List Memory) : Type 0 where
  pub as_usable : Usable z
  pub as_many : length z.members ≡ length y.members
  pub same_members : members_of z ≡ ms

as_was : (y : CellSet) → Usable y → As y y (members_of y)
as_was y u = record { as_usable = u; as_many = refl; same_members = refl }

module _ (y : CellSet) (u : Usable y) (j : ℕ) where
  abbrev ms : List Memory
  ms = members_of y

  -- a call that passed 13 is on a member
  there : decided (member_causes ms j) ≡ (Ok tt) → j < length y.members
  there e = let lt = member_there ms j e in omega (arith, members_many y)

  -- ---- renumbering

  -- what the call answers and leaves is what the call over the members does
  pub record RenumberedAs (r : MemberRenumbered) (q : SetRenumbered) : Type 0 where
    pub lists : As y r.lists q.members
    pub same_answer : r.answer ≡ q.answer
    pub same_places : r.places ≡ q.places

  module _ (s : ℕ) (ps : List ℕ) where
    abbrev r : Renumbered
    r = renumber (member_in y j) s ps

    by_answer : j < length y.members → (a : Answer)
        → RenumberedAs (member_renumbered a (lists_after a y j r.memory) r.places)
        (record { answer = a; members = members_after a ms j r.memory; places = r.places })
    by_answer lt (Ok tt) =
        let c : Changed (others_corrected y j) (with_member (others_corrected y j) j r.memory) j r.memory =
        subst (λ (o : CellSet). Changed o (with_member o j r.memory) j r.memory) (sym (corrected_is y j u))
        (stored (z y j u) (corrected_usable y j u) j lt r.memory
        (subst (λ (m : Memory). Stays m r.memory) (sym (own_as_was y j u lt))
        (renumber_stays (member_in y j) ps s (member_ready y u j lt)))) in
        record {
          lists = record {
            as_usable = c.as_usable;
            as_many = c.as_many
                ∙ ap (λ (o : CellSet). length o.members) (corrected_is y j u);
            same_members = c.one_other
                ∙ ap (λ (o : CellSet). set (members_of o) j r.memory) (corrected_is y j u)
                ∙ all_corrected y j u r.memory lt;
          };
          same_answer = refl;
          same_places = refl;
        }
    by_answer lt (Err x) = record { lists = as_was y u; same_answer = refl; same_places = refl }

    pub renumbered_as : RenumberedAs (renumber_member y j s ps) (renumber_in ms j s ps)
    unfolding renumber_member renumber_in
    renumbered_as = rw (asked_alike y j u.whole) (go (decided (member_causes ms j)) refl)
      where
        go : (a : Answer) → decided (member_causes ms j) ≡ a
            → RenumberedAs (unless a (λ cause. member_renumbered (Err cause) y ps)
            (renumbered_at y j r)) (unless a (not_renumbered ms ps) (renumbered_in ms j r))
        go (Ok tt) e = by_answer (there e) r.answer
        go (Err x) e = record { lists = as_was y u; same_answer = refl; same_places = refl }

  -- ---- write-then-read

  pub record WrittenAs (r : SetWritten) (q : SetBoth) : Type 0 where
    pub lists : As y r.lists q.members
    pub same_answer : r.answer ≡ q.answer
    pub same_section : r.section ≡ q.section

  module _ (section : List ℕ) where
    abbrev b : Both
    b = write_read_of (member_in y j) section

    by_written : j < length y.members → (a : Result ℕ Refusal) → b.answer ≡ a
        → WrittenAs (set_written a (write.lists_after a y j b.memory) b.section)
        (record { answer = a; members = set ms j b.memory; section = b.section })
    by_written lt (Ok n) e =
        let c = stored y u j lt b.memory (write_read_stays (member_in y j) section (member_ready y u j lt)) in
        record {
          lists = record { as_usable = c.as_usable; as_many = c.as_many; same_members = c.one_other };
          same_answer = refl;
          same_section = refl;
        }
    by_written lt (Err x) e = record {
      lists = record {
        as_usable = u;
        as_many = refl;
        same_members = sym (ap (set ms j) (written_refused (member_in y j) section x e).0 ∙ set-get_or ms j no_memory);
      };
      same_answer = refl;
      same_section = refl;
    }

    pub written_as : WrittenAs (write_read_member y j section) (write_read_in ms j section)
    unfolding write_read_member write_read_in
    written_as = rw (asked_alike y j u.whole) (go (decided (member_causes ms j)) refl)
      where
        go : (a : Answer) → decided (member_causes ms j) ≡ a
            → WrittenAs (unless a (λ cause. set_written (Err cause) y section) (wrote_in y j b))
            (unless a (not_written ms section) (both_in ms j b))
        go (Ok tt) e = by_written (there e) b.answer refl
        go (Err x) e = record { lists = as_was y u; same_answer = refl; same_section = refl }

-- ---- lists of calls

pub after_as : (y : CellSet) → Usable y → (k : SetCall) → As y (after_on y k) (after_in (members_of y) k)
unfolding after_on after_in
after_as y u k = go k.call
  where
    go : (c : Call) → As y (after_on y (record { member = k.member; call = c }))
        (after_in (members_of y) (record { member = k.member; call = c }))
    go (renumbering scratch places) = (renumbered_as y u k.member (length scratch) places).lists
    go (write_read section) = (written_as y u k.member section).lists

pub renumbers_as : (y : CellSet) → Usable y → (k : SetCall) → renumbers_on y k ≡ renumbers_in (members_of y) k
unfolding renumbers_on renumbers_in
renumbers_as y u k = go k.call
  where
    go : (c : Call) → renumbers_on y (record { member = k.member; call = c })
        ≡ renumbers_in (members_of y) (record { member = k.member; call = c })
    go (renumbering scratch places) = ap is_done (renumbered_as y u k.member (length scratch) places).same_answer
    go (write_read section) = refl

pub run_as : (y : CellSet) → Usable y → (ks : List SetCall) → As y (run_set y ks) (run_in (members_of y) ks)
unfolding run_set run_in
run_as y u [] = as_was y u
run_as y u (k ∷ ks) =
    let a = after_as y u k in
    let r = run_as (after_on y k) a.as_usable ks in
    record {
      as_usable = r.as_usable;
      as_many = r.as_many ∙ a.as_many;
      same_members = r.same_members ∙ ap (λ (ms : List Memory). run_in ms ks) a.same_members;
    }

pub moved_as : (y : CellSet) → Usable y → (ks : List SetCall) (s : Location)
    → moved_on y ks s ≡ moved_in (members_of y) ks s
unfolding moved_on moved_in
moved_as y u [] s = refl
moved_as y u (k ∷ ks) s =
    let a = after_as y u k in
    let here : Bool → Location = λ b. cond b (moves_to (cells_of (members_of y)) k.member s) s in
    moved_as (after_on y k) a.as_usable ks (here (renumbers_on y k))
    ∙ (λ i. moved_in (a.same_members i) ks (here (renumbers_as y u k i)))
