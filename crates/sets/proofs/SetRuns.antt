-- Whatever list of calls the members of a sound set have been through, its crossing walks are those that it had,
-- each location moved.
use Prim.Native.Nat.{ℕ, ◌≤◌, ◌<◌}
use mathlib.Core.Path.{◌≡◌, refl, ap, sym, ◌∙◌}
use mathlib.Core.Bool.{Bool, true, false, cond}
use mathlib.Core.List.{List, [], ◌∷◌}
use lib.Dec.{eqb}
use lib.ListN.{length, length-map}
use borrow.Author.Tests.{eqb-true}
use Rattle.numbers.specs.Refusals.{decided}
use Rattle.std.specs.List.{All}
use Rattle.cells.specs.Cell.{Cell}
use Rattle.cells.specs.Memory.{Memory}
use Rattle.cells.specs.CellOf.{cell_of}
use Rattle.cells.specs.Renumber.{renumber}
use Rattle.cells.specs.WriteRead.{write_read_of}
use Rattle.cells.proofs.WritingBack.KeptCells.{Kept}
use Rattle.cells.proofs.Sequences.Tests.{by_test, true_false}
use Rattle.cells.proofs.Renumbering.CellRenumbered.{done_few}
use Rattle.cells.proofs.WritingBack.WrittenBack.{write_read_same}
use Rattle.walks.specs.Calls.{Call, renumbering, write_read, is_done}
use Rattle.walks.proofs.NewWalks.{move}
use Rattle.walks.proofs.CallLists.{move_id, move_move}
use Rattle.sets.specs.Members.{no_cell, cell_at, areas}
use Rattle.sets.specs.Crossing.{Location, crossing}
use Rattle.sets.specs.SetSound.{set_sound}
use Rattle.sets.specs.MemberList.{member_at, cells_of, member_causes, unless}
use Rattle.sets.specs.SetRenumber.{renumber_cells, members_after, SetRenumbered, renumbered_in, not_renumbered}
use Rattle.sets.specs.SetRenumber.{renumber_in, both_in, not_written, write_read_in}
use Rattle.sets.specs.SetCalls.{SetCall, after_in, run_in, renumbers_in, moves_to, moved_in, any_renumbers_in}
use Rattle.sets.specs.SetClaim.{Stands}
use Rattle.sets.proofs.RenumberedSet.{Numbered, same_length, areas_same, same_nodes, crossing_same, stands_on}
use Rattle.sets.proofs.RenumberedSet.{set_sound_law, numbered_own, numbered_all}
use Rattle.sets.proofs.KeptSet.{set_kept}
use Rattle.sets.proofs.SetMemory.{member_there, cell_at_law, cells_stay, cells_renumbered}
use Rattle.std.specs.Prelude.{Ok, Err}
use Rattle.numbers.specs.Refusals.{Answer}

-- ---- sets that are alike

-- the set ds is the set cs with each node moved by f: every crossing walk shows the same, ends alike and visits the
-- same nodes
pub record Alike (cs ds : List Cell) (f : Location → Location) : Type 0 where
  pub same_count : length ds ≡ length cs
  pub same_member : (t : Location) → (f t).member ≡ t.member
  pub same_areas : areas ds ≡ areas cs
  pub same_nodes : (i : ℕ) → i < length cs → length (cell_at ds i).nodes ≡ length (cell_at cs i).nodes
  pub inside : (t : Location) → Stands cs t → Stands ds (f t)
  pub same_walks : (choices : List ℕ) (t : Location) → Stands cs t → crossing ds choices (f t)
      ≡ move f (crossing cs choices t)

pub alike_refl : (cs : List Cell) → Alike cs cs (λ t. t)
alike_refl cs = record {
  same_count = refl;
  same_member = λ t. refl;
  same_areas = refl;
  same_nodes = λ i li. refl;
  inside = λ t h. h;
  same_walks = λ bs t h. sym (move_id (crossing cs bs t));
}

pub alike_trans : {cs ds es : List Cell} {f g : Location → Location} → Alike cs ds f → Alike ds es g
    → Alike cs es (λ t. g (f t))
alike_trans {cs} {ds} {es} {f} {g} a b = record {
  same_count = b.same_count ∙ a.same_count;
  same_member = λ t. b.same_member (f t) ∙ a.same_member t;
  same_areas = b.same_areas ∙ a.same_areas;
  same_nodes = λ i li. b.same_nodes i (rw a.same_count li) ∙ a.same_nodes i li;
  inside = λ t h. b.inside (f t) (a.inside t h);
  same_walks = λ bs t h. b.same_walks bs (f t) (a.inside t h)
      ∙ (ap (move g) (a.same_walks bs t h) ∙ move_move f g (crossing cs bs t));
}

-- ---- one call

-- a sound set whose cells storing keeps
pub record Fit (cs : List Cell) : Type 0 where
  pub is_sound : set_sound cs ≡ true
  pub is_kept : All Kept cs

-- one call on the member j: the set cs before, ds after, each node moved by f
pub record Step (cs ds : List Cell) (f : Location → Location) (j : ℕ) (renumbered : Bool) : Type 0 where
  pub fit : Fit ds
  pub alike : Alike cs ds f
  pub kept_numbers : (i : ℕ) → i < length cs → Numbered cs i → Numbered ds i
  pub new_numbers : renumbered ≡ true → Numbered ds j

stays : (cs ds : List Cell) (j : ℕ) → Fit cs → ds ≡ cs → Step cs ds (λ t. t) j false
stays cs ds j h e = rw e (record {
  fit = h;
  alike = alike_refl cs;
  kept_numbers = λ i li n. n;
  new_numbers = λ f.
      true_false (sym f);
})

renumbered : (cs : List Cell) (j : ℕ) → j < length cs → length (cell_at cs j).nodes ≤ 65536 → Fit cs
    → Step cs (renumber_cells cs j) (moves_to cs j) j true
renumbered cs j lj few h = record {
  fit = record { is_sound = set_sound_law cs j lj h.is_sound; is_kept = set_kept cs j lj h.is_sound few h.is_kept };
  alike = record {
    same_count = same_length cs j lj h.is_sound;
    same_member = λ t. refl;
    same_areas = areas_same cs j lj h.is_sound;
    same_nodes = same_nodes cs j lj h.is_sound;
    inside = stands_on cs j lj h.is_sound;
    same_walks = crossing_same cs j lj h.is_sound;
  };
  kept_numbers = numbered_all cs j lj h.is_sound;
  new_numbers = λ t. numbered_own cs j lj h.is_sound;
}

abbrev At : List Memory → List Memory → ℕ → Bool → Type 0
At ms after j b = Step (cells_of ms) (cells_of after) (λ t. cond b (moves_to (cells_of ms) j t) t) j b

member_kept : (ms : List Memory) (j : ℕ) → Fit (cells_of ms) → j < length ms → Kept (cell_of (member_at ms j))
member_kept ms j h lj = rw (cell_at_law ms j) at (h.is_kept j no_cell (rw length-map lj))

step : (ms : List Memory) (k : SetCall) → Fit (cells_of ms) → At ms (after_in ms k) k.member (renumbers_in ms k)
unfolding after_in renumbers_in renumber_in write_read_in
step ms k h = go k.call
  where
    j : ℕ
    j = k.member

    go : (c : Call) → At ms (after_in ms (record { member = j; call = c })) j
        (renumbers_in ms (record { member = j; call = c }))
    go (write_read b) = asked (decided (member_causes ms j)) refl
      where
        asked : (a : Answer) → decided (member_causes ms j) ≡ a
            → At ms (unless a (not_written ms b) (both_in ms j (write_read_of (member_at ms j) b))).members j false
        asked (Ok tt) e = stays (cells_of ms) _ j h
            (cells_stay ms j (write_read_of (member_at ms j) b).memory
            (write_read_same (member_at ms j) b (member_kept ms j h (member_there ms j e))))
        asked (Err x) e = stays (cells_of ms) _ j h refl
    go (renumbering s ps) = asked (decided (member_causes ms j)) refl
      where
        called : j < length ms → (a : Answer) → (renumber (member_at ms j) (length s) ps).answer ≡ a
            → At ms (members_after a ms j (renumber (member_at ms j) (length s) ps).memory) j (is_done a)
        called lj (Ok tt) e =
            rw (cells_renumbered ms j (length s) ps e)
            (renumbered (cells_of ms) j (rw length-map lj)
            (rw (cell_at_law ms j) (done_few (member_at ms j) ps (length s) e)) h)
        called lj (Err x) e = stays (cells_of ms) _ j h refl

        after : (a : Answer) → SetRenumbered
        after a = unless a (not_renumbered ms ps) (renumbered_in ms j (renumber (member_at ms j) (length s) ps))

        asked : (a : Answer) → decided (member_causes ms j) ≡ a → At ms (after a).members j (is_done (after a).answer)
        asked (Ok tt) e = called (member_there ms j e) (renumber (member_at ms j) (length s) ps).answer refl
        asked (Err x) e = stays (cells_of ms) _ j h refl

-- ---- lists of calls

pub run_alike : (ms : List Memory) (ks : List SetCall) → Fit (cells_of ms)
    → Alike (cells_of ms) (cells_of (run_in ms ks)) (moved_in ms ks)
unfolding run_in moved_in
run_alike ms [] h = alike_refl (cells_of ms)
run_alike ms (k ∷ ks) h = let s = step ms k h in alike_trans s.alike (run_alike (after_in ms k) ks s.fit)

pub run_fit : (ms : List Memory) (ks : List SetCall) → Fit (cells_of ms) → Fit (cells_of (run_in ms ks))
unfolding run_in
run_fit ms [] h = h
run_fit ms (k ∷ ks) h = run_fit (after_in ms k) ks (step ms k h).fit

run_numbered : (ms : List Memory) (ks : List SetCall) → Fit (cells_of ms) → (i : ℕ) → i < length (cells_of ms)
    → Numbered (cells_of ms) i → Numbered (cells_of (run_in ms ks)) i
unfolding run_in
run_numbered ms [] h i li n = n
run_numbered ms (k ∷ ks) h i li n =
    let s = step ms k h in
    run_numbered (after_in ms k) ks s.fit i (rw s.alike.same_count li) (s.kept_numbers i li n)

pub run_numbers : (ms : List Memory) (ks : List SetCall) → Fit (cells_of ms) → (i : ℕ) → i < length (cells_of ms)
    → any_renumbers_in ms ks i ≡ true → Numbered (cells_of (run_in ms ks)) i
unfolding run_in any_renumbers_in
run_numbers ms [] h i li t = true_false (sym t)
run_numbers ms (k ∷ ks) h i li t =
    let s = step ms k h in
    let lk : i < length (cells_of (after_in ms k)) = rw s.alike.same_count li in
    by_test (eqb i k.member)
    (λ e. by_test (renumbers_in ms k)
    (λ r. run_numbered (after_in ms k) ks s.fit i lk (rw (eqb-true i k.member e) (s.new_numbers r)))
    (λ f. run_numbers (after_in ms k) ks s.fit i lk (rw (e, f) at t)))
    (λ f. run_numbers (after_in ms k) ks s.fit i lk (rw f at t))
