-- T-09's sentence, of the calls on a set in six lists.
use Prim.Native.Nat.{ℕ, ◌<◌}
use native.Mathlib.Omega.{arith}
use mathlib.Core.Path.{◌≡◌, refl, ap, sym, ◌∙◌, subst}
use mathlib.Core.Bool.{Bool, true, false, ◌&&◌, ◌||◌, cond}
use mathlib.Core.List.{List, [], ◌∷◌, map}
use lib.Dec.{eqb, leb}
use lib.ListN.{length, get_or, take, drop, length-map}
use lib.Seq.{take_at}
use Rattle.numbers.specs.Refusals.{decided}
use Rattle.cells.specs.Cell.{node_at}
use Rattle.cells.specs.Memory.{Memory}
use Rattle.cells.proofs.Sequences.Tests.{true_false}
use Rattle.walks.specs.Walk.{Trail}
use Rattle.walks.specs.Calls.{Call, renumbering, write_read, is_done}
use Rattle.walks.specs.Claim.{places, SameWalk}
use Rattle.walks.specs.declared.walk.End.{End}
use Rattle.walks.proofs.Routes.{same_walk}
use Rattle.walks.proofs.CallLists.{move_id}
use Rattle.sets.specs.Members.{cell_at, areas}
use Rattle.sets.specs.Crossing.{Location, location, crossing}
use Rattle.sets.specs.SetSound.{set_sound}
use Rattle.sets.specs.MemberList.{cells_of}
use Rattle.sets.specs.SetCalls.{SetCall, run_in, renumbers_in, moves_to, moved_in, any_renumbers_in}
use Rattle.sets.specs.CrossingCall.{CrossingLeft, location_words, visit_words, crossed_by, crossing_call}
use Rattle.sets.specs.SetClaim.{Stands, SetUnnoticed}
use Rattle.sets.specs.CellSet.{CellSet, members_of, set_causes}
use Rattle.sets.specs.SetStored.{ask_causes}
use Rattle.sets.specs.CrossMember.{cross_causes, cross_member}
use Rattle.sets.specs.RenumberMember.{MemberRenumbered, member_renumbered, renumber_member}
use Rattle.sets.specs.WriteMember.{SetWritten, set_written, write_read_member}
use Rattle.sets.specs.SetRun.{after_on, run_set, renumbers_on, moved_on, any_renumbers_on}
use Rattle.sets.specs.SetCallsClaim.{CallsUnnoticed, CallsUnnoticedTheorem}
use Rattle.sets.specs.CellSet.{cells_in}
use Rattle.sets.proofs.CellSetLaws.{members_many}
use Rattle.sets.proofs.CrossingHeld.{crossing_held}
use Rattle.sets.proofs.SetDemand.{set_unnoticed}
use Rattle.sets.proofs.SetKept.{Usable, usable, may_be_used}
use Rattle.sets.proofs.SetCalled.{As, after_as, renumbers_as, run_as, moved_as}
use Rattle.walks.specs.declared.walk.Walked.{Walked}
use Rattle.std.specs.Prelude.{Result, Ok, Err}
use Rattle.numbers.specs.Refusals.{Answer}
use Rattle.numbers.specs.declared.refusal.Refusal.{Refusal}
use Rattle.numbers.specs.declared.refusal.Refusal.TheVariants.{NoSuchPlace}

-- ---- the call of a crossing walk

-- of a set that may be used it is the call over the members
crossed_alike : (y : CellSet) → Usable y → (choices : List ℕ) (s : Location) (visited : List (List ℕ))
    → cross_member y choices s visited ≡ crossing_call (members_of y) choices s visited
crossed_alike y u = crossing_held y u.whole.nodes_hold u.whole.links_hold

abbrev counted : Result Walked Refusal → ℕ
counted (Ok w) = w.count
counted (Err x) = 0

-- what an accepted call stores
record Stored (t : Trail Location) (left : CrossingLeft) (end : End) (n : ℕ) : Type 0 where
  pub many : n ≡ length (places t)
  pub stored : take n left.visited ≡ visit_words t

ended : (a : Answer) (t : Trail Location) (visited : List (List ℕ)) (end : End) (n : ℕ)
    → (crossed_by a t visited).answer ≡ Ok (record { end = end; count = n }) → Stored t (crossed_by a t visited) end n
ended (Err x) t visited end n e = let z : ◌≡◌ {A = ℕ} 0 1 = cc in absurd (omega arith)
ended (Ok tt) t visited end n e =
    let m : n ≡ length (places t) = sym (ap counted e) in
    record {
      many = m;
      stored =
          take_at (visit_words t) (drop (length (places t)) visited) n (length-map (places t) location_words ∙ sym m);
    }

-- two accepted calls, of walks that visit the same places, each moved by f
visits : (y z : CellSet) (f : Location → Location) (choices : List ℕ) (s r : Location) (visited later : List (List ℕ))
    (end : End) (n : ℕ)
    → SameWalk f (crossing (cells_in y) choices s) (crossing (cells_in z) choices r)
    → (cross_member z choices r later).answer ≡ (cross_member y choices s visited).answer
    → (cross_member y choices s visited).answer ≡ Ok (record { end = end; count = n })
    → take n (cross_member z choices r later).visited
    ≡ map (λ w. location_words (f (location (get_or w 0 0) (get_or w 1 0))))
    (take n (cross_member y choices s visited).visited)
unfolding cross_member
visits y z f choices s r visited later end n w same e =
    let t = crossing (cells_in y) choices s in
    let d = crossing (cells_in z) choices r in
    let g : List ℕ → List ℕ = λ v. location_words (f (location (get_or v 0 0) (get_or v 1 0))) in
    let a = ended (decided (cross_causes y s (length (places t)) (length visited))) t visited end n e in
    let b = ended (decided (cross_causes z r (length (places d)) (length later))) d later end n (same ∙ e) in
    b.stored
    ∙ ap (map location_words) w.same_places
    ∙ each (places t)
    ∙ ap (map g) (sym a.stored)
  where
    each : (l : List Location)
        → map location_words (map f l)
        ≡ map (λ v. location_words (f (location (get_or v 0 0) (get_or v 1 0)))) (map location_words l)
    each [] = refl
    each (q ∷ qs) = ap {B = List (List ℕ)} (λ rest. location_words (f q) ∷ rest) (each qs)

-- ---- a set that may be used

any_as : (y : CellSet) → Usable y → (ks : List SetCall) (i : ℕ)
    → any_renumbers_on y ks i ≡ any_renumbers_in (members_of y) ks i
unfolding any_renumbers_on any_renumbers_in
any_as y u [] i = refl
any_as y u (k ∷ ks) i =
    let a = after_as y u k in
    (λ q. (eqb i k.member && renumbers_as y u k q) || any_as (after_on y k) a.as_usable ks i q)
    ∙ ap (λ (ms : List Memory). (eqb i k.member && renumbers_in (members_of y) k) || any_renumbers_in ms ks i)
    a.same_members

module _ (y : CellSet) (u : Usable y) (ks : List SetCall) (claim : SetUnnoticed (members_of y) ks) where
  abbrev ms : List Memory
  ms = members_of y

  abbrev z : CellSet
  z = run_set y ks

  after : As y z (run_in ms ks)
  after = run_as y u ks

  moves : moved_on y ks ≡ moved_in ms ks
  moves = λ i q. moved_as y u ks q i

  -- what holds of the members after the calls, and of where their nodes stand
  both : (P : List Memory → (Location → Location) → Type 0) → P (run_in ms ks) (moved_in ms ks)
      → P (members_of z) (moved_on y ks)
  both P p = subst (λ (ds : List Memory). P ds (moved_on y ks)) (sym after.same_members)
      (subst (λ (f : Location → Location). P (run_in ms ks) f) (sym moves) p)

  walks_same : (choices : List ℕ) (q : Location) → Stands (cells_in y) q
      → SameWalk (moved_on y ks) (crossing (cells_in y) choices q) (crossing (cells_in z) choices (moved_on y ks q))
  walks_same choices q st =
      both (λ ds f. SameWalk f (crossing (cells_of ms) choices q) (crossing (cells_of ds) choices (f q)))
      (claim.same_walks choices q st)

  answers_same : (choices : List ℕ) (q : Location) → Stands (cells_in y) q → (visited later : List (List ℕ))
      → length later ≡ length visited
      → (cross_member z choices (moved_on y ks q) later).answer ≡ (cross_member y choices q visited).answer
  answers_same choices q st visited later e =
      ap (λ (l : CrossingLeft). l.answer) (crossed_alike z after.as_usable choices (moved_on y ks q) later)
      ∙ both (λ ds f. (crossing_call ds choices (f q) later).answer ≡ (crossing_call ms choices q visited).answer)
      (claim.same_answers choices q st visited later e)
      ∙ ap (λ (l : CrossingLeft). l.answer) (sym (crossed_alike y u choices q visited))

  used_unnoticed : CallsUnnoticed y ks
  used_unnoticed = record {
    same_members = after.as_many;
    same_causes = may_be_used z after.as_usable ∙ sym (may_be_used y u);
    still_there = λ q st. both (λ ds f. Stands (cells_of ds) (f q)) (claim.still_there q st);
    same_member = λ q. both (λ ds f. (f q).member ≡ q.member) (claim.same_member q);
    still_sound = both (λ ds f. set_sound (cells_of ds) ≡ true) claim.still_sound;
    same_areas = both (λ ds f. areas (cells_of ds) ≡ areas (cells_of ms)) claim.same_areas;
    same_walks = walks_same;
    same_answers = answers_same;
    same_visits = λ choices q st visited later e end n d.
        visits y z (moved_on y ks) choices q (moved_on y ks q) visited later end n (walks_same choices q st)
        (answers_same choices q st visited later e) d;
    numbered = λ i li t.
        both (λ ds f. (q : ℕ) → q < length (cell_at (cells_of ds) i).nodes
        → (node_at (cell_at (cells_of ds) i).nodes q).number ≡ q)
        (claim.numbered i (rw (← members_many) at li) (sym (any_as y u ks i) ∙ t));
  }

-- ---- a set that every call refuses

module _ (y : CellSet) (cause : Refusal) (no : decided (set_causes y) ≡ Err cause) where
  record Refused (j : ℕ) : Type 0 where
    pub why : Refusal
    pub is : decided (ask_causes y j) ≡ Err why

  refusal : (j : ℕ) → Refused j
  unfolding ask_causes
  refusal j = go (leb (length y.members) j) refl
    where
      go : (b : Bool) → leb (length y.members) j ≡ b → Refused j
      go true e = record { why = NoSuchPlace; is = rw e refl }
      go false e = record { why = cause; is = rw e no }

  not_renumbered_law : (j scratch : ℕ) (ps : List ℕ) (x : Refusal) → decided (ask_causes y j) ≡ Err x
      → renumber_member y j scratch ps ≡ member_renumbered (Err x) y ps
  unfolding renumber_member
  not_renumbered_law j scratch ps x e = rw e refl

  not_written_law : (j : ℕ) (section : List ℕ) (x : Refusal) → decided (ask_causes y j) ≡ Err x
      → write_read_member y j section ≡ set_written (Err x) y section
  unfolding write_read_member
  not_written_law j section x e = rw e refl

  idle : (k : SetCall) → (after_on y k ≡ y) × (renumbers_on y k ≡ false)
  unfolding after_on renumbers_on
  idle k = go k.call
    where
      go : (c : Call) → (after_on y (record { member = k.member; call = c }) ≡ y) ×
          (renumbers_on y (record { member = k.member; call = c }) ≡ false)
      go (renumbering scratch ps) =
          let r = refusal k.member in
          let e = not_renumbered_law k.member (length scratch) ps r.why r.is in
          (ap (λ (m : MemberRenumbered). m.lists) e, ap (λ (m : MemberRenumbered). is_done m.answer) e)
      go (write_read section) =
          let r = refusal k.member in
          (ap (λ (m : SetWritten). m.lists) (not_written_law k.member section r.why r.is), refl)

  idle_run : (ks : List SetCall) → run_set y ks ≡ y
  unfolding run_set
  idle_run [] = refl
  idle_run (k ∷ ks) = ap (λ (w : CellSet). run_set w ks) (idle k).0 ∙ idle_run ks

  idle_moved : (ks : List SetCall) (q : Location) → moved_on y ks q ≡ q
  unfolding moved_on
  idle_moved [] q = refl
  idle_moved (k ∷ ks) q =
      let i = idle k in
      (λ p. moved_on (i.0 p) ks (cond (i.1 p) (moves_to (cells_of (members_of y)) k.member q) q)) ∙ idle_moved ks q

  idle_any : (ks : List SetCall) (i : ℕ) → any_renumbers_on y ks i ≡ false
  unfolding any_renumbers_on
  idle_any [] i = refl
  idle_any (k ∷ ks) i = let d = idle k in rw (d.1, d.0, idle_any ks i) (go (eqb i k.member))
    where
      go : (b : Bool) → (b && false) || false ≡ false
      go true = refl
      go false = refl

  -- where nothing has changed
  answer_by_law : (a : Answer) (t : Trail Location) (visited later : List (List ℕ))
      → (crossed_by a t later).answer ≡ (crossed_by a t visited).answer
  answer_by_law (Ok tt) t visited later = refl
  answer_by_law (Err x) t visited later = refl

  answers_idle : (choices : List ℕ) (q : Location) (visited later : List (List ℕ)) → length later ≡ length visited
      → (cross_member y choices q later).answer ≡ (cross_member y choices q visited).answer
  unfolding cross_member
  answers_idle choices q visited later e =
      let t = crossing (cells_in y) choices q in
      (λ i. (crossed_by (decided (cross_causes y q (length (places t)) (e i))) t later).answer)
      ∙ answer_by_law (decided (cross_causes y q (length (places t)) (length visited))) t visited later

  idle_unnoticed : set_sound (cells_in y) ≡ true → (ks : List SetCall) → CallsUnnoticed y ks
  idle_unnoticed s ks = record {
    same_members = ap (λ (w : CellSet). length w.members) r;
    same_causes = ap (λ (w : CellSet). decided (set_causes w)) r;
    still_there = λ q st. unmoved (λ w f. Stands (cells_in w) (f q)) st;
    same_member = λ q. unmoved (λ w f. (f q).member ≡ q.member) refl;
    still_sound = unmoved (λ w f. set_sound (cells_in w) ≡ true) s;
    same_areas = unmoved (λ w f. areas (cells_in w) ≡ areas (cells_in y)) refl;
    same_walks = same;
    same_answers = answers;
    same_visits = λ choices q st visited later e end n d.
        visits y (run_set y ks) (moved_on y ks) choices q (moved_on y ks q) visited later end n (same choices q st)
        (answers choices q st visited later e) d;
    numbered = λ i li t. true_false (sym t ∙ idle_any ks i);
  }
    where
      r : run_set y ks ≡ y
      r = idle_run ks

      moves : moved_on y ks ≡ (λ q. q)
      moves = λ i q. idle_moved ks q i

      unmoved : (P : CellSet → (Location → Location) → Type 0) → P y (λ q. q) → P (run_set y ks) (moved_on y ks)
      unmoved P p = subst (λ (w : CellSet). P w (moved_on y ks)) (sym r)
          (subst (λ (f : Location → Location). P y f) (sym moves) p)

      same : (choices : List ℕ) (q : Location) → Stands (cells_in y) q
          → SameWalk (moved_on y ks) (crossing (cells_in y) choices q)
          (crossing (cells_in (run_set y ks)) choices (moved_on y ks q))
      same choices q st =
          let t = crossing (cells_in y) choices q in
          unmoved (λ w f. SameWalk f t (crossing (cells_in w) choices (f q)))
          (same_walk (λ l. l) t t (sym (move_id t)))

      answers : (choices : List ℕ) (q : Location) → Stands (cells_in y) q → (visited later : List (List ℕ))
          → length later ≡ length visited
          → (cross_member (run_set y ks) choices (moved_on y ks q) later).answer
          ≡ (cross_member y choices q visited).answer
      answers choices q st visited later e =
          unmoved (λ w f. (cross_member w choices (f q) later).answer ≡ (cross_member y choices q visited).answer)
          (answers_idle choices q visited later e)

-- what holds of the members of a sound set holds of the six lists
pub in_six_lists : (y : CellSet) (ks : List SetCall) → set_sound (cells_in y) ≡ true → SetUnnoticed (members_of y) ks
    → CallsUnnoticed y ks
in_six_lists y ks s claim = go (decided (set_causes y)) refl
  where
    go : (a : Answer) → decided (set_causes y) ≡ a → CallsUnnoticed y ks
    go (Ok tt) e = used_unnoticed y (usable y e) ks claim
    go (Err cause) e = idle_unnoticed y cause e s ks

-- the sentence, of every set whose members are sound and each a cell as read
pub calls_unnoticed : CallsUnnoticedTheorem
calls_unnoticed y read s ks =
    in_six_lists y ks s (set_unnoticed (members_of y) (λ i li. read i (rw members_many at li)) s ks)
