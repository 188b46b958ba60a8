-- The set that is left when a member leaves may be used like the one before.
use Rattle.std.proofs.lemmas.Bool.{or_parts, or_from}
use Prim.Native.Nat.{ℕ, zero, suc, ◌+◌, ◌-◌, ◌≤◌, ◌<◌}
use native.Mathlib.Omega.{arith}
use mathlib.Core.Path.{◌≡◌, refl, ap, sym, ◌∙◌, subst}
use mathlib.Core.Bool.{Bool, true, false, ◌||◌}
use mathlib.Core.List.{List, [], ◌∷◌, ◌++◌}
use mathlib.Core.Option.{some}
use lib.Dec.{ltb}
use lib.ListN.{length, take, drop, length-append, length-drop}
use lib.Seq.{length-take-le}
use borrow.Author.Tests.{ltb-true, ltb-false, le-ltb}
use Rattle.cells.specs.Memory.{Memory, over_limit}
use Rattle.cells.proofs.Sequences.Tests.{by_test, true_false}
use Rattle.sets.specs.MemberList.{nodes_together, any_over, over_set, unless}
use Rattle.sets.specs.CellSet.{CellSet, cell_set, words_at, total, members_of}
use Rattle.sets.specs.Leave.{SetLeft, set_left, closed, start_of, removed, without, used, first_of_area, left_by}
use Rattle.sets.specs.Leave.{leave_area}
use Rattle.sets.specs.SetParts.{Holding, Holds}
use Rattle.sets.specs.SetCallLaws.{left_set, LeaveKeeps, LeaveKeepsTheorem}
use Rattle.sets.proofs.PartLaws.{start_more, start_all, total_below}
use Rattle.sets.proofs.CellSetLaws.{members_many}
use Rattle.sets.proofs.RoomLaws.{lists_of, causes_held}
use Rattle.sets.proofs.LeaveLaws.{asked_of}
use Rattle.sets.proofs.MembersLeft.{removed_below, removed_above, removed_length, entries_left, words_removed}
use Rattle.sets.proofs.MembersLeft.{leave_done, there}
use Rattle.sets.proofs.SetKept.{Usable, usable, may_be_used}
use Rattle.std.specs.Prelude.{Ok, Err}
use Rattle.numbers.specs.Refusals.{Answer}

-- ---- limits

-- what a set that is over no limit has
record Within (ms : List Memory) : Type 0 where
  pub few : length ms ≤ 9
  pub together : nodes_together ms ≤ 65536
  pub none : any_over ms ≡ false

within : (ms : List Memory) → over_set ms ≡ false → Within ms
unfolding over_set
within ms e = go (ltb 9 (length ms)) (ltb 65536 (nodes_together ms)) refl refl e
  where
    go : (a b : Bool) → ltb 9 (length ms) ≡ a → ltb 65536 (nodes_together ms) ≡ b → a || (b || any_over ms) ≡ false
        → Within ms
    go true b p q t = true_false t
    go false true p q t = true_false t
    go false false p q t =
        record { few = ltb-false 9 (length ms) p; together = ltb-false 65536 (nodes_together ms) q; none = t }

not_over : (ms : List Memory) → Within ms → over_set ms ≡ false
unfolding over_set
not_over ms w = rw (le-ltb 9 (length ms) w.few, le-ltb 65536 (nodes_together ms) w.together) w.none

fewer_together : (ms : List Memory) (j : ℕ) → nodes_together (removed j ms) ≤ nodes_together ms
unfolding nodes_together removed
fewer_together [] j = omega arith
fewer_together (m ∷ ms) zero = omega arith
fewer_together (m ∷ ms) (suc j) = omega (arith, fewer_together ms j)

fewer_over : (ms : List Memory) (j : ℕ) → any_over ms ≡ false → any_over (removed j ms) ≡ false
unfolding any_over removed
fewer_over [] j e = refl
fewer_over (m ∷ ms) zero e = (or_parts (over_limit m.ynd) (any_over ms) e).1
fewer_over (m ∷ ms) (suc j) e =
    let p = or_parts (over_limit m.ynd) (any_over ms) e in
    or_from (over_limit m.ynd) (any_over (removed j ms)) p.0 (fewer_over ms j p.1)

-- ---- lists

total_removed : (cs : List ℕ) (j : ℕ) → total (removed j cs) ≤ total cs
unfolding total removed
total_removed [] j = omega arith
total_removed (c ∷ cs) zero = omega arith
total_removed (c ∷ cs) (suc j) = omega (arith, total_removed cs j)

closed_long : {A : Type 0} (a e t : ℕ) (l : List A) → a ≤ e → e ≤ t → t ≤ length l → length (closed a e t l) ≡ length l
unfolding closed
closed_long a e t l p q r =
    let s = take (t - e) (drop e l) in
    omega (
      arith,
      length-append (take a l) (s ++ drop (a + (t - e)) l),
      length-append s (drop (a + (t - e)) l),
      length-take-le a l (omega arith),
      length-take-le (t - e) (drop e l) (omega (arith, length-drop e l)),
      length-drop (a + (t - e)) l,
    )

module _ (ws : List (List ℕ)) (j : ℕ) (lt : j < length ws) where
  abbrev shut : {A : Type 0} → ℕ → List A → List A
  shut size l = closed (start_of size ws j) (start_of size ws (suc j)) (start_of size ws (length ws)) l

  less_held : {A : Type 0} (k size : ℕ) (l : List A) → Holding k size ws (length l)
      → Holding k size (removed j ws) (length (shut size l))
  less_held {A} k size l h =
      let same : length (shut size l) ≡ length l =
      closed_long (start_of size ws j) (start_of size ws (suc j)) (start_of size ws (length ws)) l
      (omega (arith, start_more size ws j lt))
      (omega (arith, start_all size ws, total_below (words_at size ws) (suc j)))
      (omega (arith, start_all size ws, h.fit)) in
      record {
        fit = rw (same, words_removed size ws j) (omega (arith, total_removed (words_at size ws) j, h.fit));
        held = λ i li. by_test (ltb i j)
            (λ t. rw (removed_below ws j i [] (ltb-true i j t)) (h.held i (omega (arith, removed_length ws j lt))))
            (λ f. rw (removed_above ws j i [] (ltb-false i j f))
            (h.held (suc i) (omega (arith, removed_length ws j lt))));
      }

-- ---- the call

module _ (y : CellSet) (area j : ℕ) (f : first_of_area y area ≡ some j) (e : (leave_area y area).answer ≡ (Ok tt))
  where
    abbrev after : Answer → SetLeft
    after a = unless a (λ cause. set_left (Err cause) (length y.members) y) (left_by (some j) y)

    accepted : lists_of y ≡ (Ok tt)
    accepted = go (lists_of y) (ap (λ (r : SetLeft). r.answer) (sym (asked_of y area j f)) ∙ e)
      where
        go : (a : Answer) → (after a).answer ≡ (Ok tt) → a ≡ (Ok tt)
        go (Ok tt) t = refl
        go (Err x) t = t

    leaves : leave_area y area ≡ set_left (Ok tt) (length y.members - 1) (without y j)
    leaves = asked_of y area j f ∙ ap after accepted

    u : Usable y
    u = usable y (causes_held y ∙ accepted)

    members : members_of (left_set y area) ≡ removed j (members_of y)
    members = leave_done y area j f e

    lt : j < length y.members
    lt = there y area j f

    abbrev es : List (List ℕ)
    es = y.members

    abbrev z : CellSet
    z = cell_set (removed j es) (shut es j lt 15 y.nodes) (shut es j lt 16 y.links) (shut es j lt 17 y.junctions)
        (shut es j lt 18 y.heights) (shut es j lt 19 y.refs)

    z_is : left_set y area ≡ z
    unfolding without
    z_is =
        ap (λ (r : SetLeft). used r.count r.lists) leaves
        ∙ ap (λ (l : List (List ℕ)). cell_set l z.nodes z.links z.junctions z.heights z.refs) (entries_left es j lt)

    z_held : Holds z
    z_held = record {
      nodes_hold = less_held es j lt 10 15 y.nodes u.whole.nodes_hold;
      links_hold = less_held es j lt 11 16 y.links u.whole.links_hold;
      junctions_hold = less_held es j lt 12 17 y.junctions u.whole.junctions_hold;
      heights_hold = less_held es j lt 13 18 y.heights u.whole.heights_hold;
      refs_hold = less_held es j lt 14 19 y.refs u.whole.refs_hold;
    }

    one_less : length (left_set y area).members + 1 ≡ length es
    one_less = ap (λ (q : CellSet). length q.members + 1) z_is ∙ removed_length es j lt

    limits : over_set (members_of (left_set y area)) ≡ false
    limits =
        let w = within (members_of y) u.within in
        ap over_set members
        ∙ not_over (removed j (members_of y)) (record {
          few = omega (
            arith,
            removed_length (members_of y) j
                (let q : j < length (members_of y) = omega (arith, lt, members_many y) in q),
            w.few,
          );
          together = omega (arith, fewer_together (members_of y) j, w.together);
          none = fewer_over (members_of y) j w.none;
        })

    keeps : LeaveKeeps y area j
    keeps = record {
      members_left = members;
      one_less = one_less;
      counted = ap (λ (r : SetLeft). r.count) leaves ∙ omega (arith, one_less);
      usable = may_be_used (left_set y area)
          (record { within = limits; whole = subst (λ (q : CellSet). Holds q) (sym z_is) z_held });
    }

pub leave_keeps : LeaveKeepsTheorem
leave_keeps = keeps
