-- The call of a crossing walk, after a list of calls and before it: refused alike, ending alike.
use Prim.Native.Nat.{ℕ, suc, ◌+◌, ◌<◌}
use native.Mathlib.Omega.{arith}
use mathlib.Core.Path.{◌≡◌, refl, ap, sym, ◌∙◌}
use mathlib.Core.Bool.{Bool, false, ◌||◌}
use mathlib.Core.List.{List, [], ◌∷◌, ◌++◌}
use lib.Dec.{eqb, ltb}
use lib.ListN.{length, set, drop, length-map, length-set}
use lib.Seq.{get_or-set_same, get_or-set_other}
use borrow.Author.Tests.{eqb-true, eqb-false, lt-leb, le-leb}
use Rattle.numbers.specs.Refusals.{Cause, when, decided}
use Rattle.cells.specs.Memory.{Memory}
use Rattle.cells.specs.CellOf.{cell_of}
use Rattle.cells.specs.Renumber.{renumber}
use Rattle.cells.specs.WriteRead.{write_read_of}
use Rattle.cells.proofs.Sequences.Tests.{by_test}
use Rattle.walks.specs.Calls.{Call, renumbering, write_read, after, run}
use Rattle.walks.specs.Claim.{places, SameWalk}
use Rattle.walks.specs.declared.walk.End.{End}
use Rattle.walks.specs.declared.walk.Walked.{Walked}
use Rattle.walks.proofs.WalksAlike.{Lies, nodes_long, run_lies}
use Rattle.sets.specs.Members.{map_from}
use Rattle.sets.specs.Crossing.{Location, crossing}
use Rattle.sets.specs.MemberList.{no_memory, member_at, cells_of, node_count, nodes_together, any_over, over_set}
use Rattle.sets.specs.MemberList.{member_causes, unless}
use Rattle.sets.specs.SetRenumber.{Change, change_of, correct_link, correct_memory, members_after, renumbered_in}
use Rattle.sets.specs.SetRenumber.{not_renumbered, renumber_in, both_in, not_written, write_read_in}
use Rattle.sets.specs.SetCalls.{SetCall, after_in, run_in}
use Rattle.sets.specs.CrossingCall.{visit_words, nodes_held, links_held, crossing_left, crossing_causes, crossing_call}
use Rattle.sets.specs.SetClaim.{Stands}
use Rattle.sets.proofs.SetLists.{every_all, over_long, length_from, from_map}
use Rattle.sets.proofs.SetMemory.{member_there, cell_at_law}
use Rattle.std.specs.Prelude.{Result, Ok, Err}
use Rattle.numbers.specs.Refusals.{Answer}
use Rattle.numbers.specs.declared.refusal.Refusal.{Refusal}
use Rattle.numbers.specs.declared.refusal.Refusal.TheVariants.{TooShort, AtLimit}
use Rattle.numbers.specs.declared.refusal.Lent.TheVariants as lent

-- ---- the call

-- every member's lists hold it, within its limits
abbrev pub Held : List Memory → Type 0
Held ms = (i : ℕ) → i < length ms → Lies (member_at ms i)

-- what is left of the causes: the set's limits, and the visited list
abbrev left_causes : Bool → ℕ → ℕ → List Cause
left_causes over count room = when over AtLimit ∷ when (ltb room count) (TooShort lent.List) ∷ []

held_causes : (ms : List Memory) → Held ms → (s : Location) (count room : ℕ) → Stands (cells_of ms) s
    → decided (crossing_causes ms s count room) ≡ decided (left_causes (over_set ms) count room)
unfolding crossing_causes
held_causes ms h s count room st =
    let lm : s.member < length ms = rw length-map at st.in_set in
    let lp : s.place < length (cell_of (member_at ms s.member)).nodes = rw (cell_at_law ms s.member) at st.in_cell in
    let ln : s.place < node_count (member_at ms s.member) = omega
    (arith, nodes_long (member_at ms s.member) (h s.member lm)) in
    rw (
      lt-leb (length ms) s.member lm,
      lt-leb (node_count (member_at ms s.member)) s.place ln,
      every_all nodes_held ms no_memory (λ i li. le-leb _ _ (h i li).nodes_lie),
      every_all links_held ms no_memory (λ i li. le-leb _ _ (h i li).links_lie),
    ) refl

-- the answer, by the causes, the end and the count
abbrev answer_by : Answer → End → ℕ → Result Walked Refusal
answer_by a e count = unless a Err (Ok (record { end = e; count = count }))

left_answer : (a : Answer) (e : End) (count : ℕ) (old new : List (List ℕ))
    → (unless a (λ cause. crossing_left (Err cause) old)
    (crossing_left (Ok (record { end = e; count = count })) new)).answer ≡ answer_by a e count
left_answer (Ok tt) e count old new = refl
left_answer (Err x) e count old new = refl

call_answer : (ms : List Memory) → Held ms → (choices : List ℕ) (s : Location) (visited : List (List ℕ))
    → Stands (cells_of ms) s
    → (crossing_call ms choices s visited).answer
    ≡ answer_by (decided (left_causes (over_set ms) (length (places (crossing (cells_of ms) choices s)))
    (length visited))) (crossing (cells_of ms) choices s).ending
    (length (places (crossing (cells_of ms) choices s)))
unfolding crossing_call
call_answer ms h choices s visited st =
    let t = crossing (cells_of ms) choices s in
    let n = length (places t) in
    left_answer (decided (crossing_causes ms s n (length visited))) t.ending n visited
    (visit_words t ++ drop n visited)
    ∙ ap (λ (a : Answer). answer_by a t.ending n) (held_causes ms h s n (length visited) st)

-- ---- the set's limits

none_over : (ms : List Memory) → Held ms → any_over ms ≡ false
unfolding any_over
none_over [] h = refl
none_over (m ∷ ms) h = rw (h 0 (omega arith)).within (none_over ms (λ i li. h (suc i) (omega arith)))

same_together : (ms ds : List Memory) → length ds ≡ length ms
    → ((i : ℕ) → i < length ms → node_count (member_at ds i) ≡ node_count (member_at ms i)) → nodes_together ds
    ≡ nodes_together ms
unfolding nodes_together
same_together [] [] e h = refl
same_together [] (d ∷ ds) e h = absurd (omega arith)
same_together (m ∷ ms) [] e h = absurd (omega arith)
same_together (m ∷ ms) (d ∷ ds) e h = λ k. h 0 (omega arith) k
    + same_together ms ds (omega arith) (λ i li. h (suc i) (omega arith)) k

pub same_over : (ms ds : List Memory) → Held ms → Held ds → length ds ≡ length ms
    → ((i : ℕ) → i < length ms → node_count (member_at ds i) ≡ node_count (member_at ms i)) → over_set ds ≡ over_set ms
unfolding over_set
same_over ms ds hm hd e n = λ k. ltb 9 (e k)
    || (ltb 65536 (same_together ms ds e n k) || (none_over ds hd ∙ sym (none_over ms hm)) k)

pub answers_alike : (ms ds : List Memory) (f : Location → Location) → Held ms → Held ds → over_set ds ≡ over_set ms
    → (choices : List ℕ) (s : Location) → Stands (cells_of ms) s → Stands (cells_of ds) (f s)
    → SameWalk f (crossing (cells_of ms) choices s) (crossing (cells_of ds) choices (f s))
    → (visited later : List (List ℕ)) → length later ≡ length visited
    → (crossing_call ds choices (f s) later).answer ≡ (crossing_call ms choices s visited).answer
answers_alike ms ds f hm hd o choices s st sd w visited later e =
    let t = crossing (cells_of ms) choices s in
    let n : length (places (crossing (cells_of ds) choices (f s))) ≡ length (places t) = ap length w.same_places
    ∙ length-map (places t) f in
    call_answer ds hd choices (f s) later sd
    ∙ (λ i. answer_by (decided (left_causes (o i) (n i) (e i))) (w.same_end i) (n i))
    ∙ sym (call_answer ms hm choices s visited st)

-- ---- the lists hold the members all along

-- one call of a cell
after_lies : (m : Memory) (k : Call) → Lies m → Lies (after m k)
unfolding run
after_lies m k h = run_lies m (k ∷ []) h

written_lies : (m : Memory) (b : List ℕ) → Lies m → Lies (write_read_of m b).memory
unfolding after
written_lies m b h = after_lies m (write_read b) h

renumbered_lies : (m : Memory) (s ps : List ℕ) → Lies m → Lies (renumber m (length s) ps).memory
unfolding after
renumbered_lies m s ps h = after_lies m (renumbering s ps) h

correct_lies : (x : Change) (i : ℕ) (m : Memory) → Lies m → Lies (correct_memory x i m)
unfolding correct_memory
correct_lies x i m h = record {
  within = h.within;
  nodes_lie = h.nodes_lie;
  links_lie = omega
      (arith, over_long (correct_link x i) m.ynd.link_count m.links, h.links_lie);
}

set_held : (ms : List Memory) (j : ℕ) (m : Memory) → j < length ms → Lies m → Held ms → Held (set ms j m)
set_held ms j m lj l h i li = by_test (eqb i j)
    (λ t. let e : i ≡ j = eqb-true i j t in rw (e, get_or-set_same ms j m no_memory lj) l)
    (λ f. rw (get_or-set_other ms j i m no_memory (eqb-false i j f)) (h i (rw (← length-set ms j m) li)))

corrected_held : (x : Change) (ms : List Memory) → Held ms → Held (map_from (correct_memory x) 0 ms)
corrected_held x ms h i li =
    let l : i < length ms = rw (← length_from (correct_memory x) 0 ms) li in
    rw (from_map (correct_memory x) 0 ms i no_memory no_memory l) (correct_lies x (0 + i) (member_at ms i) (h i l))

after_held : (ms : List Memory) (k : SetCall) → Held ms → Held (after_in ms k)
unfolding after_in renumber_in write_read_in
after_held ms k h = go k.call
  where
    j : ℕ
    j = k.member

    go : (c : Call) → Held (after_in ms (record { member = j; call = c }))
    go (write_read b) = asked (decided (member_causes ms j)) refl
      where
        asked : (a : Answer) → decided (member_causes ms j) ≡ a
            → Held (unless a (not_written ms b) (both_in ms j (write_read_of (member_at ms j) b))).members
        asked (Ok tt) e = let lj = member_there ms j e in set_held ms j (write_read_of (member_at ms j) b).memory lj
            (written_lies (member_at ms j) b (h j lj)) h
        asked (Err x) e = h
    go (renumbering s ps) = asked (decided (member_causes ms j)) refl
      where
        called : j < length ms → (a : Answer)
            → Held (members_after a ms j (renumber (member_at ms j) (length s) ps).memory)
        called lj (Ok tt) =
            set_held (map_from (correct_memory (change_of (cells_of ms) j)) 0 ms) j
            (renumber (member_at ms j) (length s) ps).memory
            (rw (length_from (correct_memory (change_of (cells_of ms) j)) 0 ms) lj)
            (renumbered_lies (member_at ms j) s ps (h j lj)) (corrected_held (change_of (cells_of ms) j) ms h)
        called lj (Err x) = h

        asked : (a : Answer) → decided (member_causes ms j) ≡ a
            → Held (unless a (not_renumbered ms ps)
            (renumbered_in ms j (renumber (member_at ms j) (length s) ps))).members
        asked (Ok tt) e = called (member_there ms j e) (renumber (member_at ms j) (length s) ps).answer
        asked (Err x) e = h

pub run_held : (ms : List Memory) (ks : List SetCall) → Held ms → Held (run_in ms ks)
unfolding run_in
run_held ms [] h = h
run_held ms (k ∷ ks) h = run_held (after_in ms k) ks (after_held ms k h)
