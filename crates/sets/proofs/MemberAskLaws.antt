-- What a call on a member asks, where some lists aren't lent, and what it answers that changes nothing of the set.
use Prim.Native.Nat.{ℕ, ◌≤◌, ◌<◌}
use native.Mathlib.Omega.{arith}
use mathlib.Core.Path.{◌≡◌, refl, ap, sym, ◌∙◌}
use mathlib.Core.List.{List}
use lib.Dec.{leb}
use lib.ListN.{length, replicate, length-replicate}
use borrow.Author.Tests.{lt-ltb, le-ltb, le-leb}
use Rattle.std.specs.Prelude.{Option, Result, Ok, Err, Some, None}
use Rattle.std.specs.Option.{ok_or}
use Rattle.std.specs.Result.{IsErrAnd}
use Rattle.std.proofs.lemmas.Result.{err_from_is_err_and}
use Rattle.numbers.specs.Refusals.{Answer, decided}
use Rattle.numbers.specs.declared.refusal.Refusal.{Refusal}
use Rattle.numbers.specs.declared.refusal.Refusal.TheVariants.{NoSuchPlace}
use Rattle.cells.specs.Memory.{Memory}
use Rattle.cells.specs.declared.counts.Counts.{Counts}
use Rattle.cells.proofs.Sequences.Tests.{by_test}
use Rattle.sets.specs.MemberList.{over_set, unless}
use Rattle.sets.specs.CellSet.{CellSet, cell_set, words_at, total, holds_list, lack_of}
use Rattle.sets.specs.Join.{set_lengths}
use Rattle.cells.specs.Memory.{per_list}
use Rattle.sets.specs.Leave.{start_of}
use Rattle.sets.specs.Lent.{Lies, Unlent}
use Rattle.cells.specs.LookupCall.{Place}
use Rattle.sets.specs.MemberLookup.{ask_member, there}
use Rattle.sets.specs.MemberParts.{entry_ask, opened, held_by, part_memory}
use Rattle.sets.specs.SetParts.{starts_of, bare, list_causes}
use Rattle.sets.specs.SetStored.{member_in, ask_causes}
use Rattle.sets.specs.declared.member.MemberPart.{MemberPart}
use Rattle.sets.proofs.PartLaws.{start_all}
use Rattle.sets.proofs.RoomLaws.{few_members}
use Rattle.sets.proofs.MemberPartLaws.{OpenAt, ask_held, open_in, open_refused}
use Rattle.cells.specs.declared.node_entry.NodeEntry.{NodeEntry}
use Rattle.cells.specs.declared.link.PathLink.{PathLink}
use Rattle.cells.specs.declared.junction_entry.JunctionEntry.{JunctionEntry}
use Rattle.records.specs.declared.junction_ref.NodeJunctionRef.{NodeJunctionRef}
use Rattle.cells.specs.Nodes.{no_entry, no_link, no_map, no_ref}

-- ---- the lists that aren't lent

-- some that hold the parts are always there, so a contract that speaks of all such lists speaks of every call
pub some_unlent : (ws : List (List ℕ)) → Unlent ws
some_unlent ws =
    let many : ℕ → ℕ = λ k. total (words_at k ws) in
    record {
      nodes = replicate (many 15) no_entry;
      links = replicate (many 16) no_link;
      junctions = replicate (many 17) no_map;
      heights = replicate (total (words_at 18 ws)) 0;
      refs = replicate (many 19) no_ref;
      nodes_lie = omega (arith, length-replicate (many 15) no_entry);
      links_lie = omega (arith, length-replicate (many 16) no_link);
      junctions_lie = omega (arith, length-replicate (many 17) no_map);
      heights_lie = omega (arith, length-replicate {A = ℕ} (total (words_at 18 ws)) 0);
      refs_lie = omega (arith, length-replicate (many 19) no_ref);
    }

-- what they count as

pub held_many : (ws : List (List ℕ)) → 9 < length ws → per_list 0 0 0 0 0 ≡ held_by ws
unfolding held_by
held_many ws h = rw (lt-ltb 9 (length ws) h)

pub held_few : (ws : List (List ℕ)) (t : Counts) → length ws ≤ 9 → t ≡ starts_of ws (length ws) → t ≡ held_by ws
unfolding held_by
held_few ws t h e = rw (le-ltb 9 (length ws) h) e

held_is : (ws : List (List ℕ)) (t : Counts) → t ≡ held_by ws → length ws ≤ 9 → t ≡ starts_of ws (length ws)
unfolding held_by
held_is ws t e few = rw (le-ltb 9 (length ws) few) at e

-- a list is asked as one of `len` entries: all its own where it is lent, else those that the members' parts hold
pub record Counted {A : Type 0} (k : ℕ) (ws : List (List ℕ)) (held len : ℕ) (l : List A) : Type 0 where
  pub alike : held ≡ start_of k ws (length ws) → leb (total (words_at k ws)) len
      ≡ leb (total (words_at k ws)) (length l)

pub lent : {A : Type 0} {k : ℕ} {ws : List (List ℕ)} {held : ℕ} (l : List A) → Counted k ws held (length l) l
lent l = record { alike = λ _. refl }

pub apart : {A : Type 0} {k : ℕ} {ws : List (List ℕ)} {held : ℕ} (l : List A) → Lies k ws l → Counted k ws held held l
apart {A} {k} {ws} {held} l h = record {
  alike = λ e.
      le-leb (total (words_at k ws)) held (let z : total (words_at k ws) ≤ held = omega (arith, start_all k ws) in z)
      ∙ sym (le-leb (total (words_at k ws)) (length l) h);
}

-- the set is asked what a call asks by these lengths
pub record Asks (lens : Counts) (y : CellSet) : Type 0 where
  pub same : (j : ℕ) → decided (entry_ask y.members lens j) ≡ decided (ask_causes y j)

pub asks : {ws : List (List ℕ)} {N : List NodeEntry} {L : List PathLink} {J : List JunctionEntry}
    {R : List NodeJunctionRef} {H : List ℕ} {t : Counts} {n l i h r : ℕ} → t ≡ held_by ws
    → Counted 15 ws t.nodes n N → Counted 16 ws t.links l L → Counted 17 ws t.junctions i J
    → Counted 18 ws t.heights h H → Counted 19 ws t.refs r R → Asks (per_list n l i h r) (cell_set ws N L J H R)
unfolding entry_ask list_causes lack_of holds_list
asks {ws} {N} {L} {J} {R} {H} {t} e cn cl ci ch cr = record {
  same = λ j.
      by_test (leb (length ws) j) (λ t. rw t) (λ f.
      by_test (over_set (bare ws)) (λ t. rw (f, t)) (λ o.
      let s = held_is ws t e (few_members ws o) in
      rw (
        f,
        o,
        cn.alike (ap (λ (c : Counts). c.nodes) s),
        cl.alike (ap (λ (c : Counts). c.links) s),
        ci.alike (ap (λ (c : Counts). c.junctions) s),
        ch.alike (ap (λ (c : Counts). c.heights) s),
        cr.alike (ap (λ (c : Counts). c.refs) s),
      )))
      ∙ ask_held (cell_set ws N L J H R) j;
}

-- all five lent
pub all_lent : {lens : Counts} {y : CellSet} → lens ≡ set_lengths y → Asks lens y
all_lent {lens} {y} e = record {
  same = λ j. ap (λ (l : Counts). decided (entry_ask y.members l j)) e ∙ ask_held y j;
}

-- ---- the member opened, or not

module _ {lens : Counts} {y : CellSet} (j : ℕ) {o : Result MemberPart Refusal} (f : Asks lens y)
    (eo : o ≡ opened y.members lens j) where
  pub opens : {p : MemberPart} → o ≡ Ok p → OpenAt y j p
  opens {p} e = open_in y j p lens (f.same j) (sym e ∙ eo)

  pub shuts : {x : Refusal} → o ≡ Err x → decided (ask_causes y j) ≡ Err x
  shuts {x} e = sym (f.same j) ∙ open_refused y.members lens j x (sym e ∙ eo)

  -- what the `?` at the opening gives
  pub not_called : {A B : Type 0} {x : Refusal} {r : Result A Refusal} (told : Result A Refusal → B) (v : B)
      → o ≡ Err x → IsErrAnd r (λ z. z ≡ x) → told r ≡ unless (decided (ask_causes y j)) (λ z. told (Err z)) v
  not_called {A} {B} {x} {r} told v is e =
      let k = err_from_is_err_and r e in
      ap told (k.1 ∙ ap Err k.2) ∙ ap (λ (a : Answer). unless a (λ z. told (Err z)) v) (sym (shuts is))

  pub not_told : {A B : Type 0} {x : Refusal} {r : Result A Refusal} (told : Result A Refusal → B) (call : Memory → B)
      → o ≡ Err x → IsErrAnd r (λ z. z ≡ x) → told r ≡ ask_member y j (λ z. told (Err z)) call
  unfolding ask_member
  not_told told call = not_called told (call (member_in y j))

  pub not_asked : {A : Type 0} {x : Refusal} {r : Result A Refusal} (call : Memory → Result A Refusal)
      → o ≡ Err x → IsErrAnd r (λ z. z ≡ x) → r ≡ ask_member y j Err call
  not_asked {A} call = not_told (λ (z : Result A Refusal). z) call

  -- where a start is looked up
  pub not_there : {x : Refusal} {r : Result ℕ Refusal} (call : Memory → Place) → o ≡ Err x
      → IsErrAnd r (λ z. z ≡ x) → r ≡ there (ask_member y j Err call)
  unfolding ask_member
  not_there call is e =
      let k = err_from_is_err_and _ e in
      k.1 ∙ ap Err k.2 ∙ ap (λ (a : Answer). there (unless a Err (call (member_in y j)))) (sym (shuts is))

module _ {A : Type 0} {y : CellSet} {j : ℕ} {p : MemberPart} (refused : Refusal → A) (call : Memory → A) {r : A}
    (k : OpenAt y j p) (e : r ≡ call (part_memory p.ynd p.a p.e y)) where
  pub called : r ≡ unless (decided (ask_causes y j)) refused (call (member_in y j))
  called = e ∙ ap call k.part ∙ ap (λ (a : Answer). unless a refused (call (member_in y j))) (sym k.asked)

  pub answered : r ≡ ask_member y j refused call
  unfolding ask_member
  answered = called

pub found_not : {o n : Place} {x : Refusal} {r : Result ℕ Refusal} → o ≡ n → o ≡ Err x → IsErrAnd r (λ z. z ≡ x)
    → r ≡ there n
found_not e is er =
    let k = err_from_is_err_and _ er in
    k.1 ∙ ap Err k.2 ∙ ap there (sym is ∙ e)

pub found_there : {o n : Place} {q : Option ℕ} {r : Result ℕ Refusal} → o ≡ n → o ≡ Ok q → r ≡ ok_or q NoSuchPlace
    → r ≡ there n
found_there {q = q} e is er = er ∙ go q ∙ ap there (sym is ∙ e)
  where
    go : (q : Option ℕ) → ok_or q NoSuchPlace ≡ there (Ok q)
    go (Some p) = refl
    go None = refl

-- for the check
pub ruleset held_laws = (held_many, held_few)
