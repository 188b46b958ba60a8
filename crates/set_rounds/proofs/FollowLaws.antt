-- T-11 in a set: in which member a round starts, and when it is 19.
-- Assumes nothing.
use Rattle.std.proofs.Common.{◌≡◌, ℕ, List, [], ◌∷◌, refl, sym, ap, ◌∙◌, eqb, length}
use Rattle.std.proofs.Math.Option.{Option as Found, none, some}
use Rattle.std.specs.Prelude.{Bool, true, false, not, ◌&&◌, cond, Option, Some, None, Result, Ok, Err}
use Rattle.numbers.specs.declared.refusal.Refusal.{Refusal}
use Rattle.numbers.specs.declared.refusal.Refusal.TheVariants.{OtherArea}
use Rattle.numbers.specs.Refusals.{number_of, Answer, Cause, decided}
use Rattle.numbers.specs.Refusals.{unless as otherwise}
use Rattle.cells.specs.LookupCall.{place_of, node_call, find_in}
use Rattle.cells.proofs.Sequences.Tests.{true_false}
use Rattle.cells.specs.Memory.{Memory, nodes_causes}
use Rattle.walks.specs.Walk.{Trail}
use Rattle.walks.specs.Claim.{places}
use Rattle.rounds.specs.declared.file.Version.{Version}
use Rattle.rounds.specs.declared.file.Version.TheVariants.{One, Two}
use Rattle.walks.specs.declared.walk.Walked.{Walked}
use Rattle.sets.specs.CellSet.{CellSet, members_of, set_causes, lack_of}
use Rattle.sets.specs.Crossing.{Location, location, crossing}
use Rattle.sets.specs.CrossingCall.{crossing_left, crossed_by}
use Rattle.sets.specs.CrossMember.{cross_causes, cross_member}
use Rattle.sets.specs.Leave.{first_of_area}
use Rattle.sets.specs.MemberList.{cells_of, unless}
use Rattle.sets.specs.MemberLookup.{ask_member, there, start_in_member}
use Rattle.sets.specs.SetStored.{member_in, ask_causes}
use Rattle.std.specs.Option.{ok_or}
use Rattle.set_rounds.specs.FollowInSet.{round_member, from_member, follow_in_set}

module _ (y : CellSet) (area member start : ℕ) (choices : List ℕ) (visited : List (List ℕ)) where
  -- 19, and nothing visited, where no member has the round's area
  pub nineteen : first_of_area y area ≡ none
      → follow_in_set y (Two area) member start choices visited ≡ crossing_left (Err OtherArea) visited
  unfolding follow_in_set
  nineteen e = rw (e)

  -- else a version 2 round is the version 1 round of the member of its area, whatever member the caller names
  pub in_its_member : (j : ℕ) → first_of_area y area ≡ some j
      → follow_in_set y (Two area) member start choices visited ≡ follow_in_set y One j start choices visited
  unfolding follow_in_set
  in_its_member j e = rw (e)

-- ---- nothing else is 19

-- an answer that is a refusal of this number
abbrev is_number : {A : Type 0} → ℕ → Result A Refusal → Bool
is_number n (Ok x) = false
is_number n (Err r) = eqb (number_of r) n

-- none of these causes is 19
without_19 : List Cause → Bool
without_19 [] = true
without_19 (c ∷ cs) = not (eqb (number_of c.refusal) 19) && without_19 cs

decided_no_19 : (cs : List Cause) → without_19 cs ≡ true → is_number 19 (decided cs) ≡ false
unfolding without_19
decided_no_19 [] e = refl
decided_no_19 (c ∷ cs) e = go c.fits (eqb (number_of c.refusal) 19) refl e (decided_no_19 cs)
  where
    go : (b d : Bool) → eqb (number_of c.refusal) 19 ≡ d → not d && without_19 cs ≡ true
        → (without_19 cs ≡ true → is_number 19 (decided cs) ≡ false)
        → is_number 19 (cond b (Err c.refusal) (decided cs)) ≡ false
    go true false f e later = f
    go true true f e later = true_false (sym e)
    go false false f e later = later e
    go false true f e later = true_false (sym e)

asked_no_19 : (y : CellSet) (j : ℕ) → is_number 19 (decided (ask_causes y j)) ≡ false
unfolding without_19 ask_causes set_causes lack_of
asked_no_19 y j = decided_no_19 (ask_causes y j) refl

found_no_19 : (m : Memory) (k : ℕ) → is_number 19 (there (node_call m.ynd m.nodes k)) ≡ false
unfolding without_19 node_call nodes_causes
found_no_19 m k = go (decided (nodes_causes m.ynd (length m.nodes)))
    (decided_no_19 (nodes_causes m.ynd (length m.nodes)) refl) (find_in m.ynd.node_count m.nodes k)
  where
    go : (a : Answer) → is_number 19 a ≡ false → (o : Option ℕ) → is_number 19 (there (otherwise a (Ok o))) ≡ false
    go (Ok x) e (Some p) = refl
    go (Ok x) e None = refl
    go (Err r) e o = e

start_no_19 : (y : CellSet) (j k : ℕ) → is_number 19 (start_in_member y j k) ≡ false
unfolding ask_member
start_no_19 y j k = go (decided (ask_causes y j)) (asked_no_19 y j)
  where
    go : (a : Answer) → is_number 19 a ≡ false
        → is_number 19 (there (unless a Err (node_call (member_in y j).ynd (member_in y j).nodes k))) ≡ false
    go (Ok x) e = found_no_19 (member_in y j) k
    go (Err r) e = e

walked_no_19 : (y : CellSet) (choices : List ℕ) (s : Location) (visited : List (List ℕ))
    → is_number 19 (cross_member y choices s visited).answer ≡ false
unfolding cross_member cross_causes without_19
walked_no_19 y choices s visited =
    let t = crossing (cells_of (members_of y)) choices s in
    let causes = cross_causes y s (length (places t)) (length visited) in
    go (decided causes) t (decided_no_19 causes refl)
  where
    go : (a : Answer) (t : Trail Location) → is_number 19 a ≡ false → is_number 19 (crossed_by a t visited).answer
        ≡ false
    go (Ok x) t e = refl
    go (Err r) t e = e

-- what 19 says: the round is of version 2, and no member has its area
pub record NoMember (y : CellSet) (v : Version) : Type 0 where
  pub area : ℕ
  pub is_two : v ≡ Two area
  pub has_none : first_of_area y area ≡ none

-- 19 only where no member has the round's area
pub nineteen_only : (y : CellSet) (v : Version) (member start : ℕ) (choices : List ℕ) (visited : List (List ℕ))
    → (follow_in_set y v member start choices visited).answer ≡ Err OtherArea → NoMember y v
unfolding follow_in_set
nineteen_only y v member start choices visited e = by_version v e
  where
    not_19 : {A : Type 0} (r : Result A Refusal) → is_number 19 r ≡ false → r ≡ Err OtherArea → ⊥
    not_19 r f e = true_false (sym (ap (is_number 19) e) ∙ f)

    in_member : (j : ℕ) → (from_member (start_in_member y j start)
        (λ p. cross_member y choices (location j p) visited) visited).answer
        ≡ Err OtherArea → ⊥
    in_member j = go (start_in_member y j start) (start_no_19 y j start)
      where
        go : (r : Result ℕ Refusal) → is_number 19 r ≡ false
            → (from_member r (λ p. cross_member y choices (location j p) visited) visited).answer ≡ Err OtherArea → ⊥
        go (Ok p) f e = not_19 _ (walked_no_19 y choices (location j p) visited) e
        go (Err x) f e = not_19 {A = Walked} (Err x) f e

    by_area : (area : ℕ) (o : Found ℕ) → first_of_area y area ≡ o
        → (from_member (ok_or (place_of o) OtherArea)
        (λ j. from_member (start_in_member y j start) (λ p. cross_member y choices (location j p) visited) visited)
        visited).answer ≡ Err OtherArea → NoMember y (Two area)
    by_area area (some j) h e = absurd (in_member j e)
    by_area area none h e = record { area = area; is_two = refl; has_none = h }

    by_version : (v : Version) → (from_member (round_member y v member)
        (λ j. from_member (start_in_member y j start) (λ p. cross_member y choices (location j p) visited) visited)
        visited).answer ≡ Err OtherArea → NoMember y v
    by_version One e = absurd (in_member member e)
    by_version (Two area) e = by_area area (first_of_area y area) refl e
