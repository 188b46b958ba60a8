-- T-11, T-09: in a sound set a round from a node's number is the crossing walk from where the node stands; after
-- any list
-- of renumberings and write-then-reads on the members, the round from the number that the node has now answers what
-- the
-- round from its first number answered, and shows the same, each location moved.
-- A file names a number: one that was written before a renumbering starts at whichever node then has its number.
-- Assumes nothing.
use Rattle.std.proofs.Common.{◌≡◌, ℕ, List, sym, ap, ◌∙◌, arith, length, ◌<◌}
use Rattle.std.proofs.Math.Option.{Option, some}
use Rattle.std.specs.Prelude.{true, Result, Ok, Err}
use lib.ListN.{length-map, get_or-map}
use Rattle.std.proofs.lemmas.Bool.{lt-leb}
use Rattle.numbers.specs.declared.refusal.Refusal.{Refusal}
use Rattle.numbers.specs.Refusals.{Answer, decided}
use Rattle.cells.specs.Memory.{Memory}
use Rattle.cells.specs.Cell.{Cell, Node, node_at, numbers, no_node}
use Rattle.cells.specs.CellOf.{nodes_of, cell_of}
use Rattle.cells.specs.Lookup.{first_with}
use Rattle.cells.specs.LookupCall.{place_of, node_call}
use Rattle.cells.proofs.Lookups.LookupLaws.{node_held}
use Rattle.cells.proofs.Sequences.Tests.{and_left, every_at}
use Rattle.walks.specs.Claim.{SameWalk}
use Rattle.walks.specs.Sound.{sound, differing}
use Rattle.walks.proofs.Numbers.{Has, find_is}
use Rattle.walks.proofs.NewSound.{sound_parts}
use Rattle.rounds.specs.declared.file.Version.TheVariants.{One, Two}
use Rattle.sets.specs.CellSet.{CellSet, members_of, set_causes}
use Rattle.sets.specs.Crossing.{Location, location, crossing}
use Rattle.sets.specs.CrossingCall.{CrossingLeft}
use Rattle.sets.specs.CrossMember.{cross_member}
use Rattle.sets.specs.Leave.{first_of_area}
use Rattle.sets.specs.Members.{no_cell, cell_at}
use Rattle.sets.specs.MemberList.{unless}
use Rattle.sets.specs.MemberLookup.{ask_member, there, start_in_member}
use Rattle.sets.specs.SetCalls.{SetCall}
use Rattle.sets.specs.SetCallsClaim.{CallsUnnoticed}
use Rattle.sets.specs.CellSet.{cells_in}
use Rattle.sets.specs.SetClaim.{Stands, CellAsRead}
use Rattle.sets.specs.SetRun.{run_set, moved_on}
use Rattle.sets.specs.SetSound.{set_sound}
use Rattle.sets.specs.SetStored.{member_in, ask_causes}
use Rattle.sets.proofs.CellSetLaws.{members_many}
use Rattle.sets.proofs.SetCallsUnnoticed.{calls_unnoticed}
use Rattle.sets.proofs.SetKept.{usable, member_ready}
use Rattle.sets.proofs.SetMemory.{cell_at_law}
use Rattle.set_rounds.specs.FollowInSet.{from_member, follow_in_set}
use Rattle.set_rounds.proofs.FollowLaws.{in_its_member}

-- the number of the node at a location
abbrev pub number_in : CellSet → Location → ℕ
number_in y s = (node_at (cell_at (cells_in y) s.member).nodes s.place).number

module _ (y : CellSet) (fine : decided (set_causes y) ≡ Ok tt) (s : set_sound (cells_in y) ≡ true) (q : Location)
    (st : Stands (cells_in y) q) where
  abbrev j : ℕ
  j = q.member

  abbrev m : Memory
  m = member_in y j

  inside : j < length y.members
  inside = omega (arith, st.in_set, length-map (members_of y) cell_of, members_many y)

  asked : decided (ask_causes y j) ≡ Ok tt
  unfolding ask_causes
  asked = rw (lt-leb (length y.members) j inside) fine

  own_cell : cell_at (cells_in y) j ≡ cell_of m
  own_cell = cell_at_law (members_of y) j

  sound_member : sound (cell_of m) ≡ true
  unfolding set_sound
  sound_member = sym (ap sound own_cell) ∙ every_at sound (cells_in y) j no_cell (and_left _ _ s) st.in_set

  found : node_call m.ynd m.nodes (number_in y q) ≡ Ok (place_of (some q.place))
  unfolding cell_of no_node
  found =
      let ns = nodes_of m in
      let lt : q.place < length ns = rw (ap (λ (c : Cell). length c.nodes) own_cell) at st.in_cell in
      let here : number_in y q ≡ (node_at ns q.place).number
      = ap (λ (c : Cell). (node_at c.nodes q.place).number) own_cell in
      let has : Has (numbers ns) (number_in y q) q.place = record {
        inside = omega (arith, length-map ns (λ n. n.number));
        number = get_or-map (λ (n : Node). n.number) ns q.place no_node ∙ sym here;
      } in
      let differ : differing (numbers ns) ≡ true = (sound_parts (cell_of m) (omega arith) sound_member).differ in
      let r = member_ready y (usable y fine) j inside in
      node_held m (number_in y q) r.within r.whole.nodes_fit
      ∙ ap (λ (o : Option ℕ). Ok (place_of o)) (find_is (numbers ns) (number_in y q) q.place differ has)

  start_found : start_in_member y j (number_in y q) ≡ Ok q.place
  unfolding ask_member
  start_found =
      ap (λ (a : Answer). there (unless a Err (node_call m.ynd m.nodes (number_in y q)))) asked ∙ ap there found

  -- a round of version 1 from a node's number is the crossing walk from its location
  pub own_walk : (choices : List ℕ) (visited : List (List ℕ))
      → follow_in_set y One j (number_in y q) choices visited ≡ cross_member y choices q visited
  unfolding follow_in_set
  own_walk choices visited =
      ap (λ (r : Result ℕ Refusal). from_member r (λ p. cross_member y choices (location j p) visited) visited)
      start_found

  -- and so is one of version 2, of the area by which the set finds the member
  pub own_area_walk : (area member : ℕ) (choices : List ℕ) (visited : List (List ℕ)) → first_of_area y area ≡ some j
      → follow_in_set y (Two area) member (number_in y q) choices visited ≡ cross_member y choices q visited
  own_area_walk area member choices visited e =
      in_its_member y area member (number_in y q) choices visited j e ∙ own_walk choices visited

-- What is said of a round over these choices from the node first at q, after the calls.
pub record FollowedInSet (y : CellSet) (calls : List SetCall) (choices : List ℕ) (q : Location) : Type 0 where
  -- of version 1: the round from the node's present number is the crossing walk from where the node stands
  pub one_walk : (visited : List (List ℕ)) → follow_in_set (run_set y calls) One q.member
      (number_in (run_set y calls) (moved_on y calls q)) choices visited
      ≡ cross_member (run_set y calls) choices (moved_on y calls q) visited
  -- of version 2 too: the area still finds the member
  pub two_walk : (area member : ℕ) (visited : List (List ℕ)) → first_of_area y area ≡ some q.member
      → follow_in_set (run_set y calls) (Two area) member
      (number_in (run_set y calls) (moved_on y calls q)) choices visited
      ≡ cross_member (run_set y calls) choices (moved_on y calls q) visited
  -- with visited lists of equal length it answers what the round from the node's first number answered
  pub same_answer : (visited later : List (List ℕ)) → length later ≡ length visited
      → (follow_in_set (run_set y calls) One q.member (number_in (run_set y calls) (moved_on y calls q)) choices
      later).answer
      ≡ (follow_in_set y One q.member (number_in y q) choices visited).answer
  -- and what the two walks show is the same
  pub same_shown : SameWalk (moved_on y calls) (crossing (cells_in y) choices q)
      (crossing (cells_in (run_set y calls)) choices (moved_on y calls q))

-- for every sound set whose members are cells as read, that may be used, every list of calls, every list of choices
-- and
-- every node
pub set_rounds_unnoticed : (y : CellSet) → decided (set_causes y) ≡ Ok tt
    → ((i : ℕ) → i < length y.members → CellAsRead (member_in y i)) → set_sound (cells_in y) ≡ true
    → (calls : List SetCall) (choices : List ℕ) (q : Location) → Stands (cells_in y) q
    → FollowedInSet y calls choices q
unfolding first_of_area
set_rounds_unnoticed y fine read s calls choices q st = record {
  one_walk = one;
  two_walk = λ area member visited e.
      own_area_walk z fine_now c.still_sound (moved_on y calls q) there_now area member choices visited
      (ap (λ (l : List ℕ). first_with l area) c.same_areas ∙ e ∙ ap some (sym (c.same_member q)));
  same_answer = λ visited later e.
      ap (λ (l : CrossingLeft). l.answer) (one later)
      ∙ c.same_answers choices q st visited later e
      ∙ ap (λ (l : CrossingLeft). l.answer) (sym (own_walk y fine s q st choices visited));
  same_shown = c.same_walks choices q st;
}
  where
    c : CallsUnnoticed y calls
    c = calls_unnoticed y read s calls

    z : CellSet
    z = run_set y calls

    fine_now : decided (set_causes z) ≡ Ok tt
    fine_now = c.same_causes ∙ fine

    there_now : Stands (cells_in z) (moved_on y calls q)
    there_now = c.still_there q st

    one : (visited : List (List ℕ)) → follow_in_set z One q.member (number_in z (moved_on y calls q)) choices visited
        ≡ cross_member z choices (moved_on y calls q) visited
    one visited =
        ap (λ (k : ℕ). follow_in_set z One k (number_in z (moved_on y calls q)) choices visited)
        (sym (c.same_member q))
        ∙ own_walk z fine_now c.still_sound (moved_on y calls q) there_now choices visited
