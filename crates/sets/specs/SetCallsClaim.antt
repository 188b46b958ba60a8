-- T-09, of the calls themselves: nobody who sees only what crossing walks of a sound set show can find out what calls
-- its members have been through. `SetUnnoticed` says it of a list of members; this says it of the six lists, by the
-- definitions that the calls' contracts cite.
use Rattle.std.specs.Prelude.{ℕ, ◌<◌, ◌≡◌, true, List, map, length, get_or, take}
use Rattle.numbers.specs.Refusals.{decided}
use Rattle.cells.specs.Cell.{node_at}
use Rattle.walks.specs.Claim.{SameWalk}
use Rattle.walks.specs.declared.walk.End.{End}
use Rattle.sets.specs.Members.{cell_at, areas}
use Rattle.sets.specs.Crossing.{Location, location, crossing}
use Rattle.sets.specs.SetSound.{set_sound}
use Rattle.sets.specs.SetCalls.{SetCall}
use Rattle.sets.specs.CrossingCall.{location_words}
use Rattle.sets.specs.SetClaim.{Stands, CellAsRead}
use Rattle.sets.specs.CellSet.{CellSet, cells_in, set_causes}
use Rattle.sets.specs.SetStored.{member_in}
use Rattle.sets.specs.CrossMember.{cross_member}
use Rattle.sets.specs.SetRun.{run_set, moved_on, any_renumbers_on}
use Rattle.std.specs.Prelude.{Ok}

-- The words of the claim:
--   run_set y calls                    the six lists after the calls, each as its contract says
--   cells_in y                        the cells of the members that the six lists hold, in the order of joining
--   moved_on y calls s                 where the node first at s, a member and a place, stands after the calls
--   crossing cells choices s          all of a crossing walk: its end, and each location visited with what is shown
--   cross_member y choices s visited   what the call `crossing_walk` answers, and the visited list after it

-- an entry of the visited list, with its node where that stands after the calls
abbrev pub entry_moved : CellSet → List SetCall → List ℕ → List ℕ
entry_moved y calls w = location_words (moved_on y calls (location (get_or w 0 0) (get_or w 1 0)))

-- What T-09 says of a set in six lists and a list of calls on its members.
pub record CallsUnnoticed (y : CellSet) (calls : List SetCall) : Type 0 where
  -- "fixed members"
  pub same_members : length (run_set y calls).members ≡ length y.members
  -- a set made by hand is refused as before, and one that may be used still may
  pub same_causes : decided (set_causes (run_set y calls)) ≡ decided (set_causes y)
  -- The node first at s is still in the set, in the same member.
  pub still_there : (s : Location) → Stands (cells_in y) s → Stands (cells_in (run_set y calls)) (moved_on y calls s)
  pub same_member : (s : Location) → (moved_on y calls s).member ≡ s.member
  -- the set is as sound, and its members have the areas that they had
  pub still_sound : set_sound (cells_in (run_set y calls)) ≡ true
  pub same_areas : areas (cells_in (run_set y calls)) ≡ areas (cells_in y)
  -- "every crossing walk from the same node as first shown, its visits moved as in demand 3"
  pub same_walks : (choices : List ℕ) (s : Location) → Stands (cells_in y) s
      → SameWalk (moved_on y calls) (crossing (cells_in y) choices s)
      (crossing (cells_in (run_set y calls)) choices (moved_on y calls s))
  -- lent visited lists of equal length, the call answers the same, refusals too
  pub same_answers : (choices : List ℕ) (s : Location) → Stands (cells_in y) s
      → (visited later : List (List ℕ)) → length later ≡ length visited
      → (cross_member (run_set y calls) choices (moved_on y calls s) later).answer
      ≡ (cross_member y choices s visited).answer
  -- and where it is accepted, it stores the same locations, each moved
  pub same_visits : (choices : List ℕ) (s : Location) → Stands (cells_in y) s
      → (visited later : List (List ℕ)) → length later ≡ length visited
      → (end : End) (n : ℕ) → (cross_member y choices s visited).answer ≡ Ok (record { end = end; count = n })
      → take n (cross_member (run_set y calls) choices (moved_on y calls s) later).visited
      ≡ map (entry_moved y calls) (take n (cross_member y choices s visited).visited)
  -- once a renumbering of a member has been accepted, every number in it is its place
  pub numbered : (i : ℕ) → i < length y.members → any_renumbers_on y calls i ≡ true
      → (q : ℕ) → q < length (cell_at (cells_in (run_set y calls)) i).nodes
      → (node_at (cell_at (cells_in (run_set y calls)) i).nodes q).number ≡ q

-- "For a sound set with fixed members, each a cell as read, every list of renumberings and write-then-read calls on
-- any of them". Of a set that its calls refuse it holds too: they change nothing.
abbrev pub CallsUnnoticedTheorem : Type 0
CallsUnnoticedTheorem =
    (y : CellSet) → ((i : ℕ) → i < length y.members → CellAsRead (member_in y i)) → set_sound (cells_in y) ≡ true
    → (calls : List SetCall) → CallsUnnoticed y calls
