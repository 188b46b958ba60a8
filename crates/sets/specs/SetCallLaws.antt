-- T-09: other sentences about the calls on a set in six lent lists, by the definitions that their contracts cite.
use Rattle.std.specs.Prelude.{ℕ, ◌+◌, ◌<◌, ◌≡◌, false, List, [], ◌∷◌, ◌++◌, map, eqb, length}
use Rattle.std.proofs.Math.Option.{some}
use Rattle.numbers.specs.Refusals.{decided}
use Rattle.cells.specs.Memory.{Memory}
use Rattle.cells.specs.Read.{read_of}
use Rattle.cells.specs.CellOf.{cell_of}
use Rattle.cells.specs.Renumber.{renumber}
use Rattle.walks.specs.WalkCall.{walk_call}
use Rattle.sets.specs.Members.{area_of}
use Rattle.sets.specs.Crossing.{location}
use Rattle.sets.specs.CrossingCall.{location_words, crossing_left}
use Rattle.sets.specs.SetRenumber.{renumber_in, write_read_in}
use Rattle.sets.specs.SetCalls.{SetCall, run_in}
use Rattle.sets.specs.SetClaim.{CellAsRead}
use Rattle.sets.specs.CellSet.{CellSet, members_of, set_causes}
use Rattle.sets.specs.Leave.{used, removed, first_of_area, leave_area}
use Rattle.sets.specs.Join.{join_cell}
use Rattle.sets.specs.HandBack.{lack_of_back, hand_back}
use Rattle.sets.specs.SetStored.{member_in, with_member}
use Rattle.sets.specs.RenumberMember.{renumber_member}
use Rattle.sets.specs.WriteMember.{write_read_member}
use Rattle.sets.specs.CrossMember.{cross_member}
use Rattle.sets.specs.SetRun.{run_set}
use Rattle.sets.specs.CellSet.{cells_in}
use Rattle.cells.specs.declared.counts.Counts.{Counts}
use Rattle.std.specs.Prelude.{Ok, Err}
use Rattle.numbers.specs.declared.refusal.Refusal.{Refusal}

-- ---- the calls on the six lists do to the members what the calls on a list of members do

pub record CallsFollow (y : CellSet) : Type 0 where
  pub renumbered : (j scratch : ℕ) (places : List ℕ)
      → members_of (renumber_member y j scratch places).lists ≡ (renumber_in (members_of y) j scratch places).members
  pub renumber_answer : (j scratch : ℕ) (places : List ℕ)
      → (renumber_member y j scratch places).answer ≡ (renumber_in (members_of y) j scratch places).answer
  pub renumber_places : (j scratch : ℕ) (places : List ℕ)
      → (renumber_member y j scratch places).places ≡ (renumber_in (members_of y) j scratch places).places
  pub written : (j : ℕ) (section : List ℕ)
      → members_of (write_read_member y j section).lists ≡ (write_read_in (members_of y) j section).members
  pub write_answer : (j : ℕ) (section : List ℕ)
      → (write_read_member y j section).answer ≡ (write_read_in (members_of y) j section).answer
  pub write_section : (j : ℕ) (section : List ℕ)
      → (write_read_member y j section).section ≡ (write_read_in (members_of y) j section).section
  -- a list of calls, and what the next call needs
  pub run_members : (calls : List SetCall) → members_of (run_set y calls) ≡ run_in (members_of y) calls
  pub still_usable : (calls : List SetCall) → decided (set_causes (run_set y calls)) ≡ (Ok tt)
  pub as_many : (calls : List SetCall) → length (run_set y calls).members ≡ length y.members

abbrev pub CallsFollowTheorem : Type 0
CallsFollowTheorem = (y : CellSet) → decided (set_causes y) ≡ (Ok tt) → CallsFollow y

-- ---- "A write refused in one member changes none", and so every other call that is refused

pub record RefusedChangesNone : Type 0 where
  pub renumber_refused : (y : CellSet) (j scratch : ℕ) (places : List ℕ) (cause : Refusal)
      → (renumber_member y j scratch places).answer ≡ Err cause
      → ((renumber_member y j scratch places).lists ≡ y) × ((renumber_member y j scratch places).places ≡ places)
  pub write_refused : (y : CellSet) (j : ℕ) (section : List ℕ) (cause : Refusal)
      → (write_read_member y j section).answer ≡ Err cause
      → ((write_read_member y j section).lists ≡ y) × ((write_read_member y j section).section ≡ section)
  pub join_refused : (count : ℕ) (y : CellSet) (m : Memory) (sizes : Counts) (cause : Refusal)
      → (join_cell count y m sizes).answer ≡ Err cause
      → ((join_cell count y m sizes).lists ≡ y) × ((join_cell count y m sizes).count ≡ length (used count y).members)
  pub leave_refused : (y : CellSet) (area : ℕ) (cause : Refusal) → (leave_area y area).answer ≡ Err cause
      → ((leave_area y area).lists ≡ y) × ((leave_area y area).count ≡ length y.members)

-- ---- "Where edits gave two members one area, the one that joined first is meant by links .., and renumbering the
-- other corrects no links outside it"

-- all six lists are as they were, but for the renumbered memory in the member's place
abbrev pub LaterCorrectsNone : Type 0
LaterCorrectsNone =
    (y : CellSet) (j first scratch : ℕ) (places : List ℕ)
    → first_of_area y (area_of (cell_of (member_in y j))) ≡ some first → eqb first j ≡ false
    → (renumber_member y j scratch places).answer ≡ (Ok tt)
    → (renumber_member y j scratch places).lists ≡ with_member y j (renumber (member_in y j) scratch places).memory

-- ---- joining. A struct in memory has seven words of its own.

-- the set that an accepted joining leaves, and the one before
abbrev pub joined_set : ℕ → CellSet → Memory → Counts → CellSet
joined_set count y m sizes = used (join_cell count y m sizes).count (join_cell count y m sizes).lists

-- What `join` stores is the cell that was joined, and the other members are as they were.
pub record JoinStores (count : ℕ) (y : CellSet) (m : Memory) (sizes : Counts) : Type 0 where
  pub one_more : length (joined_set count y m sizes).members ≡ length (used count y).members + 1
  pub counted : (join_cell count y m sizes).count ≡ length (used count y).members + 1
  pub others : (i : ℕ) → i < length (used count y).members
      → member_in (joined_set count y m sizes) i ≡ member_in (used count y) i
  pub same_cell : cell_of (member_in (joined_set count y m sizes) (length (used count y).members)) ≡ cell_of m
  pub all_cells : cells_in (joined_set count y m sizes) ≡ cells_in (used count y) ++ (cell_of m ∷ [])
  -- "each a cell as read", if it was, and if each was
  pub as_read : CellAsRead m → CellAsRead (member_in (joined_set count y m sizes) (length (used count y).members))
  pub all_read : ((i : ℕ) → i < length (used count y).members → CellAsRead (member_in (used count y) i)) → CellAsRead m
      → (i : ℕ) → i < length (joined_set count y m sizes).members
      → CellAsRead (member_in (joined_set count y m sizes) i)
  -- the set may be used
  pub usable : decided (set_causes (joined_set count y m sizes)) ≡ (Ok tt)

abbrev pub JoinStoresTheorem : Type 0
JoinStoresTheorem =
    (count : ℕ) (y : CellSet) (m : Memory) (sizes : Counts) → length m.ynd.unknowns ≡ 7
    → (join_cell count y m sizes).answer ≡ (Ok tt) → JoinStores count y m sizes

-- A cell read from two sections, then joined, is a member as read.
abbrev pub ReadThenJoin : Type 0
ReadThenJoin =
    (system graphics : List ℕ) (lent : Memory) (count : ℕ) (y : CellSet) (sizes : Counts)
    → (read_of system graphics lent).answer ≡ (Ok tt)
    → (join_cell count y (read_of system graphics lent).memory sizes).answer ≡ (Ok tt)
    → CellAsRead (member_in (joined_set count y (read_of system graphics lent).memory sizes)
    (length (used count y).members))

-- ---- leaving

abbrev pub left_set : CellSet → ℕ → CellSet
left_set y area = used (leave_area y area).count (leave_area y area).lists

-- What leaves is gone, and the other members are as they were, in their order.
pub record LeaveKeeps (y : CellSet) (area j : ℕ) : Type 0 where
  pub members_left : members_of (left_set y area) ≡ removed j (members_of y)
  pub one_less : length (left_set y area).members + 1 ≡ length y.members
  pub counted : (leave_area y area).count ≡ length (left_set y area).members
  -- the set may be used
  pub usable : decided (set_causes (left_set y area)) ≡ (Ok tt)

abbrev pub LeaveKeepsTheorem : Type 0
LeaveKeepsTheorem =
    (y : CellSet) (area j : ℕ) → first_of_area y area ≡ some j → (leave_area y area).answer ≡ (Ok tt)
    → LeaveKeeps y area j

-- ---- joining, then leaving

-- Joining, then leaving, gives the set and the cell back: it is accepted, the cell that leaves is the one that joined,
-- and the members are those before.
pub record JoinThenLeave (count : ℕ) (y : CellSet) (m : Memory) (sizes : Counts) : Type 0 where
  pub left_again : (leave_area (joined_set count y m sizes) (area_of (cell_of m))).answer ≡ (Ok tt)
  pub it_leaves : first_of_area (joined_set count y m sizes) (area_of (cell_of m))
      ≡ some (length (used count y).members)
  pub as_many : (leave_area (joined_set count y m sizes) (area_of (cell_of m))).count ≡ length (used count y).members
  pub set_back : members_of (left_set (joined_set count y m sizes) (area_of (cell_of m))) ≡ members_of (used count y)
  -- handed back before it leaves, it is the cell that joined; lists that have room for that cell have room for it
  pub cell_back : (lent : Memory)
      → (hand_back (joined_set count y m sizes) (area_of (cell_of m)) lent).answer ≡ (Ok tt)
      → cell_of (hand_back (joined_set count y m sizes) (area_of (cell_of m)) lent).memory ≡ cell_of m
  pub has_room : (lent : Memory) → lack_of_back m lent ≡ (Ok tt)
      → (hand_back (joined_set count y m sizes) (area_of (cell_of m)) lent).answer ≡ (Ok tt)

abbrev pub JoinThenLeaveTheorem : Type 0
JoinThenLeaveTheorem =
    (count : ℕ) (y : CellSet) (m : Memory) (sizes : Counts) → length m.ynd.unknowns ≡ 7
    → (join_cell count y m sizes).answer ≡ (Ok tt) → JoinThenLeave count y m sizes

-- ---- a set of one member is its cell

-- places in the member 0, as a visited list has them
abbrev pub in_first : List ℕ → List (List ℕ)
in_first places = map (λ q. location_words (location 0 q)) places

-- The call of a crossing walk is refused like the walk's in the cell, ends like it, and stores the same places.
abbrev pub OneMemberWalks : Type 0
OneMemberWalks =
    (y : CellSet) → decided (set_causes y) ≡ (Ok tt) → length y.members ≡ 1
    → (choices : List ℕ) (p : ℕ) (visited : List ℕ)
    → cross_member y choices (location 0 p) (in_first visited)
    ≡ crossing_left (walk_call (member_in y 0) choices p visited).answer
    (in_first (walk_call (member_in y 0) choices p visited).visited)
