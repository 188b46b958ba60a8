-- T-09: nobody who sees only what crossing walks of a sound set show can find out what its members have been through.
use Rattle.std.specs.Prelude.{ℕ, ◌≤◌, ◌<◌, ◌≡◌, true, false, List, length}
use Rattle.cells.specs.Memory.{Memory, over_limit}
use Rattle.cells.specs.Read.{read_of}
use Rattle.cells.specs.Cell.{Cell, node_at}
use Rattle.cells.specs.CellOf.{cell_of}
use Rattle.cells.specs.FileCell.{file_cell}
use Rattle.walks.specs.Claim.{SameWalk}
use Rattle.sets.specs.Members.{cell_at, areas}
use Rattle.sets.specs.Crossing.{Location, crossing}
use Rattle.sets.specs.SetSound.{set_sound}
use Rattle.sets.specs.MemberList.{member_at, cells_of}
use Rattle.sets.specs.SetCalls.{SetCall, run_in, moved_in, any_renumbers_in}
use Rattle.sets.specs.CrossingCall.{crossing_call}
use Rattle.std.specs.Prelude.{Ok}

-- The words of the claim:
--   cells_of ms                          the cells of the members, in the order of joining
--   run_in ms calls                      the members after the calls
--   moved_in ms calls s                  where the node first at s, a member and a place, stands after the calls
--   crossing cells choices s            all of a crossing walk: its end, and each location visited with what is shown
--   crossing_call ms choices s visited   what the call answers, and the visited list after it

-- a location where a node stands
pub record Stands (cs : List Cell) (s : Location) : Type 0 where
  pub in_set : s.member < length cs
  pub in_cell : s.place < length (cell_at cs s.member).nodes

-- "each a cell as read": the member holds the cell of some two sections whose reading was accepted, within section 4's
-- limits and in lists at least as long as its counts
pub record CellAsRead (m : Memory) : Type 0 where
  pub system : List ℕ
  pub graphics : List ℕ
  pub lent : Memory
  pub accepted : (read_of system graphics lent).answer ≡ (Ok tt)
  pub same_cell : cell_of m ≡ file_cell system graphics
  pub within : over_limit m.ynd ≡ false
  pub nodes_lie : m.ynd.node_count ≤ length m.nodes
  pub links_lie : m.ynd.link_count ≤ length m.links

-- What T-09 says of the members ms and a list of calls.
pub record SetUnnoticed (ms : List Memory) (calls : List SetCall) : Type 0 where
  -- "fixed members"
  pub same_members : length (run_in ms calls) ≡ length ms
  -- The node first at s is still in the set, in the same member.
  pub still_there : (s : Location) → Stands (cells_of ms) s → Stands (cells_of (run_in ms calls)) (moved_in ms calls s)
  pub same_member : (s : Location) → (moved_in ms calls s).member ≡ s.member
  -- the set is as sound, and its members have the areas that they had
  pub still_sound : set_sound (cells_of (run_in ms calls)) ≡ true
  pub same_areas : areas (cells_of (run_in ms calls)) ≡ areas (cells_of ms)
  -- "every crossing walk from the same node as first shown, its visits moved as in demand 3"
  pub same_walks : (choices : List ℕ) (s : Location) → Stands (cells_of ms) s
      → SameWalk (moved_in ms calls) (crossing (cells_of ms) choices s)
      (crossing (cells_of (run_in ms calls)) choices (moved_in ms calls s))
  -- lent visited lists of equal length, the call answers the same
  pub same_answers : (choices : List ℕ) (s : Location) → Stands (cells_of ms) s
      → (visited later : List (List ℕ)) → length later ≡ length visited
      → (crossing_call (run_in ms calls) choices (moved_in ms calls s) later).answer
      ≡ (crossing_call ms choices s visited).answer
  -- once a renumbering of a member has been accepted, every number in it is its place
  pub numbered : (i : ℕ) → i < length ms → any_renumbers_in ms calls i ≡ true
      → (q : ℕ) → q < length (cell_at (cells_of (run_in ms calls)) i).nodes
      → (node_at (cell_at (cells_of (run_in ms calls)) i).nodes q).number ≡ q

-- "For a sound set with fixed members, each a cell as read, every list of renumberings and write-then-read calls on
-- any of them". How many members there are, how many nodes together, and whether their areas differ is not asked.
abbrev pub SetUnnoticedTheorem : Type 0
SetUnnoticedTheorem =
    (ms : List Memory) → ((i : ℕ) → i < length ms → CellAsRead (member_at ms i)) → set_sound (cells_of ms) ≡ true
    → (calls : List SetCall) → SetUnnoticed ms calls
