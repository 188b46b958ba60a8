-- Demand 3: nobody who sees only what walks of a sound cell show can find out what it has been through.
use Rattle.std.specs.Prelude.{ℕ, ◌-◌, ◌<◌, ◌≡◌, true, List, map, length}
use Rattle.std.proofs.Math.Option.{Option}
use Rattle.cells.specs.Memory.{Memory}
use Rattle.cells.specs.Read.{read_of}
use Rattle.cells.specs.Cell.{Cell, node_at}
use Rattle.cells.specs.CellOf.{cell_of}
use Rattle.cells.specs.FileCell.{file_cell}
use Rattle.walks.specs.Sound.{sound}
use Rattle.walks.specs.Walk.{Seen, Visit, Trail, walk}
use Rattle.walks.specs.declared.shown.SeenLink.{SeenLink}
use Rattle.walks.specs.WalkCall.{walk_call}
use Rattle.walks.specs.Calls.{Call, run, moved, any_renumbers}
use Rattle.std.specs.Prelude.{Ok}

-- The words of the claim:
--   read_of system graphics lent     what reading two sections answers, and the memory that it leaves of the memory
-- lent
--   file_cell system graphics        the first cell: what sections 1 to 4 define for the two sections
--   run m calls                     the memory after the calls; cell_of is the cell that a memory holds
--   moved m calls p                 where the node first at place p stands after the calls
--   walk cell choices p             all of a walk: its end, and each place visited with what is shown there
--   walk_call m choices p visited    what the call `walk` answers, and the visited list after it

-- What a walk shows at a place, whatever kind of places there are. Of the node: area, street, position bits, flags0 to
-- flags5, the five unused fields (T-10), link count and junction, whole. Of the link chosen there: its three flags and
-- its length.
abbrev pub shown_at : {L : Type 0} → Visit L → Seen × Option SeenLink
shown_at v = (v.seen, v.link)

-- All that it shows, in order.
abbrev pub shown : {L : Type 0} → Trail L → List (Seen × Option SeenLink)
shown t = map shown_at t.visits

-- The places visited, in order, the start first; and how many links were followed.
abbrev pub places : {L : Type 0} → Trail L → List L
places t = map (λ v. v.place) t.visits

abbrev pub followed : {L : Type 0} → Trail L → ℕ
followed t = length (places t) - 1

-- Two walks, `before` in the first cell and `after` the calls; `f p` is where the node first at place p now stands.
pub record SameWalk {L : Type 0} (f : L → L) (before after : Trail L) : Type 0 where
  -- "shows the same areas, streets, positions, flags, link counts, lengths and junctions, in the same order"
  pub same_shown : shown after ≡ shown before
  -- "Both follow equally many links"
  pub same_count : followed after ≡ followed before
  -- "and end in the same way", also with the area and number of *left*
  pub same_end : after.ending ≡ before.ending
  -- "The places visited are those of the walk in the first cell, each moved on as the accepted renumberings moved its
  -- node."
  pub same_places : places after ≡ map f (places before)

-- What demand 3 says of the first cell, the memory m that holds it, and a list of calls.
pub record Unnoticed (first : Cell) (m : Memory) (calls : List Call) : Type 0 where
  -- The node first at place p is still in the cell.
  pub still_there : (p : ℕ) → p < length first.nodes → moved m calls p < length (cell_of (run m calls)).nodes
  -- "After the list, every walk from the node first at place p, over every list of link choices", against "the walk
  -- from place p over the same choices in the first cell"
  pub same_walks : (choices : List ℕ) (p : ℕ) → p < length first.nodes
      → SameWalk (moved m calls) (walk first choices p) (walk (cell_of (run m calls)) choices (moved m calls p))
  -- "Where both walks are lent visited lists of equal length, they are refused alike or neither is": the call `walk`
  -- gives the same answer
  pub same_answers : (choices : List ℕ) (p : ℕ) → p < length first.nodes → (visited later : List ℕ)
      → length later ≡ length visited
      → (walk_call (run m calls) choices (moved m calls p) later).answer ≡ (walk_call m choices p visited).answer
  -- "Once a renumbering in the list has been accepted, every node's number is its place."
  pub numbered : any_renumbers m calls ≡ true → (q : ℕ) → q < length (cell_of (run m calls)).nodes
      → (node_at (cell_of (run m calls)).nodes q).number ≡ q

-- Demand 3: for any two sections and any memory lent to their reading, if the reading is accepted and the first cell,
-- the one that document 01 defines for the two sections, is sound, for every list of calls.
abbrev pub Demand3 : Type 0
Demand3 =
    (system graphics : List ℕ) (lent : Memory) → (read_of system graphics lent).answer ≡ (Ok tt)
    → sound (file_cell system graphics) ≡ true
    → (calls : List Call) → Unnoticed (file_cell system graphics) (read_of system graphics lent).memory calls
