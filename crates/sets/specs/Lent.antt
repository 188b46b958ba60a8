-- T-09: lists that a call on a member isn't lent. A call is lent the members' entries and those of the five lists that
-- it looks at; what it answers and leaves is said for all others that hold the members' parts. They stay as they are.
use Rattle.std.specs.Prelude.{ℕ, ◌≤◌, List, length}
use Rattle.sets.specs.CellSet.{words_at, total}
use Rattle.cells.specs.declared.node_entry.NodeEntry.{NodeEntry}
use Rattle.cells.specs.declared.link.PathLink.{PathLink}
use Rattle.cells.specs.declared.junction_entry.JunctionEntry.{JunctionEntry}
use Rattle.records.specs.declared.junction_ref.NodeJunctionRef.{NodeJunctionRef}

-- the list l holds the parts whose sizes are word k
abbrev pub Lies : {A : Type 0} → ℕ → List (List ℕ) → List A → Type 0
Lies k ws l = total (words_at k ws) ≤ length l

-- five lists that hold the members' parts: whatever stands in those that a call isn't lent
pub record Unlent (ws : List (List ℕ)) : Type 0 where
  pub nodes : List NodeEntry
  pub links : List PathLink
  pub junctions : List JunctionEntry
  pub heights : List ℕ
  pub refs : List NodeJunctionRef
  pub nodes_lie : Lies 15 ws nodes
  pub links_lie : Lies 16 ws links
  pub junctions_lie : Lies 17 ws junctions
  pub heights_lie : Lies 18 ws heights
  pub refs_lie : Lies 19 ws refs
