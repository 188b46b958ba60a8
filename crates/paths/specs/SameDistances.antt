-- T-06: a sound cell gives the same sum for the same two nodes after any list of renumberings and write-then-read
-- calls.
use Rattle.std.specs.Prelude.{ℕ, ◌<◌, ◌≡◌, true, List, length}
use Rattle.std.specs.List.{All}
use Rattle.cells.specs.Memory.{Memory}
use Rattle.cells.specs.Cell.{Node, Cell}
use Rattle.cells.specs.CellOf.{cell_of}
use Rattle.walks.specs.Sound.{sound}
use Rattle.walks.specs.Calls.{Call, run, moved}
use Rattle.paths.specs.ShortestPath.{distance, Unreachable, ShortestPath}
use Rattle.records.proofs.RecordBack.{RefFits}
use Rattle.cells.proofs.Forms.EntryFits.{LinkFits}
use Rattle.cells.proofs.WritingBack.KeptCells.{BodyFits}
use Rattle.cells.proofs.WritingBack.AsRead.{SizedMap}

-- Walks between p and q in the nodes `first`, and between the same two nodes, now at f p and f q, in the nodes
-- `later`.
pub record SameDistance (first later : List Node) (f : ℕ → ℕ) (p q : ℕ) : Type 0 where
  -- joined by no walk then: by none now; and the other way round
  pub still_unreachable : Unreachable first p q → Unreachable later (f p) (f q)
  pub was_unreachable : Unreachable later (f p) (f q) → Unreachable first p q
  -- any two shortest paths have the same sum, and as many links
  pub same_distance : (bs cs : List ℕ) → ShortestPath first p q bs → ShortestPath later (f p) (f q) cs
      → (distance later cs (f p) ≡ distance first bs p) × (length cs ≡ length bs)

-- Every number of a node and its links, of a map's size and of a ref is one that its field holds: their types in
-- memory say so.
pub record NodeFits (n : Node) : Type 0 where
  pub area : n.area < 65536
  pub number : n.number < 65536
  pub body : BodyFits n.body
  pub links : All LinkFits n.links

pub record Fits (c : Cell) : Type 0 where
  pub nodes : All NodeFits c.nodes
  pub maps : All SizedMap c.junctions
  pub refs : All RefFits c.refs

-- For every sound cell, read or edited, every list of calls and any two places of the cell.
abbrev pub SameDistances : Type 0
SameDistances =
    (m : Memory) → Fits (cell_of m) → sound (cell_of m) ≡ true
    → (calls : List Call) (p q : ℕ) → p < length (cell_of m).nodes → q < length (cell_of m).nodes
    → SameDistance (cell_of m).nodes (cell_of (run m calls)).nodes (moved m calls) p q
