-- What a search goes by, and what holds while it goes on. No public function's contract cites these.
use Rattle.std.specs.Prelude.{ℕ, ◌≡◌, List}
use Rattle.cells.specs.Cell.{Node}
use Rattle.cells.specs.CellOf.{nodes_of}
use Rattle.walks.specs.WalkParts.{lent}
use Rattle.paths.specs.Index.{Room, AllEntered}
use Rattle.paths.specs.Search.{Searching}
use Rattle.paths.specs.declared.search.Search.{Search}
use Rattle.paths.specs.declared.queue.Queue.{Queue}

-- the nodes that are searched
abbrev pub nodes_in : Search → List Node
nodes_in s = nodes_of (lent s.ynd s.nodes.now s.links.now)

-- the scratch has room, and all places are entered in it
pub record Ready (s : Search) (scratch : List ℕ) : Type 0 where
  pub room : Room s.nodes.now scratch
  pub entered : AllEntered s.nodes.now s.ynd.node_count scratch

-- the search goes on, with the links of the place u from the i-th on still to come
pub record Going (s : Search) (queue : Queue) (scratch : List ℕ) (u i : ℕ) : Type 0 where
  pub places : queue.n ≡ s.ynd.node_count
  pub searching : Searching (nodes_in s) s.start s.ynd.node_count scratch queue.size u i
