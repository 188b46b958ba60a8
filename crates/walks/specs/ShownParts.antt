-- What the parts of the calls of Shown go by. No public function's contract cites them.
use Rattle.std.specs.Prelude.{ℕ}
use Rattle.cells.specs.declared.node_entry.NodeEntry.{NodeEntry}
use Rattle.cells.specs.Cell.{body_of}
use Rattle.walks.specs.declared.shown.SeenNode.{SeenNode}
use Rattle.walks.specs.Shown.{seen_by}
use Rattle.std.specs.Prelude.{Option}

-- what a node shows, with so many links and a junction there
unfoldable pub seen_of : NodeEntry → ℕ → Option ℕ → SeenNode
seen_of n count place = seen_by n.area_id (body_of n) count place
