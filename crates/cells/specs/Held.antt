-- A cell lent for writing, as a cell in memory. No public function's contract cites this.
use Rattle.cells.specs.Memory.{Memory, memory}
use Rattle.cells.specs.declared.held.Held.{Held}

abbrev pub memory_of : Held → Memory
memory_of h = memory h.ynd h.nodes.now h.links.now h.junctions.now h.heights.now h.refs.now
