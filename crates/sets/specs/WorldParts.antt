-- What the parts of calls on such a set go by. No public function's contract cites it.
use Rattle.std.specs.Prelude.{ℕ, List}
use Rattle.sets.specs.CellSet.{CellSet, cell_set}
use Rattle.sets.specs.declared.world.World.{World}
use Rattle.cells.specs.declared.junction_entry.JunctionEntry.{JunctionEntry}
use Rattle.records.specs.declared.junction_ref.NodeJunctionRef.{NodeJunctionRef}

-- the set, with lists that it isn't lent
abbrev pub set_of : World → List JunctionEntry → List ℕ → List NodeJunctionRef → CellSet
set_of x junctions heights refs = cell_set x.members.now x.nodes.now x.links.now junctions heights refs
