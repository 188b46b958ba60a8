use Rattle.std.proofs.Common.{map, take}
use Rattle.cells.specs.Nodes.{number_of}
use Rattle.cells.specs.RenumberParts.{Indexed}
use Rattle.cells.proofs.number_index.index_numbers.Given as goal

abbrev pub invariant-loop-i : goal.invariant-loop-i
invariant-loop-i l = Indexed (map number_of (take l.i l.nodes)) l.scratch
