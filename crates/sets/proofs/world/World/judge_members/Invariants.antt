use Rattle.std.proofs.Common.{◌≡◌, ℕ, List, length}
use Rattle.sets.specs.WorldParts.{set_of}
use Rattle.sets.specs.SetSoundParts.{all_below, judged_at, numbers_of, indexed_to}
use Rattle.sets.specs.CellSet.{cells_in}
use Rattle.sets.proofs.world.World.judge_members.Given as goal
use Rattle.cells.specs.declared.junction_entry.JunctionEntry.{JunctionEntry}

abbrev pub invariant-loop-k : goal.invariant-loop-k
invariant-loop-k l =
    (l.scratch ≡ indexed_to (numbers_of l.self.members.now l.self.nodes.now) l.k l.fn.scratch)
    × ((junctions : List JunctionEntry) (heights : List ℕ)
    → l.good ≡ all_below (judged_at (cells_in (set_of l.self junctions heights l.refs))
    (length l.self.members.now)) l.k)
