use Rattle.std.proofs.Common.{length, get_or, ◌≡◌, ◌≤◌, ◌<◌, ℕ}
use Rattle.sets.specs.Leave.{start_of}
use Rattle.sets.specs.SetParts.{areas_of}
use Rattle.sets.proofs.areas.fill_areas.Given as goal

abbrev pub invariant-loop-i : goal.invariant-loop-i
invariant-loop-i l =
    (l.start ≡ start_of 15 l.members l.i) × (l.start ≤ length l.nodes)
    × ((j : ℕ) → j < l.i → get_or l.areas j 0 ≡ get_or (areas_of l.members l.nodes) j 0)
