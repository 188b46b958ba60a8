use Rattle.std.proofs.Common.{◌≡◌, ℕ, ◌≤◌, ◌<◌, length, get_or, drop}
use Rattle.sets.specs.Leave.{start_of}
use Rattle.sets.specs.SetParts.{areas_of}
use Rattle.sets.proofs.named.member_of_area.Given as goal

abbrev pub invariant-loop-i : goal.invariant-loop-i
invariant-loop-i l =
    (l.start ≤ length l.nodes) × (drop l.start l.nodes ≡ drop (start_of 15 l.members l.i) l.nodes)
    × ((j : ℕ) → j < l.i → get_or (areas_of l.members l.nodes) j 0 ≡ l.area → ⊥)
