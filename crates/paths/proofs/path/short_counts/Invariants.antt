use Rattle.std.proofs.Common.{ℕ, ◌<◌, get_or}
use Rattle.cells.specs.Nodes.{no_entry}
use Rattle.paths.proofs.path.short_counts.Given as goal

abbrev pub invariant-loop-i : goal.invariant-loop-i
invariant-loop-i l = (j : ℕ) → j < l.i → (get_or l.nodes j no_entry).link_count < 256
