use Rattle.std.proofs.Common.{ℕ, ◌<◌, get_or}
use Rattle.cells.specs.Nodes.{no_link}
use Rattle.paths.proofs.path.short_links.Given as goal

abbrev pub invariant-loop-i : goal.invariant-loop-i
invariant-loop-i l = (j : ℕ) → j < l.i → (get_or l.links j no_link).length < 256
