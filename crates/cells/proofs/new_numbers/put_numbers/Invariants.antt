use Rattle.std.proofs.Common.{◌≡◌, ℕ, ◌<◌, length, get_or, map}
use Rattle.cells.specs.Nodes.{is_ped}
use Rattle.cells.proofs.Renumbering.NumberTable.{so_far}
use Rattle.cells.proofs.new_numbers.put_numbers.Given as goal

abbrev pub invariant-loop-n : goal.invariant-loop-n
invariant-loop-n l = (k : ℕ) → k < 65536 → get_or l.table k 0
    ≡ so_far (map is_ped l.nodes) l.nodes (length l.yielded) k
