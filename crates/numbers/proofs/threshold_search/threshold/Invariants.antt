use Rattle.std.proofs.Common.{◌≡◌, ℕ, ◌+◌, ◌-◌, ◌*◌, ◌<◌, ◌≤◌}
use lib.Ieee.{size}
use Rattle.numbers.proofs.TableLaws.{entry}
use Rattle.numbers.proofs.threshold_search.threshold.Given as goal

pub record Inv (k j lo hi : ℕ) : Type 0 where
  pub some : 0 < k
  pub small : k < 256
  pub digits : j ≡ size (k - 1)
  pub j_in : j ≤ 8
  pub from : (125 + 2 * j) * 8388608 ≤ lo
  pub order : lo < hi
  pub to : hi ≤ (127 + 2 * j) * 8388608
  pub under : lo < entry k
  pub at : entry k ≤ hi

abbrev pub invariant-loop-lo : goal.invariant-loop-lo
invariant-loop-lo l = Inv l.k l.j l.lo l.hi

abbrev pub decreases-loop-lo : goal.decreases-loop-lo
decreases-loop-lo l = l.hi - l.lo
