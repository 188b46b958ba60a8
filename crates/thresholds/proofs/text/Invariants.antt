use Rattle.std.proofs.Common.{◌≡◌, ℕ, ◌*◌, ◌<◌, ◌≤◌, length, take, drop}
use Rattle.numbers.specs.ThresholdSearch.{LineOfLeast}
use Rattle.thresholds.proofs.text.Given as goal

-- the lines so far
abbrev pub invariant-loop-k : goal.invariant-loop-k
invariant-loop-k l = record {
  within : l.k ≤ 256;
  long : length l.bytes ≡ 2304;
  lines : (j : ℕ) → j < l.k → LineOfLeast j (take 9 (drop (9 * j) l.bytes));
}
