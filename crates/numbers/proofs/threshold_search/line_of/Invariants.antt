use Rattle.std.proofs.Common.{◌≡◌, length, drop}
use Rattle.numbers.specs.ThresholdSearch.{hex_before, line_of}
use Rattle.numbers.proofs.threshold_search.line_of.Given as goal

-- what remains, done to the digits so far, gives the line
abbrev pub invariant-loop-i : goal.invariant-loop-i
invariant-loop-i l = (length l.line ≡ 9) × (hex_before l.i l.rest (drop l.i l.line) ≡ line_of l.fn.n)
