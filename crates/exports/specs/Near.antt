-- What a caller in C gets of the nearest node (T-01).
use Rattle.std.specs.Prelude.{ℕ}
use Rattle.reach.specs.declared.reach.NearestNode.{NearestNode}

abbrev pub near : ℕ → ℕ → NearestNode
near place square = record { place = place; square = square }
