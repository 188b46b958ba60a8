-- What a caller in C gets of a shortest path (T-06).
use Rattle.std.specs.Prelude.{ℕ, ◌≡◌, List, Result}
use Rattle.numbers.specs.declared.refusal.Refusal.{Refusal}
use Rattle.cells.specs.Memory.{Memory}
use Rattle.paths.specs.PathCall.{PathLeft}
use Rattle.paths.specs.declared.path.Shortest.{Shortest}
use Rattle.exports.specs.Found.{Told, value_told}

abbrev pub measured : ℕ → ℕ → Shortest
measured distance links = record { distance = distance; links = links }

-- The call answers what `shortest_path` may answer, and leaves the three lists as it does.
pub record PathTold (m : Memory) (p q : ℕ) (scratch choices places : List ℕ) (distance links : ℕ)
    (answer : Told Shortest) (scratch' choices' places' : List ℕ) : Type 0 where
  pub found : Result Shortest Refusal
  pub left : PathLeft m p q scratch choices places found scratch' choices' places'
  pub is_told : answer ≡ value_told found (measured distance links)
