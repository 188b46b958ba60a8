-- The call `follow_round_indexed`: `follow_round`, lent a scratch by which a number's node is found at once.
use Rattle.std.specs.Prelude.{ℕ, List, take, Err}
use Rattle.cells.specs.Memory.{Memory}
use Rattle.cells.specs.LookupCall.{node_call}
use Rattle.cells.specs.Nodes.{first_area}
use Rattle.walks.specs.WalkCall.{WalkLeft, walk_left}
use Rattle.rounds.specs.Round.{unless}
use Rattle.rounds.specs.Follow.{starting_at, area_answer}
use Rattle.rounds.specs.declared.file.Version.{Version}
use Rattle.indexed.specs.WalkIndexed.{walk_indexed}

-- `node`, then `walk_indexed`. With a scratch that is long enough it is `follow_round` (law `as_round`).
unfoldable pub follow_round_indexed : Memory → ℕ → ℕ → List ℕ → List ℕ → WalkLeft
follow_round_indexed m room start choices visited =
    starting_at (node_call m.ynd m.nodes start) (λ p. walk_indexed m room choices p visited) visited

-- `follow_version` likewise: 19 comes first (law `as_version`).
unfoldable pub follow_version_indexed : Memory → ℕ → Version → ℕ → List ℕ → List ℕ → WalkLeft
follow_version_indexed m room v start choices visited =
    unless (area_answer v (first_area (take m.ynd.node_count m.nodes))) (λ cause. walk_left (Err cause) visited)
    (follow_round_indexed m room start choices visited)
