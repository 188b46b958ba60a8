-- A round followed in a cell (docs/FORMAT.md, Following a round).
use Rattle.std.specs.Prelude.{ℕ, List, cond, eqb, take, Ok, Err, Some, None}
use Rattle.numbers.specs.Refusals.{Answer, done}
use Rattle.numbers.specs.declared.refusal.Refusal.TheVariants.{NoSuchPlace, OtherArea}
use Rattle.cells.specs.Memory.{Memory}
use Rattle.cells.specs.LookupCall.{Place, node_call}
use Rattle.cells.specs.Nodes.{first_area}
use Rattle.walks.specs.WalkCall.{WalkLeft, walk_left, walk_call}
use Rattle.rounds.specs.Round.{unless}
use Rattle.rounds.specs.declared.file.Version.{Version}
use Rattle.rounds.specs.declared.file.Version.TheVariants.{One, Two}

-- T-03: the round starts at what `node` finds for its start number; a number that no node has is 13.
abbrev pub starting_at : Place → (ℕ → WalkLeft) → List ℕ → WalkLeft
starting_at (Ok (Some p)) walked visited = walked p
starting_at (Ok None) walked visited = walk_left (Err NoSuchPlace) visited
starting_at (Err cause) walked visited = walk_left (Err cause) visited

-- `node`, then `walk`. What `node` refuses comes first: 14, and 7 at 0, for a number can't be missed in a list that
-- isn't there. Then 13, and what `walk` refuses.
unfoldable pub follow_round : Memory → ℕ → List ℕ → List ℕ → WalkLeft
follow_round m start choices visited =
    starting_at (node_call m.ynd m.nodes start) (λ p. walk_call m choices p visited) visited

-- 19 where the round's area isn't the cell's own in full, which is 0 for an empty cell. A version 1 round belongs to
-- the
-- cell it is followed in.
abbrev pub area_answer : Version → ℕ → Answer
area_answer One own = done
area_answer (Two area) own = cond (eqb area own) done (Err OtherArea)

-- 19 comes first. It is asked of the cell that the list of nodes holds, where that is shorter than its count; then
-- 14, 7
-- and 13 as following a round asks them.
unfoldable pub follow_version : Memory → Version → ℕ → List ℕ → List ℕ → WalkLeft
follow_version m v start choices visited =
    unless (area_answer v (first_area (take m.ynd.node_count m.nodes))) (λ cause. walk_left (Err cause) visited)
    (follow_round m start choices visited)
