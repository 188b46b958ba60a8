-- The call `walk_indexed`: `walk`, lent a scratch by which a number's node is found at once.
use Rattle.std.specs.Prelude.{ℕ, suc, List, [], ◌∷◌, leb, ltb, length, map, set, take, Result, Ok, Err}
use Rattle.numbers.specs.Refusals.{Cause, Answer, when, decided}
use Rattle.numbers.specs.declared.refusal.Refusal.{Refusal}
use Rattle.numbers.specs.declared.refusal.Refusal.TheVariants.{TooShort, NoSuchPlace, AtLimit}
use Rattle.numbers.specs.declared.refusal.Lent.TheVariants as lent
use Rattle.cells.specs.Memory.{Memory, over_limit}
use Rattle.cells.specs.Nodes.{number_of}
use Rattle.cells.specs.declared.node_entry.NodeEntry.{NodeEntry}
use Rattle.cells.specs.declared.ynd.Ynd.{Ynd}
use Rattle.walks.specs.WalkCall.{WalkLeft, walk_left, walk_call}

-- What is asked before the walk, of a cell in lists of so many nodes and links, in this order: what `walk` asks (13 no
-- such place; 14 a struct over a limit; 7 at 0 and 1 a list shorter than its count), then 7 at 6 a scratch of fewer
-- than 65,536 entries.
unfoldable pub indexed_causes : Ynd → ℕ → ℕ → ℕ → ℕ → List Cause
indexed_causes y nodes links start room =
    when (leb y.node_count start) NoSuchPlace ∷ when (over_limit y) AtLimit
    ∷ when (ltb nodes y.node_count) (TooShort lent.Nodes) ∷ when (ltb links y.link_count) (TooShort lent.Links)
    ∷ when (ltb room 65536) (TooShort lent.Scratch) ∷ []

abbrev pub asked : Ynd → ℕ → ℕ → ℕ → ℕ → Answer
asked y nodes links start room = decided (indexed_causes y nodes links start room)

-- a refusal leaves the visited list as it was
abbrev pub and_walked : Answer → WalkLeft → List ℕ → WalkLeft
and_walked (Ok _) walked visited = walked
and_walked (Err cause) walked visited = walk_left (Err cause) visited

-- What `walk` answers and leaves, with that one cause more: it comes before 7 at 8, a visited list that is too short,
-- which only the walk can tell. With a scratch that is long enough the call is `walk` (law `as_walk`).
unfoldable pub walk_indexed : Memory → ℕ → List ℕ → ℕ → List ℕ → WalkLeft
walk_indexed m room choices start visited =
    and_walked (asked m.ynd (length m.nodes) (length m.links) start room) (walk_call m choices start visited) visited

-- The scratch after each number's place was stored at the number, places from i up: of equal numbers the first one's
-- place stays. Other entries are as they were.
unfoldable pub first_indexed : List ℕ → ℕ → List ℕ → List ℕ
first_indexed [] i s = s
first_indexed (k ∷ ks) i s = set (first_indexed ks (suc i) s) k i

-- what the call leaves in the scratch: the index of the cell's numbers; a refusal leaves it as it was
abbrev pub index_left : {A : Type 0} → Result A Refusal → Ynd → List NodeEntry → List ℕ → List ℕ
index_left (Ok _) y nodes scratch = first_indexed (map number_of (take y.node_count nodes)) 0 scratch
index_left (Err cause) y nodes scratch = scratch
