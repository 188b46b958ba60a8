-- T-06: the call `shortest_path`.
use Rattle.std.specs.Prelude.{ℕ, ◌*◌, ◌<◌, ◌≤◌, ◌≡◌, List, [], ◌∷◌, ◌⊎◌, leb, ltb, length}
use Rattle.numbers.specs.Refusals.{Cause, Answer, done, when, decided}
use Rattle.cells.specs.Cell.{Node}
use Rattle.cells.specs.Memory.{Memory, over_limit}
use Rattle.cells.specs.CellOf.{nodes_of}
use Rattle.cells.specs.declared.ynd.Ynd.{Ynd}
use Rattle.walks.specs.WalkCall.{route}
use Rattle.walks.specs.WalkParts.{over}
use Rattle.paths.specs.ShortestPath.{distance, Leads, Unreachable, ShortestPath}
use Rattle.paths.specs.declared.path.Shortest.{Shortest}
use Rattle.std.specs.Prelude.{Result, Ok, Err}
use Rattle.numbers.specs.declared.refusal.Refusal.{Refusal}
use Rattle.numbers.specs.declared.refusal.Refusal.TheVariants.{TooShort, NoSuchPlace, AtLimit, NoPath}
use Rattle.numbers.specs.declared.refusal.Lent.TheVariants as lent

-- T-06: the scratch's entries for each node
abbrev pub per_node : ℕ
per_node = 4

-- What is asked before the search, of a cell in lists of so many nodes and links, in this order: 13 for either place;
-- 14 a struct over a limit; 7 at 0 and 1 a list shorter than its count; 7 at 9 a scratch of fewer entries than
-- stated.
unfoldable pub path_causes : Ynd → ℕ → ℕ → ℕ → ℕ → ℕ → List Cause
path_causes y nodes links p q room =
    when (leb y.node_count p) NoSuchPlace ∷ when (leb y.node_count q) NoSuchPlace ∷ when (over_limit y) AtLimit
    ∷ when (ltb nodes y.node_count) (TooShort lent.Nodes) ∷ when (ltb links y.link_count) (TooShort lent.Links)
    ∷ when (ltb room (per_node * y.node_count)) (TooShort lent.PathScratch) ∷ []

abbrev pub asked : Memory → ℕ → ℕ → List ℕ → Answer
asked m p q scratch = decided (path_causes m.ynd (length m.nodes) (length m.links) p q (length scratch))

-- What the search from p to q answers, among n nodes, and the lists of choices and places after it.
pub data Searched (ns : List Node) (n p q : ℕ) (choices places : List ℕ)
    : Result Shortest Refusal → List ℕ → List ℕ → Type 0 where
  -- 17: no walk joins the two places
  unreachable : Unreachable ns p q → Searched ns n p q choices places (Err NoPath) choices places
  -- 7 at 8: a walk joins them, and choices or places have fewer entries than the cell has nodes
  short : (bs : List ℕ) → Leads ns p q bs → (length choices < n) ⊎ (length places < n)
      → Searched ns n p q choices places (Err (TooShort lent.List)) choices places
  -- A shortest path: its sum and its number of links, fewer than there are nodes. Its choices and places are the
  -- first entries, later ones stay.
  path : n ≤ length choices → n ≤ length places → (bs : List ℕ) → length bs < n → ShortestPath ns p q bs
      → Searched ns n p q choices places (Ok (record { distance = distance ns bs p; links = length bs }))
      (over bs choices) (over (route ns bs p).places places)

-- What the call answers, and the three lists after it.
pub data PathLeft (m : Memory) (p q : ℕ) (scratch choices places : List ℕ)
    : Result Shortest Refusal → List ℕ → List ℕ → List ℕ → Type 0 where
  -- refused before the search: nothing is changed
  refused : {cause : Refusal} → asked m p q scratch ≡ Err cause
      → PathLeft m p q scratch choices places (Err cause) scratch choices places
  -- the scratch was long enough: from here on it may hold anything
  searched : {a : Result Shortest Refusal} {s c t : List ℕ} → asked m p q scratch ≡ done
      → Searched (nodes_of m) m.ynd.node_count p q choices places a c t
      → PathLeft m p q scratch choices places a s c t
