-- What the scratch of an indexed walk holds. No public function's contract cites it.
use Rattle.std.specs.Prelude.{ℕ, ◌≤◌, ◌<◌, ◌≡◌, Bool, ◌&&◌, List, eqb, ltb, get_or}
use Rattle.cells.specs.Nodes.{number_at}
use Rattle.cells.specs.declared.node_entry.NodeEntry.{NodeEntry}

-- whether the node at the place, one of n, has the number k
abbrev pub has_number : List NodeEntry → ℕ → ℕ → ℕ → Bool
has_number nodes n place k = ltb place n && eqb (number_at nodes place) k

-- the place to which the scratch leads from that number
abbrev pub led : List NodeEntry → List ℕ → ℕ → ℕ
led nodes scratch j = get_or scratch (number_at nodes j) 0

-- From the number of each node at the places i to n the scratch leads to the first of these that has it: to one that
-- has it, and to none behind the node.
pub record FirstPlaces (nodes : List NodeEntry) (i n : ℕ) (scratch : List ℕ) : Type 0 where
  pub has_it : (j : ℕ) → i ≤ j → j < n → number_at nodes (led nodes scratch j) ≡ number_at nodes j
  pub not_behind : (j : ℕ) → i ≤ j → j < n → led nodes scratch j ≤ j
