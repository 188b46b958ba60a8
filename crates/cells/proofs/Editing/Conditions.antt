-- What an edit's law asks of the ranges in memory that may be any. Every cell that calls can make has it: drawn
-- `edit_means` is each edit's sentence with nothing asked.
use Rattle.std.specs.Prelude.{ℕ, ◌+◌, ◌≤◌, ◌<◌, ◌≡◌, ◌⊎◌, List, get_or}
use Rattle.cells.specs.Nodes.{no_entry, no_map, value_count}
use Rattle.cells.specs.Edit.{held_in}
use Rattle.cells.specs.declared.node_entry.NodeEntry.{NodeEntry}
use Rattle.cells.specs.declared.junction_entry.JunctionEntry.{JunctionEntry}

-- of n junctions and h values: the ranges of junctions that have values are inside
pub record Inside (n h : ℕ) (junctions : List JunctionEntry) : Type 0 where
  pub inside : (q : ℕ) → q < n → 0 < value_count (get_or junctions q no_map)
      → (get_or junctions q no_map).heightmap_ptr + value_count (get_or junctions q no_map) ≤ h

-- of n ranges, none but that of p has the entry i
pub record Alone {A : Type 0} (z : A) (start count : A → ℕ) (n i p : ℕ) (owners : List A) : Type 0 where
  pub alone : (q : ℕ) → q < n → (q ≡ p → ⊥)
      → (start (get_or owners q z) + count (get_or owners q z) ≤ i) ⊎ (i < start (get_or owners q z))

-- of a range of l entries: how many are there
abbrev pub held : {A : Type 0} → (A → ℕ) → (A → ℕ) → ℕ → A → ℕ
held start count l w = held_in (record { start = start w; count = count w }) l

-- of n owners and l entries: the ranges of the others that have entries are inside, and apart from what the owner at p
-- holds, if it holds any
pub record Beside {A : Type 0} (z : A) (start count : A → ℕ) (n l p : ℕ) (owners : List A) : Type 0 where
  pub inside : (q : ℕ) → q < n → (q ≡ p → ⊥) → 0 < count (get_or owners q z)
      → start (get_or owners q z) + count (get_or owners q z) ≤ l
  pub apart : (q : ℕ) → q < n → (q ≡ p → ⊥) → 0 < count (get_or owners q z)
      → 0 < held start count l (get_or owners p z)
      → (start (get_or owners q z) + count (get_or owners q z) ≤ start (get_or owners p z))
      ⊎ (start (get_or owners p z) + held start count l (get_or owners p z) ≤ start (get_or owners q z))

-- where a node's links start, and how many it has; the same of a junction's values
abbrev pub link_start : NodeEntry → ℕ
link_start n = n.link_id

abbrev pub link_count : NodeEntry → ℕ
link_count n = n.link_count

abbrev pub value_start : JunctionEntry → ℕ
value_start j = j.heightmap_ptr

-- of n nodes and l links, for the node at p
abbrev pub Apart : ℕ → ℕ → ℕ → List NodeEntry → Type 0
Apart = Beside no_entry link_start link_count
