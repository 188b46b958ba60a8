-- What holds while the search goes on, and what its steps leave. No public function's contract cites these.
use Rattle.std.specs.Prelude.{ℕ, ◌+◌, ◌*◌, ◌<◌, ◌≤◌, ◌≡◌, List, ◌⊎◌, length, get_or}
use Rattle.cells.specs.Cell.{Node}
use Rattle.cells.specs.Nodes.{no_entry, no_link}
use Rattle.cells.specs.declared.ynd.Ynd.{Ynd}
use Rattle.walks.specs.Walk.{Next, to, stop, next}
use Rattle.paths.specs.ShortestPath.{length_at}
use Rattle.paths.specs.Labels.{unlabelled, weight, total, Labelled}
use Rattle.paths.specs.Scratch.{label_at, from_at, by_at, index_at, chain_at, Kept}
use Rattle.paths.specs.declared.search.Edge.{Edge}
use Rattle.std.specs.Prelude.{Option, Some, None}
use Rattle.cells.specs.declared.node_entry.NodeEntry.{NodeEntry}
use Rattle.cells.specs.declared.link.PathLink.{PathLink}

-- every count of links has 8 bits, and every length
abbrev pub ShortCounts : List NodeEntry → Type 0
ShortCounts nodes = (i : ℕ) → i < length nodes → (get_or nodes i no_entry).link_count < 256

abbrev pub ShortLinks : List PathLink → Type 0
ShortLinks links = (i : ℕ) → i < length links → (get_or links i no_link).length < 256

-- a cell of at most 65,536 nodes, whose lists are as long as their counts
pub record Lent (y : Ynd) (nodes : List NodeEntry) (links : List PathLink) : Type 0 where
  pub few : y.node_count ≤ 65536
  pub nodes_fit : y.node_count ≤ length nodes
  pub links_fit : y.link_count ≤ length links
  pub counts : ShortCounts nodes
  pub short : ShortLinks links

abbrev pub edge_by : ℕ → Next ℕ → Option Edge
edge_by len (to q) = Some (record { to = q; length = len })
edge_by len (stop e) = None

-- where a choice leads, and the length of its link
unfoldable pub edge_of : List Node → ℕ → ℕ → Option Edge
edge_of ns p b = edge_by (length_at ns p b) (next ns p b)

-- the place v was given the label k and waits; nothing else changed but the order
pub record Taken (n size v k u b new : ℕ) (s t : List ℕ) : Type 0 where
  pub kept : Kept n t
  pub label : label_at t v ≡ k
  pub from : from_at t v ≡ u
  pub by : by_at t v ≡ b
  pub other_label : (x : ℕ) → x < n → (x ≡ v → ⊥) → label_at t x ≡ label_at s x
  pub other_from : (x : ℕ) → x < n → (x ≡ v → ⊥) → from_at t x ≡ from_at s x
  pub other_by : (x : ℕ) → x < n → (x ≡ v → ⊥) → by_at t x ≡ by_at s x
  pub same_chains : chain_at t ≡ chain_at s
  pub fits : new ≤ n
  pub waits : index_at t v < new
  pub still : (x : ℕ) → x < n → index_at s x < size → index_at t x < new
  pub only : (x : ℕ) → x < n → index_at t x < new → (x ≡ v) ⊎ (index_at s x < size)

-- the label k, by the choice b from u, was offered to v: taken if it is smaller
pub data Offered (n size v k u b new : ℕ) (s t : List ℕ) : Type 0 where
  passed : label_at s v ≤ k → new ≡ size → t ≡ s → Offered n size v k u b new s t
  taken : k < label_at s v → Taken n size v k u b new s t → Offered n size v k u b new s t

-- The search from `start` with `size` places waiting. Of a place that does not wait no link improves a label, but for
-- u's links from the i-th on; where u is no place, for none. Nothing is said of the order in which places are taken
-- up.
pub record Searching (ns : List Node) (start n : ℕ) (s : List ℕ) (size u i : ℕ) : Type 0 where
  pub kept : Kept n s
  pub fits : size ≤ n
  pub labels : Labelled ns start n (label_at s) (from_at s) (by_at s)
  pub waiting : (x : ℕ) → x < n → index_at s x < size → label_at s x < unlabelled
  pub settled : (x b v : ℕ) → x < n → size ≤ index_at s x → (x ≡ u → b < i) → next ns x b ≡ to v
      → label_at s v ≤ label_at s x + weight ns x b

-- what is left to do: it falls with each place that is taken up
unfoldable pub work : ℕ → List ℕ → ℕ → ℕ
work n s size = total (label_at s) n * 65537 + size
