-- T-14: two pairs of system and graphics sections that agree on the bytes that count.
use Rattle.cells.specs.FileCauses.{Arrays, arrays_of}
use Rattle.std.specs.Prelude.{ℕ, ◌+◌, ◌*◌, ◌/◌, ◌≤◌, ◌<◌, ◌≡◌, Bool, false, ◌&&◌, ◌||◌, List, leb, eqb, length}
use Rattle.records.specs.Bytes.{byte_at}
use Rattle.records.specs.Records.{node_at, junction_at}
use Rattle.cells.specs.Checks.{links_at, values_at}

-- ---- the root

-- "apart from offsets 4 to 15, 88 and 89"
abbrev pub left_out : ℕ → Bool
left_out k = (leb 4 k && leb k 15) || (eqb k 88 || eqb k 89)

-- ---- the arrays

-- "in some node's range": link k, of a node of the array n
pub record InSomeNode (n : List ℕ) (k : ℕ) : Type 0 where
  pub node : ℕ
  pub is_node : node < length n / 40
  pub from : (node_at n (node * 40)).link_id ≤ k
  pub before : k < (node_at n (node * 40)).link_id + links_at n node

-- "in some junction's": heightmap byte k, of a junction of the array j
pub record InSomeJunction (j : List ℕ) (k : ℕ) : Type 0 where
  pub junction : ℕ
  pub is_junction : junction < length j / 12
  pub from : (junction_at j (junction * 12)).heightmap_ptr ≤ k
  pub before : k < (junction_at j (junction * 12)).heightmap_ptr + values_at j junction

-- "on each array that lies inside its section. Of links only those in some node's range need agree, of heightmap
-- bytes only those in some junction's." Byte k of the links is one of link k / 8.
pub record SameArrays (a b : Arrays) : Type 0 where
  pub nodes : (k : ℕ) → k < length a.nodes → byte_at a.nodes k ≡ byte_at b.nodes k
  pub links : (k : ℕ) → k < length a.links → InSomeNode a.nodes (k / 8) → byte_at a.links k ≡ byte_at b.links k
  pub junctions : (k : ℕ) → k < length a.junctions → byte_at a.junctions k ≡ byte_at b.junctions k
  pub heights : (k : ℕ) → k < length a.heights → InSomeJunction a.junctions k
      → byte_at a.heights k ≡ byte_at b.heights k
  pub refs : (k : ℕ) → k < length a.refs → byte_at a.refs k ≡ byte_at b.refs k

-- ---- both

pub record Agree (s g s' g' : List ℕ) : Type 0 where
  -- "two pairs of system and graphics sections with equal lengths, the system section not empty"
  pub same_system : length s ≡ length s'
  pub same_graphics : length g ≡ length g'
  pub not_empty : 0 < length s
  -- "they agree on the root"; in a system section of under 112 bytes, on what is there of it
  pub same_root : (k : ℕ) → k < 112 → k < length s → left_out k ≡ false → byte_at s k ≡ byte_at s' k
  -- "and on each array"; a system section of under 112 bytes has no root that could name one
  pub same_arrays : 112 ≤ length s → SameArrays (arrays_of s g) (arrays_of s' g')
