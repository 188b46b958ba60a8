-- What the search keeps in the lent scratch: four entries for each place, two halves or a number and a byte in each;
-- Index has the fourth one. No public function's contract cites these.
use Rattle.std.specs.Prelude.{ℕ, ◌+◌, ◌*◌, ◌/◌, ◌%◌, ◌-◌, ◌<◌, ◌≤◌, ◌≡◌, List, ◌⊎◌, length, get_or, set}
use Rattle.paths.specs.Labels.{unlabelled, Back}

-- the first and second entries: a place's label, that is its sum (24 bits) and its number of links (16 bits)
unfoldable pub label_at : List ℕ → ℕ → ℕ
label_at s v = get_or s (4 * v) 0 / 256 * 4294967296 + get_or s (4 * v + 1) 0 / 65536

-- the choice and the place that it came by
unfoldable pub by_at : List ℕ → ℕ → ℕ
by_at s v = get_or s (4 * v) 0 % 256

unfoldable pub from_at : List ℕ → ℕ → ℕ
from_at s v = get_or s (4 * v + 1) 0 % 65536

-- The third entries: all places in some order, those that wait first; and where each place stands in that order.
unfoldable pub place_at : List ℕ → ℕ → ℕ
place_at s i = get_or s (4 * i + 2) 0 % 65536

unfoldable pub index_at : List ℕ → ℕ → ℕ
index_at s v = get_or s (4 * v + 2) 0 / 65536

-- the fourth entry of a place
unfoldable pub chain_at : List ℕ → ℕ → ℕ
chain_at s v = get_or s (4 * v + 3) 0

-- the place v at i of the order
unfoldable pub placed : List ℕ → ℕ → ℕ → List ℕ
placed s i v = set s (4 * i + 2) (get_or s (4 * i + 2) 0 / 65536 * 65536 + v)

unfoldable pub indexed : List ℕ → ℕ → ℕ → List ℕ
indexed s v i = set s (4 * v + 2) (get_or s (4 * v + 2) 0 % 65536 + i * 65536)

unfoldable pub stood : List ℕ → ℕ → ℕ → List ℕ
stood s i v = indexed (placed s i v) v i

-- the place v with the label k, by the choice b from u
unfoldable pub labelled : List ℕ → ℕ → ℕ → ℕ → ℕ → List ℕ
labelled s v k u b = set (set s (4 * v) (k / 4294967296 * 256 + b)) (4 * v + 1) (k % 4294967296 * 65536 + u)

-- the place v without a label, at v of the order
unfoldable pub cleared_at : List ℕ → ℕ → List ℕ
cleared_at s v = set (set (set s (4 * v) 4294967295) (4 * v + 1) 0) (4 * v + 2) (v * 65537)

-- a label that fits its entries
pub record Fits (k : ℕ) : Type 0 where
  pub sum : k / 4294967296 < 16777216
  pub steps : k % 4294967296 < 65536

-- each of n places stands once in the order
pub record Order (n : ℕ) (place index : ℕ → ℕ) : Type 0 where
  pub place_in : (i : ℕ) → i < n → place i < n
  pub index_in : (v : ℕ) → v < n → index v < n
  pub index_place : (i : ℕ) → i < n → index (place i) ≡ i
  pub place_index : (v : ℕ) → v < n → place (index v) ≡ v

-- room for n places, and their order
pub record Kept (n : ℕ) (s : List ℕ) : Type 0 where
  pub few : n ≤ 65536
  pub room : 4 * n ≤ length s
  pub order : Order n (place_at s) (index_at s)

-- nothing but the order changed
pub record SameLabels (n : ℕ) (s t : List ℕ) : Type 0 where
  pub same_label : (v : ℕ) → v < n → label_at t v ≡ label_at s v
  pub same_from : (v : ℕ) → v < n → from_at t v ≡ from_at s v
  pub same_by : (v : ℕ) → v < n → by_at t v ≡ by_at s v
  pub same_chains : chain_at t ≡ chain_at s

-- the places at i and j have changed places in the order
pub record Swapped (n i j : ℕ) (s t : List ℕ) : Type 0 where
  pub kept : Kept n t
  pub same : SameLabels n s t
  pub from_i : (v : ℕ) → v < n → index_at s v ≡ i → index_at t v ≡ j
  pub from_j : (v : ℕ) → v < n → index_at s v ≡ j → index_at t v ≡ i
  pub other : (v : ℕ) → v < n → (index_at s v ≡ i → ⊥) → (index_at s v ≡ j → ⊥) → index_at t v ≡ index_at s v

-- the first `size` of the order are the same places, in some order
pub record Sifted (n size : ℕ) (s t : List ℕ) : Type 0 where
  pub kept : Kept n t
  pub same : SameLabels n s t
  pub still : (v : ℕ) → v < n → index_at s v < size → index_at t v < size
  pub only : (v : ℕ) → v < n → index_at t v < size → index_at s v < size

-- the place v has the label k, by the choice b from u; nothing else changed
pub record Put (n v k u b : ℕ) (s t : List ℕ) : Type 0 where
  pub kept : Kept n t
  pub label : label_at t v ≡ k
  pub from : from_at t v ≡ u
  pub by : by_at t v ≡ b
  pub other_label : (x : ℕ) → x < n → (x ≡ v → ⊥) → label_at t x ≡ label_at s x
  pub other_from : (x : ℕ) → x < n → (x ≡ v → ⊥) → from_at t x ≡ from_at s x
  pub other_by : (x : ℕ) → x < n → (x ≡ v → ⊥) → by_at t x ≡ by_at s x
  pub same_index : (x : ℕ) → x < n → index_at t x ≡ index_at s x
  pub same_chains : chain_at t ≡ chain_at s

-- A label and the places that it came by lead back to the start in `count` links: of n places, each with a label.
pub record Traced (s : List ℕ) (goal count : ℕ) : Type 0 where
  pub n : ℕ
  pub few : n ≤ 65536
  pub room : 4 * n ≤ length s
  pub back : Back n (label_at s) (from_at s) (by_at s)
  pub inside : goal < n
  pub labelled : label_at s goal < unlabelled
  pub left : label_at s goal % 4294967296 ≡ count

-- no place has a label
pub record Cleared (n : ℕ) (s : List ℕ) : Type 0 where
  pub kept : Kept n s
  pub none : (v : ℕ) → v < n → label_at s v ≡ unlabelled

-- the place v waits too, among the first `new` of the order
pub record Pushed (n size v new : ℕ) (s t : List ℕ) : Type 0 where
  pub kept : Kept n t
  pub same : SameLabels n s t
  pub fits : new ≤ n
  pub waits : index_at t v < new
  pub still : (x : ℕ) → x < n → index_at s x < size → index_at t x < new
  pub only : (x : ℕ) → x < n → index_at t x < new → (x ≡ v) ⊎ (index_at s x < size)

-- the place u waited, and does so no longer
pub record Popped (n size u : ℕ) (s t : List ℕ) : Type 0 where
  pub inside : u < n
  pub waited : index_at s u < size
  pub kept : Kept n t
  pub same : SameLabels n s t
  pub still : (x : ℕ) → x < n → (x ≡ u → ⊥) → index_at s x < size → index_at t x < size - 1
  pub only : (x : ℕ) → x < n → index_at t x < size - 1 → index_at s x < size
