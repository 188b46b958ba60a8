-- What the search goes by. A label is one number: the sum of a walk's lengths times 2 ^ 32, and the number of its
-- links. No public function's contract cites these.
use Rattle.std.specs.Prelude.{ℕ, zero, suc, ◌+◌, ◌*◌, ◌/◌, ◌%◌, ◌<◌, ◌≤◌, ◌≡◌, List, [], ◌∷◌, ◌++◌, ltb}
use Rattle.cells.specs.Cell.{Node}
use Rattle.cells.specs.Order.{one_if}
use Rattle.walks.specs.Walk.{to, next}
use Rattle.paths.specs.ShortestPath.{length_at}

-- the label of no walk: greater than every other
abbrev pub unlabelled : ℕ
unlabelled = 72057589742960640

-- what a link adds to a label
unfoldable pub weight : List Node → ℕ → ℕ → ℕ
weight ns p b = length_at ns p b * 4294967296 + 1

-- how many of the first n places have a label below k
unfoldable pub lower : (ℕ → ℕ) → ℕ → ℕ → ℕ
lower d k zero = 0
lower d k (suc n) = one_if (ltb (d n) k) (lower d k n)

-- the labels of the first n places, added up
unfoldable pub total : (ℕ → ℕ) → ℕ → ℕ
total d zero = 0
total d (suc n) = d n + total d n

-- the label of v comes by the choice b from u, whose label is smaller by that link at least
pub record Remembered (ns : List Node) (n : ℕ) (d : ℕ → ℕ) (u b v : ℕ) : Type 0 where
  pub inside : u < n
  pub link : next ns u b ≡ to v
  pub after : d u + weight ns u b ≤ d v

-- Labels d of the first n places, with the place `from` and the choice `by` that each came by.
pub record Labelled (ns : List Node) (start n : ℕ) (d from by : ℕ → ℕ) : Type 0 where
  pub begins : start < n
  pub none_before : d start ≡ 0
  pub most : (v : ℕ) → v < n → d v ≤ unlabelled
  pub remembered : (v : ℕ) → v < n → d v < unlabelled → (v ≡ start → ⊥) → Remembered ns n d (from v) (by v) v
  -- a label's two parts are bounded by how many labels are below it: so they fit, however the places were taken up
  pub sums : (v : ℕ) → v < n → d v < unlabelled → d v / 4294967296 ≤ 255 * lower d (d v) n
  pub steps : (v : ℕ) → v < n → d v < unlabelled → d v % 4294967296 ≤ lower d (d v) n

-- no link improves a label
abbrev pub Closed : List Node → ℕ → (ℕ → ℕ) → Type 0
Closed ns n d = (u b v : ℕ) → u < n → next ns u b ≡ to v → d v ≤ d u + weight ns u b

-- a cell's links: lengths are bytes, and a link leads to a place of the cell
pub record Links (ns : List Node) (n : ℕ) : Type 0 where
  pub few : n ≤ 65536
  pub short : (p b : ℕ) → p < n → length_at ns p b ≤ 255
  pub lead_in : (p b q : ℕ) → next ns p b ≡ to q → q < n

-- ---- the path that is remembered: the choices and the places, k links back from v

unfoldable pub choices_to : (ℕ → ℕ) → (ℕ → ℕ) → ℕ → ℕ → List ℕ
choices_to from by zero v = []
choices_to from by (suc k) v = choices_to from by k (from v) ++ (by v ∷ [])

unfoldable pub places_to : (ℕ → ℕ) → ℕ → ℕ → List ℕ
places_to from zero v = v ∷ []
places_to from (suc k) v = places_to from k (from v) ++ (v ∷ [])

-- from a place whose label has a link, one link back: a place whose label has one link less; the choice is a byte
abbrev pub Back : ℕ → (ℕ → ℕ) → (ℕ → ℕ) → (ℕ → ℕ) → Type 0
Back n d from by =
    (v k : ℕ) → v < n → d v < unlabelled → d v % 4294967296 ≡ suc k
    → (from v < n) × (d (from v) < unlabelled) × (d (from v) % 4294967296 ≡ k) × (by v < 256)
