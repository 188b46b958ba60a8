-- Ranges of a list: n of them, each from its start on, so many entries, in a list of l. Starts and counts go by the
-- range's place.
use Rattle.std.specs.Prelude.{ℕ, ◌+◌, ◌≤◌, ◌<◌, ◌≡◌, ◌⊎◌}

pub record Separate (start count : ℕ → ℕ) (n l : ℕ) : Type 0 where
  -- every start is a number of 32 bits
  pub word : (q : ℕ) → q < n → start q < 4294967296
  -- every range that has entries lies inside the list
  pub inside : (q : ℕ) → q < n → 0 < count q → start q + count q ≤ l
  -- no two ranges have an entry in common
  pub apart : (p q : ℕ) → p < n → q < n → (p ≡ q → ⊥) → 0 < count p → 0 < count q
      → (start p + count p ≤ start q) ⊎ (start q + count q ≤ start p)
