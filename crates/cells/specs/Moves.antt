-- What the steps of moving nodes in place require of each other. No public function's contract cites this.
use Rattle.std.specs.Prelude.{ℕ, ◌<◌, ◌≡◌, List, get_or, set}

-- places for n entries: each below n, and no two the same
pub record Places (n : ℕ) (s : List ℕ) : Type 0 where
  pub within : (i : ℕ) → i < n → get_or s i 0 < n
  pub apart : (i j : ℕ) → i < n → j < n → get_or s i 0 ≡ get_or s j 0 → i ≡ j

-- two elements exchanged
abbrev pub swapped : {A : Type 0} → A → List A → ℕ → ℕ → List A
swapped d l i j = set (set l i (get_or l j d)) j (get_or l i d)
