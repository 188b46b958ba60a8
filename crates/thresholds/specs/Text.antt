-- T-12: "prints them one a line, eight lower-case hexadecimal digits, entry 0 first". Nothing is said of how an entry
-- is found: line k is that of the least f32 bit pattern whose rounded root is at least k.
use Rattle.std.specs.Prelude.{◌≡◌, ℕ, ◌*◌, ◌<◌, Option, List, length, take, drop}
use Rattle.std.specs.Io.KnownBytes.{Appends}
use Rattle.numbers.specs.ThresholdSearch.{LineOfLeast}

-- nine bytes a line: eight digits and the line's end
pub record ThresholdLines (s : List ℕ) : Type 0 where
  pub long : length s ≡ 2304
  pub lines : (k : ℕ) → k < 256 → LineOfLeast k (take 9 (drop (9 * k) s))

-- behind what was written before stand these lines and nothing else
abbrev pub Printed : Option (List ℕ) → Option (List ℕ) → Type 0
Printed old new = (text : List ℕ) × ThresholdLines text × Appends old new text
