-- Numbers as bytes, the low byte first.
use Rattle.std.specs.Prelude.{ℕ, zero, suc, ◌+◌, ◌-◌, ◌*◌, ◌/◌, ◌%◌, ◌<◌, ◌≡◌, cond, List, [], ◌∷◌, ℤ, pos, negsuc}
use Rattle.std.specs.Prelude.{ltb, get_or}

-- The byte at a place, 0 past the end. By the remainder any list of numbers is a list of bytes.
abbrev pub byte_at : List ℕ → ℕ → ℕ
byte_at s at = get_or s at 0 % 256

-- b has the 40 bytes of s from a place on. No public function's contract cites this.
abbrev pub Window : List ℕ → ℕ → List ℕ → Type 0
Window s at b = (k : ℕ) → k < 40 → byte_at b k ≡ byte_at s (at + k)

-- Stored numbers are little-endian: the number in so many bytes from a place on.
unfoldable pub number_at : ℕ → List ℕ → ℕ → ℕ
number_at zero s at = 0
number_at (suc width) s at = byte_at s at + 256 * number_at width s (at + 1)

abbrev pub le16 : List ℕ → ℕ → ℕ
le16 s at = number_at 2 s at

abbrev pub le32 : List ℕ → ℕ → ℕ
le32 s at = number_at 4 s at

abbrev pub le64 : List ℕ → ℕ → ℕ
le64 s at = number_at 8 s at

-- So many bytes of a number.
unfoldable pub number_bytes : ℕ → ℕ → List ℕ
number_bytes zero n = []
number_bytes (suc width) n = n % 256 ∷ number_bytes width (n / 256)

abbrev pub bytes8 : ℕ → List ℕ
bytes8 n = number_bytes 1 n

abbrev pub bytes16 : ℕ → List ℕ
bytes16 n = number_bytes 2 n

abbrev pub bytes32 : ℕ → List ℕ
bytes32 n = number_bytes 4 n

abbrev pub bytes64 : ℕ → List ℕ
bytes64 n = number_bytes 8 n

-- An i16 is stored as 16 bits, by two's complement.
unfoldable pub signed16 : ℕ → ℤ
signed16 n = cond (ltb n 32768) (pos n) (negsuc (65535 - n))

unfoldable pub bits16 : ℤ → ℕ
bits16 (pos n) = n
bits16 (negsuc n) = 65535 - n
