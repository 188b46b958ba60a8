-- Writing a record and reading it gives the record, stated once: a record kind is a list of field widths.
use Prim.Native.Nat.{ℕ, zero, suc, ◌+◌, ◌^◌, ◌<◌}
use native.Mathlib.Omega.{arith}
use native.Mathlib.Nat.{add-zero}
use mathlib.Core.Path.{◌≡◌, refl, sym, ◌∙◌}
use mathlib.Core.List.{List, [], ◌∷◌, ◌++◌}
use lib.ListN.{length}
use Rattle.records.specs.Bytes.{byte_at, number_at, number_bytes}
use Rattle.records.proofs.LittleEndian.{Stands, stands_first, stands_next, bytes_length, number_back}

-- the values' bytes, one field behind the other
unfoldable pub field_bytes : List ℕ → List ℕ → List ℕ
field_bytes [] vs = []
field_bytes (w ∷ ws) [] = []
field_bytes (w ∷ ws) (v ∷ vs) = number_bytes w v ++ field_bytes ws vs

-- the place k behind `at`, and a number of so many bytes there, as the readers' definitions write them
abbrev pub placed : ℕ → ℕ → ℕ
placed at zero = at
placed at (suc k) = at + suc k

abbrev pub value_at : ℕ → List ℕ → ℕ → ℕ
value_at zero s at = 0
value_at (suc zero) s at = byte_at s at
value_at (suc (suc w)) s at = number_at (suc (suc w)) s at

-- the values of the fields from the place k behind `at` on
unfoldable pub fields_at : List ℕ → List ℕ → ℕ → ℕ → List ℕ
fields_at [] s at k = []
fields_at (w ∷ ws) s at k = value_at w s (placed at k) ∷ fields_at ws s at (k + w)

-- each value fits its width
pub data Fit : List ℕ → List ℕ → Type 0 where
  none : Fit [] []
  field : {w v : ℕ} {ws vs : List ℕ} → v < 256 ^ w → Fit ws vs → Fit (w ∷ ws) (v ∷ vs)

pub placed_is : (at k : ℕ) → placed at k ≡ at + k
placed_is at zero = sym (add-zero at)
placed_is at (suc k) = refl

value_is : (w : ℕ) (s : List ℕ) (at : ℕ) → value_at w s at ≡ number_at w s at
unfolding number_at
value_is zero s at = refl
value_is (suc zero) s at = omega arith
value_is (suc (suc w)) s at = refl

pub fields_back : {ws vs : List ℕ} (s : List ℕ) (at k : ℕ) → Fit ws vs → Stands s (placed at k) (field_bytes ws vs)
    → fields_at ws s at k ≡ vs
unfolding field_bytes fields_at
fields_back s at k none h = refl
fields_back s at k (field {w} {v} {ws} {vs} small fit) h =
    let first : value_at w s (placed at k) ≡ v
    = value_is w s (placed at k) ∙ number_back w v s (placed at k) small
    (stands_first s (placed at k) (number_bytes w v) (field_bytes ws vs) h) in
    let next : placed at k + length (number_bytes w v)
    ≡ placed at (k + w) = omega (arith, bytes_length w v, placed_is at k, placed_is at (k + w)) in
    let behind : Stands s (placed at (k + w)) (field_bytes ws vs) = rw next at
    (stands_next s (placed at k) (number_bytes w v) (field_bytes ws vs) h) in
    λ i. first i ∷ fields_back s at (k + w) fit behind i
