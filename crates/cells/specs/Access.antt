-- Section 4, accessors: the fields that lie in the bits of a byte.
use Rattle.std.specs.Prelude.{ℕ, ◌+◌, ◌*◌, ◌/◌, ◌%◌, ◌^◌, Bool, cond, eqb}

-- the field of `width` bits from bit `low` on
unfoldable pub field_of : ℕ → ℕ → ℕ → ℕ
field_of low width f = f / 2 ^ low % 2 ^ width

-- the byte with v's low bits as that field; its other bits stay
unfoldable pub with_field : ℕ → ℕ → ℕ → ℕ → ℕ
with_field low width f v = f % 2 ^ low + v % 2 ^ width * 2 ^ low + f / 2 ^ (low + width) * 2 ^ (low + width)

abbrev pub has_bit : ℕ → ℕ → Bool
has_bit k f = eqb (field_of k 1 f) 1

abbrev pub with_bit : ℕ → ℕ → Bool → ℕ
with_bit k f on = with_field k 1 f (cond on 1 0)
