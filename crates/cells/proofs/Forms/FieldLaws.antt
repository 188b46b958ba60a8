-- A field of a byte that was set is read back, the other bits stay, and the byte stays a byte.
-- Assumes nothing.
use Prim.Native.Nat.{ℕ, ◌+◌, ◌-◌, ◌*◌, ◌/◌, ◌%◌, ◌^◌, ◌<◌, ◌≤◌}
use native.Mathlib.Omega.{arith}
use native.Mathlib.Nat.{mod-lt, mul-le-mul_right}
use mathlib.Core.Path.{◌≡◌, ap, sym, subst, ◌∙◌}
use lib.Pow.{pow_pos, pow-add, shr_lt, high, low}
use Rattle.cells.specs.Access.{field_of, with_field}

pub field_below : (at width f : ℕ) → field_of at width f < 2 ^ width
unfolding field_of
field_below at width f = mod-lt (f / 2 ^ at) (pow_pos width)

-- v's low bits above those of f
low_part : (at width f v : ℕ) → v % 2 ^ width * 2 ^ at + f % 2 ^ at < 2 ^ (at + width)
low_part at width f v =
    omega (arith, mod-lt f (pow_pos at), mul-le-mul_right (2 ^ at) (mod-lt v (pow_pos width)), pow-add 2 at width)

-- a byte has at + width + more bits
pub with_below : (at width more f v : ℕ) → f < 2 ^ (more + (at + width)) → with_field at width f v
    < 2 ^ (more + (at + width))
unfolding with_field
with_below at width more f v h =
    omega (
      arith,
      low_part at width f v,
      mul-le-mul_right (2 ^ (at + width)) (shr_lt more (at + width) h),
      pow-add 2
          more (at + width),
    )

byte : (at width f v : ℕ) → at + width ≤ 8 → f < 256 → with_field at width f v < 256
byte at width f v h l =
    let e : 8 - (at + width) + (at + width) ≡ 8 = omega arith in
    subst (λ (k : ℕ). with_field at width f v < 2 ^ k) e
    (with_below at width (8 - (at + width)) f v (subst (λ (k : ℕ). f < 2 ^ k) (sym e) l))

-- as the code computes it
pub byte_fits : (at width f v unit size above : ℕ) → unit ≡ 2 ^ at → size ≡ 2 ^ width → above ≡ 2 ^ (at + width)
    → at + width ≤ 8 → f < 256
    → f % unit + v % size * unit + f / above * above < 256
unfolding with_field
byte_fits at width f v unit size above u s a h l = rw (u, s, a) (byte at width f v h l)

sum : (at width f v : ℕ) → with_field at width f v ≡ f / 2 ^ (at + width) * 2 ^ (at + width)
    + (v % 2 ^ width * 2 ^ at + f % 2 ^ at)
unfolding with_field
sum at width f v = omega arith

sum_at : (at width f v : ℕ) → with_field at width f v ≡ (f / 2 ^ (at + width) * 2 ^ width + v % 2 ^ width) * 2 ^ at
    + f % 2 ^ at
unfolding with_field
sum_at at width f v =
    ap (λ (x : ℕ). f % 2 ^ at + v % 2 ^ width * 2 ^ at + f / 2 ^ (at + width) * x) (pow-add 2 at width) ∙ omega arith

-- what is set is read back
pub field_set : (at width f v : ℕ) → field_of at width (with_field at width f v) ≡ v % 2 ^ width
unfolding field_of
field_set at width f v =
    ap (λ (x : ℕ). x / 2 ^ at % 2 ^ width) (sum_at at width f v)
    ∙ ap (λ (x : ℕ). x % 2 ^ width) (high (f / 2 ^ (at + width) * 2 ^ width + v % 2 ^ width) at
    (mod-lt f (pow_pos at)))
    ∙ low (f / 2 ^ (at + width)) width (mod-lt v (pow_pos width))

-- the bits below and above stay
pub below_kept : (at width f v : ℕ) → with_field at width f v % 2 ^ at ≡ f % 2 ^ at
below_kept at width f v =
    ap (λ (x : ℕ). x % 2 ^ at) (sum_at at width f v)
    ∙ low (f / 2 ^ (at + width) * 2 ^ width + v % 2 ^ width) at (mod-lt f (pow_pos at))

pub above_kept : (at width f v : ℕ) → with_field at width f v / 2 ^ (at + width) ≡ f / 2 ^ (at + width)
above_kept at width f v =
    ap (λ (x : ℕ). x / 2 ^ (at + width)) (sum at width f v)
    ∙ high (f / 2 ^ (at + width)) (at + width) (low_part at width f v)
