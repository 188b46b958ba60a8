-- The fields are those that Rust takes out of a byte, and puts into it, by `&`, `|`, `!` and shifts.
-- A byte has `at + width + more` bits; `!mask` is 2 ^ (at + width + more) - 1 - mask.
-- Assumes nothing.
use Prim.Native.Nat.{ℕ, zero, suc, ◌+◌, ◌-◌, ◌*◌, ◌/◌, ◌%◌, ◌^◌, ◌<◌, ◌≤◌, max}
use native.Mathlib.Omega.{arith}
use native.Mathlib.Nat.{mod-lt, mul-mod_left, add_comm}
use mathlib.Core.Path.{◌≡◌, sym, ap, ap₂, ◌∙◌, subst}
use mathlib.Core.Bool.{true, false, not}
use lib.Dec.{eqb}
use lib.Bits.{bit_and, bit_or, and_mask, and_high, and_block, or_block, or_step, or_zero_r, or_shifted_r}
use lib.Pow.{pow_pos, pow_mono, pow-add, shl_lt, shl-shr, shr-shr, shr_mod, split, mod-pow-add, mod-mod-pow}
use lib.Pow.{ones_lt, ones_split}
use borrow.Author.Tests.{ne_eqb}
use Rattle.cells.specs.Access.{field_of, with_field, has_bit, with_bit}

-- ---- taking out

-- `(f >> at) & (2 ^ width - 1)`
pub field_bits : (at width f : ℕ) → bit_and (f / 2 ^ at) (2 ^ width - 1) ≡ field_of at width f
unfolding field_of
field_bits at width f = and_mask (f / 2 ^ at) width

-- `f >> at`, where the field is the byte's last
pub top_bits : (at width f : ℕ) → f < 2 ^ (width + at) → f / 2 ^ at ≡ field_of at width f
unfolding field_of
top_bits at width f h = sym (shr_mod width at h)

-- `f & 2 ^ at != 0`
pub bit_bits : (at f : ℕ) → not (eqb (bit_and f (2 ^ at)) 0) ≡ has_bit at f
unfolding field_of
bit_bits at f =
    let e : 2 ^ at ≡ 2 ^ (1 + at) - 2 ^ at = omega (arith, pow-add 2 1 at) in
    ap (λ (x : ℕ). not (eqb (bit_and f x) 0)) e
    ∙ ap (λ (x : ℕ). not (eqb x 0)) (and_high f 1 at)
    ∙ go (f / 2 ^ at % 2) (mod-lt (f / 2 ^ at) (pow_pos 1))
  where
    go : (x : ℕ) → x < 2 → not (eqb (x * 2 ^ at) 0) ≡ eqb x 1
    go zero h = let e : 0 * 2 ^ at ≡ 0 = omega arith in ap (λ (y : ℕ). not (eqb y 0)) e
    go (suc zero) h =
        let e : 1 * 2 ^ at ≡ 2 ^ at = omega arith in
        let n : 2 ^ at ≡ 0 → ⊥ = λ z. omega (arith, pow_pos at) in
        ap (λ (y : ℕ). not (eqb y 0)) e ∙ ap not (ne_eqb (2 ^ at) 0 n)
    go (suc (suc x)) h = absurd (omega arith)

-- ---- putting in

module _ (at width more : ℕ) where
  -- what `!` leaves of the mask
  kept_mask : 2 ^ (more + (at + width)) - 1 - (2 ^ width - 1) * 2 ^ at ≡ (2 ^ more - 1) * 2 ^ (at + width)
      + (2 ^ at - 1)
  kept_mask =
      take_out ((2 ^ more - 1) * 2 ^ (at + width)) ((2 ^ width - 1) * 2 ^ at) (2 ^ at - 1)
      (2 ^ (more + (at + width)) - 1)
      (ones_split more (at + width) ∙ ap (λ (k : ℕ). (2 ^ more - 1) * 2 ^ (at + width) + (2 ^ k - 1))
      (add_comm at width) ∙ ap (λ (x : ℕ). (2 ^ more - 1) * 2 ^ (at + width) + x) (ones_split width at))
    where
      take_out : (x y z n : ℕ) → n ≡ x + (y + z) → n - y ≡ x + z
      take_out x y z n e = omega arith

  kept_bits : (f : ℕ) → f < 2 ^ (more + (at + width))
      → bit_and f (2 ^ (more + (at + width)) - 1 - (2 ^ width - 1) * 2 ^ at)
      ≡ f / 2 ^ (at + width) * 2 ^ (at + width) + f % 2 ^ at
  kept_bits f h =
      let below : 2 ^ at - 1 < 2 ^ (at + width) = omega (
        arith,
        ones_lt at,
        pow_mono
            (let q : at ≤ at + width = omega arith in q),
      ) in
      ap₂ bit_and (sym (split f (at + width))) kept_mask
      ∙ and_block (at + width) (f / 2 ^ (at + width)) (2 ^ more - 1) (f % 2 ^ (at + width)) (2 ^ at - 1)
      (mod-lt f (pow_pos (at + width))) below
      ∙ ap₂ (λ (x y : ℕ). x * 2 ^ (at + width) + y)
      (and_mask (f / 2 ^ (at + width)) more ∙ shr_mod more (at + width) h)
      (and_mask (f % 2 ^ (at + width)) at ∙ ap (λ (x : ℕ). f % 2 ^ x % 2 ^ at) (add_comm at width)
      ∙ mod-mod-pow f width at)

  -- `(f & !((2 ^ width - 1) << at)) | ((v & (2 ^ width - 1)) << at)`
  pub set_bits :
      (f v : ℕ) → f < 2 ^ (more + (at + width))
      → bit_or (bit_and f (2 ^ (more + (at + width)) - 1 - (2 ^ width - 1) * 2 ^ at))
      (bit_and v (2 ^ width - 1) * 2 ^ at) ≡ with_field at width f v
  unfolding with_field
  set_bits f v h =
      let low : f % 2 ^ at < 2 ^ (at + width) = omega
      (arith, mod-lt f (pow_pos at), pow_mono (let q : at ≤ at + width = omega arith in q)) in
      let field : v % 2 ^ width * 2 ^ at < 2 ^ (at + width) = subst (λ (k : ℕ). v % 2 ^ width * 2 ^ at < 2 ^ k)
      (add_comm width at) (shl_lt width at (mod-lt v (pow_pos width))) in
      let none : v % 2 ^ width * 2 ^ at ≡ 0 * 2 ^ (at + width) + v % 2 ^ width * 2 ^ at = omega arith in
      ap₂ bit_or (kept_bits f h) (ap (λ (x : ℕ). x * 2 ^ at) (and_mask v width) ∙ none)
      ∙ or_block (at + width) (f / 2 ^ (at + width)) 0 (f % 2 ^ at) (v % 2 ^ width * 2 ^ at) low field
      ∙ ap₂ (λ (x y : ℕ). x * 2 ^ (at + width) + y) (or_zero_r (f / 2 ^ (at + width)))
      (or_shifted_r (v % 2 ^ width) at (f % 2 ^ at) (mod-lt f (pow_pos at)))
      ∙ omega arith

-- `v << at`, where the field is the byte's last: the bits that the shift pushes out are lost
pub shifted_out : (at width v : ℕ) → v * 2 ^ at % 2 ^ (width + at) ≡ bit_and v (2 ^ width - 1) * 2 ^ at
shifted_out at width v =
    mod-pow-add (v * 2 ^ at) width at
    ∙ ap₂ (λ (x y : ℕ). x % 2 ^ width * 2 ^ at + y) (shl-shr v at) (mul-mod_left v (2 ^ at))
    ∙ ap (λ (x : ℕ). x * 2 ^ at + 0) (sym (and_mask v width))
    ∙ omega arith

-- `f | 2 ^ at`
pub set_bit_on : (at f : ℕ) → bit_or f (2 ^ at) ≡ with_bit at f true
unfolding with_field
set_bit_on at f =
    let one : 2 ^ at ≡ 1 * 2 ^ at + 0 = omega arith in
    ap₂ bit_or (sym (split f at)) one
    ∙ or_block at (f / 2 ^ at) 1 (f % 2 ^ at) 0 (mod-lt f (pow_pos at)) (pow_pos at)
    ∙ ap₂ (λ (x y : ℕ). x * 2 ^ at + y) (odd (f / 2 ^ at)) (or_zero_r (f % 2 ^ at))
    ∙ omega (
      arith,
      ap (λ (x : ℕ). (x * 2 + 1) * 2 ^ at) (shr-shr f at 1),
      ap (λ (x : ℕ). f / 2 ^ (at + 1) * x)
          (pow-add 2 at 1),
    )
  where
    odd : (x : ℕ) → bit_or x 1 ≡ x / 2 * 2 + 1
    odd x =
        let m : max (x % 2) 1 ≡ 1 = omega arith in
        or_step x 1 ∙ ap₂ (λ (y z : ℕ). y * 2 + z) (or_zero_r (x / 2)) m

-- `f & !2 ^ at`
pub set_bit_off : (at more f : ℕ) → f < 2 ^ (more + (at + 1)) → bit_and f (2 ^ (more + (at + 1)) - 1 - 2 ^ at)
    ≡ with_bit at f false
set_bit_off at more f h =
    let one : 2 ^ at ≡ 1 * 2 ^ at = omega arith in
    let none : 0 ≡ 0 * 2 ^ at = omega arith in
    sym (or_zero_r (bit_and f (2 ^ (more + (at + 1)) - 1 - 2 ^ at)))
    ∙ ap₂ (λ (x y : ℕ). bit_or (bit_and f (2 ^ (more + (at + 1)) - 1 - x)) y) one none
    ∙ set_bits at 1 more f 0 h

-- ---- the expressions in `src/ynd.rs`, as they stand there

pub lane_count_forward : (f n : ℕ) → f < 256 → bit_or (bit_and f (255 - 0xE0)) (bit_and n 7 * 2 ^ 5)
    ≡ with_field 5 3 f n
lane_count_forward f n h = set_bits 5 3 0 f n h

pub lane_count_backward : (f n : ℕ) → f < 256 → bit_or (bit_and f (255 - 0x1C)) (bit_and n 7 * 2 ^ 2)
    ≡ with_field 2 3 f n
lane_count_backward f n h = set_bits 2 3 3 f n h

pub speed : (f s : ℕ) → f < 256 → bit_or (bit_and f (255 - 6)) (bit_and s 3 * 2 ^ 1) ≡ with_field 1 2 f s
speed f s h = set_bits 1 2 5 f s h

pub special : (f s : ℕ) → f < 256 → bit_or (bit_and f (255 - 0xF8)) (s * 2 ^ 3 % 256) ≡ with_field 3 5 f s
special f s h = ap (bit_or (bit_and f 7)) (shifted_out 3 5 s) ∙ set_bits 3 5 0 f s h

pub heuristic_value : (f v : ℕ) → f < 256 → bit_or (bit_and f (255 - 0xFE)) (v * 2 ^ 1 % 256) ≡ with_field 1 7 f v
heuristic_value f v h = ap (bit_or (bit_and f 1)) (shifted_out 1 7 v) ∙ set_bits 1 7 0 f v h

pub density : (f d : ℕ) → f < 256 → bit_or (bit_and f (255 - 15)) (bit_and d 15) ≡ with_field 0 4 f d
density f d h =
    let same : bit_and d 15 ≡ bit_and d 15 * 1 = omega arith in
    ap (bit_or (bit_and f 240)) same ∙ set_bits 0 4 4 f d h

pub dead_endness : (f : ℕ) → bit_and f 112 ≡ field_of 4 3 f * 16
unfolding field_of
dead_endness f = and_high f 3 4
