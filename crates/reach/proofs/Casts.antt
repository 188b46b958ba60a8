-- Steps counted from the lowest, and the square of a difference, in the words of 32 and 64 bits that the code goes
-- through. Assumes nothing.
use Prim.Native.Nat.{ℕ, ◌+◌, ◌-◌, ◌*◌, ◌<◌, ◌≤◌}
use native.Mathlib.Omega.{arith}
use mathlib.Core.Path.{◌≡◌, refl, ap, ◌∙◌}
use lib.IntN.{ℤ, pos, negsuc, nat_abs, ◌+ℤ◌, ◌-ℤ◌, ◌*ℤ◌}
use lib.Signed.{mag}
use mir.Syntax.{w16, w32, w64}
use mir.Val.{SFits, to_z, of_z}
use Rattle.std.proofs.lemmas.Int.{ints}
use Rattle.reach.specs.Parts.{raised_step, square_apart}
use Rattle.reach.proofs.DistanceLaws.{up, up_small, raised_by, raised_up, apart_small}

-- ---- a step and 32,768 more

pub stored_sum : (z : ℤ) → SFits w16 z
    → to_z w32 (of_z w32 (to_z w32 (of_z w32 (to_z w16 (of_z w16 z))) +ℤ pos 32768)) ≡ pos (up z)
stored_sum z f = omega (arith, ints, raised_by z f.sfits)

-- ---- the square of a difference

-- a small number as a word of 32 bits
pub as_word : (a : ℕ) → a ≤ 65535 → to_z w32 a ≡ pos a
as_word a h = omega (arith, ints)

apart_of : (a u : ℕ) → nat_abs (pos a -ℤ pos u) ≡ a - u + (u - a)
apart_of a u = omega (arith, ints)

self_square : (z : ℤ) → z *ℤ z ≡ pos (nat_abs z * nat_abs z)
self_square (pos k) = refl
self_square (negsuc k) = refl

module _ (a u : ℕ) (ha : a ≤ 65535) (hu : u ≤ 65535) (A U : ℤ) (ea : A ≡ pos a) (eu : U ≡ pos u) where
  -- the difference as a word of 64 bits
  abbrev pub word : ℤ
  word = to_z w64 (of_z w64 (to_z w32 (of_z w32 (A -ℤ U))))

  factor : word ≡ pos a -ℤ pos u
  factor = omega (arith, ints)

  product : word *ℤ word ≡ pos (square_apart a u)
  unfolding square_apart
  product =
      (λ i. factor i *ℤ factor i) ∙ self_square (pos a -ℤ pos u)
      ∙ ap (λ (k : ℕ). pos (k * k)) (apart_of a u)

  pub stored_product : to_z w64 (of_z w64 (word *ℤ word)) ≡ pos (square_apart a u)
  stored_product = ap (λ (x : ℤ). to_z w64 (of_z w64 x)) product ∙ omega (arith, ints, apart_small a u ha hu)

-- as the code has it, with a step z of 16 bits
abbrev pub word_of : ℕ → ℤ → ℤ
word_of a z = to_z w64 (of_z w64 (to_z w32 (of_z w32 (to_z w32 a -ℤ to_z w32
    (of_z w32 (to_z w32 (of_z w32 (to_z w16 (of_z w16 z))) +ℤ pos 32768))))))

pub apart_cast : (a : ℕ) (z : ℤ) → a ≤ 65535 → mag z < 32768
    → (to_z w64 (of_z w64 (word_of a z *ℤ word_of a z)) ≡ pos (square_apart a (raised_step z)))
    × (square_apart a (raised_step z) ≤ 4294836225)
apart_cast a z h f =
    let fits : SFits w16 z = record { sfits = f } in
    let small = up_small z f in
    rw (raised_up z f) (
      stored_product a (up z) h small _ _ (as_word a h) (stored_sum z fits),
      apart_small a (up z)
          h small,
    )
