-- In the grid the bounds of a cell are exact: n * 512 - 8192, and that of n + 1. Each by a computed test of the 32
-- cells. Assumes nothing.
use Rattle.std.proofs.Common.{◌≡◌, ℕ, suc, ◌*◌, ◌<◌, Bool, true, false, T, eqb, pos, ◌-ℤ◌, sym, ap, ◌∙◌, refl}
use Rattle.std.proofs.Common.{eqb-true}
use Rattle.std.proofs.lemmas.Bool.{agree_below, agree_below_at}
use lib.Ieee.{Float, fin, binary32, to_bits, of_bits, of_int, mul, fits}
use lib.Ieee.Bits.{of_bits-to_bits}
use lib.Ieee.Fits.{add-fits, of_int-fits}
use Rattle.numbers.specs.Grid.{lower_bound, upper_bound}

-- the whole number n * 512 - 8192, as an f32
unfoldable pub corner : ℕ → Float
unfolding of_int
corner n = of_int binary32 (pos (n * 512) -ℤ pos 8192)

next : ℕ → Float
unfolding corner
next n = corner (suc n)

-- ---- two functions to f32 agree where their bits do
same_bits : (x y : Float) → T (fits binary32 x) → T (fits binary32 y) → to_bits binary32 x ≡ to_bits binary32 y → x ≡ y
same_bits x y p q e = sym (of_bits-to_bits binary32 x p) ∙ ap (of_bits binary32) e ∙ of_bits-to_bits binary32 y q

abbrev alike : (ℕ → Float) → (ℕ → Float) → ℕ → Bool
alike f g n = eqb (to_bits binary32 (f n)) (to_bits binary32 (g n))

pub agree : (f g : ℕ → Float) (m : ℕ) → ((n : ℕ) → T (fits binary32 (f n))) → ((n : ℕ) → T (fits binary32 (g n)))
    → agree_below (alike f g) (λ _. true) m ≡ true → (n : ℕ) → n < m → f n ≡ g n
agree f g m p q t n h =
    same_bits (f n) (g n) (p n) (q n) (eqb-true (to_bits binary32 (f n)) (to_bits binary32 (g n))
    (agree_below_at (alike f g) (λ _. true) m n t h))

-- ---- all four are f32s
lower_fits : (n : ℕ) → T (fits binary32 (lower_bound n))
unfolding lower_bound
lower_fits n = add-fits binary32 (fin true 1 (pos 13)) (mul binary32 (of_int binary32 (pos n)) (fin false 1 (pos 9)))

upper_fits : (n : ℕ) → T (fits binary32 (upper_bound n))
unfolding upper_bound
upper_fits n = add-fits binary32 (lower_bound n) (fin false 1 (pos 9))

corner_fits : (n : ℕ) → T (fits binary32 (corner n))
unfolding corner
corner_fits n = of_int-fits binary32 (pos (n * 512) -ℤ pos 8192)

next_fits : (n : ℕ) → T (fits binary32 (next n))
unfolding next
next_fits n = corner_fits (suc n)

-- ---- the laws
pub lower_exact : (n : ℕ) → n < 32 → lower_bound n ≡ corner n
unfolding lower_bound corner to_bits
lower_exact n h = agree lower_bound corner 32 lower_fits corner_fits refl n h

pub upper_exact : (n : ℕ) → n < 32 → upper_bound n ≡ corner (suc n)
unfolding upper_bound next to_bits
upper_exact n h = agree upper_bound next 32 upper_fits next_fits refl n h
