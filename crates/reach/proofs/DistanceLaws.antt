-- Squared distances, by whole numbers counted from the lowest step; distance 0. Assumes nothing.
use Prim.Native.Nat.{ℕ, zero, suc, ◌+◌, ◌-◌, ◌*◌, ◌<◌, ◌≤◌}
use native.Mathlib.Nat.{mul-le-mul}
use native.Mathlib.Omega.{arith}
use mathlib.Core.Path.{◌≡◌, refl, ap, sym, ◌∙◌}
use mathlib.Core.List.{List}
use lib.IntN.{ℤ, pos, negsuc, nat_abs, ◌+ℤ◌, ◌-ℤ◌, +ℤ_idl, +ℤ_invr, -ℤ-+ℤ_cancel}
use lib.ListN.{get_or}
use lib.Signed.{mag}
use mir.Syntax.{w16}
use mir.Val.{SFits, to_z, of_z}
use mir.ValLaws.{to_z-of_z}
use Rattle.std.proofs.lemmas.Int.{ints}
use Rattle.numbers.proofs.StepLaws.{step_in}
use Rattle.reach.specs.Reach.{stored, square, square_distance, squared, distances}
use Rattle.reach.specs.Parts.{raised_step, square_apart, far_from, far}
use Rattle.cells.specs.declared.node_entry.NodeEntry.{NodeEntry}
use Rattle.cells.specs.Nodes.{no_entry}

-- ---- counted from the lowest step

-- z + 32768
abbrev pub up : ℤ → ℕ
up (pos n) = n + 32768
up (negsuc n) = 32767 - n

pub raised_by : (z : ℤ) → mag z < 32768 → z +ℤ pos 32768 ≡ pos (up z)
raised_by (pos n) h = refl
raised_by (negsuc n) h = omega (arith, ints)

pub up_small : (z : ℤ) → mag z < 32768 → up z ≤ 65535
up_small (pos n) h = omega arith
up_small (negsuc n) h = omega arith

apart : (a b : ℤ) → mag a < 32768 → mag b < 32768 → nat_abs (a -ℤ b) ≡ up a - up b + (up b - up a)
apart (pos a) (pos b) ha hb = omega (arith, ints)
apart (pos a) (negsuc b) ha hb = omega (arith, ints)
apart (negsuc a) (pos b) ha hb = omega (arith, ints)
apart (negsuc a) (negsuc b) ha hb = omega (arith, ints)

pub raised_up : (z : ℤ) → mag z < 32768 → raised_step z ≡ up z
unfolding raised_step
raised_up z h = ap nat_abs (raised_by z h)

square_of : (a b : ℤ) → mag a < 32768 → mag b < 32768 → square_apart (raised_step a) (raised_step b) ≡ square (a -ℤ b)
unfolding square square_apart
square_of a b ha hb = ap (λ (k : ℕ). k * k) (omega (arith, apart a b ha hb, raised_up a ha, raised_up b hb))

far_at : (x y : ℤ) (nodes : List NodeEntry) → mag x < 32768 → mag y < 32768 → (p : ℕ)
    → far (raised_step x) (raised_step y) nodes p ≡ distances x y nodes p
unfolding far far_from distances squared square_distance stored
far_at x y nodes hx hy p =
    let w = get_or nodes p no_entry in
    cc (square_of x (stored w).x hx (step_in 2 _), square_of y (stored w).y hy (step_in 2 _))

-- the distances that the loops go by are T-01's
pub far_is : (x y : ℤ) (nodes : List NodeEntry) → mag x < 32768 → mag y < 32768
    → far (raised_step x) (raised_step y) nodes ≡ distances x y nodes
far_is x y nodes hx hy = λ i p. far_at x y nodes hx hy p i

-- the same, of the numbers that `raised` gave
pub far_of : (x y : ℤ) (a b : ℕ) (nodes : List NodeEntry) → SFits w16 x → SFits w16 y
    → a ≡ raised_step (to_z w16 (of_z w16 x)) → b ≡ raised_step (to_z w16 (of_z w16 y)) → far a b nodes
    ≡ distances x y nodes
far_of x y a b nodes fx fy e f =
    let g : a ≡ raised_step x = e ∙ ap raised_step (to_z-of_z w16 x fx) in
    let h : b ≡ raised_step y = f ∙ ap raised_step (to_z-of_z w16 y fy) in
    (λ i. far (g i) (h i) nodes) ∙ far_is x y nodes fx.sfits fy.sfits

-- a square of two words of 16 bits
pub apart_small : (a b : ℕ) → a ≤ 65535 → b ≤ 65535 → square_apart a b ≤ 4294836225
unfolding square_apart
apart_small a b ha hb = let m : a - b + (b - a) ≤ 65535 = omega arith in mul-le-mul m m

-- ---- distance 0

zero_square : (m : ℕ) → m * m ≤ 0 → m ≡ 0
zero_square zero h = refl
zero_square (suc m) h =
    absurd (omega (arith, mul-le-mul {n₁ = 1} {m₁ = suc m} {n₂ = 1} {m₂ = suc m} (omega arith) (omega arith)))

no_difference : (z : ℤ) → nat_abs z ≡ 0 → z ≡ pos 0
no_difference (pos n) h = ap pos h
no_difference (negsuc n) h = absurd (omega arith)

same_step : (a b : ℤ) → square (a -ℤ b) ≤ 0 → a ≡ b
unfolding square
same_step a b h =
    let z : a -ℤ b ≡ pos 0 = no_difference (a -ℤ b) (zero_square (nat_abs (a -ℤ b)) h) in
    sym (-ℤ-+ℤ_cancel a b) ∙ ap (λ (x : ℤ). x +ℤ b) z ∙ +ℤ_idl b

-- a node at distance 0 is on the spot
pub on_spot : (x y : ℤ) (w : NodeEntry) → squared x y w ≤ 0 → (x ≡ (stored w).x) × (y ≡ (stored w).y)
unfolding squared square_distance
on_spot x y w h = (same_step x (stored w).x (omega arith), same_step y (stored w).y (omega arith))

no_square : (a : ℤ) → square (a -ℤ a) ≡ 0
unfolding square
no_square a = ap (λ (z : ℤ). nat_abs z * nat_abs z) (+ℤ_invr a)

pub spot : (x y : ℤ) (w : NodeEntry) → x ≡ (stored w).x → y ≡ (stored w).y → squared x y w ≡ 0
unfolding squared square_distance
spot x y w e f =
    (λ i. square (e i -ℤ (stored w).x) + square (f i -ℤ (stored w).y))
    ∙ (λ i. no_square (stored w).x i + no_square (stored w).y i)
