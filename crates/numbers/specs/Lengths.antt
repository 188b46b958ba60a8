-- Section 6: the length between two positions: the correctly rounded f32 root, at most 255, cut.
use Rattle.std.specs.Prelude.{ℕ, zero, suc, ◌+◌, ◌-◌, ◌*◌, ◌/◌, ◌^◌, min, Bool, true, false, cond, not, ◌&&◌, nat_le}
use Rattle.std.specs.Prelude.{Float}
use Prim.Native.Nat.{compare}
use Rattle.std.specs.Float.{nan, inf, fin, binary32}
use Rattle.std.specs.Float.Ieee.{up, down, size, nearest, units}
use Rattle.numbers.specs.Squares.{squared}
use Rattle.numbers.specs.declared.math.Vec3.{Vec3}

-- The whole part of the root of n, for an n below 4 ^ d: twice that of n / 4, or one more where its square is no more
-- than n.
unfoldable pub whole_root : ℕ → ℕ → ℕ
whole_root zero n = 0
whole_root (suc d) n = let r = 2 * whole_root d (n / 4) in cond (nat_le (suc r * suc r) n) (suc r) r

-- The f32 nearest to the root of n, a tie to the even one; the root counts units of 2 ^ -149, the smallest f32, so n
-- counts units of 2 ^ -298. As lib.Ieee's `round` does, it keeps 24 digits and drops k: q is the whole part of the
-- root over 2 ^ k. Twice the root is compared with m, twice the middle between q * 2 ^ k and (q + 1) * 2 ^ k, by
-- their squares.
unfoldable pub root_of : ℕ → Float
unfolding whole_root size units
root_of n =
    let w = whole_root (size n) n in
    let k = size w - 24 in
    let q = w / 2 ^ k in
    let m = (2 * q + 1) * 2 ^ k in
    units binary32 false (nearest q (compare (4 * n) (m * m))) k

-- IEEE 754's square root.
unfoldable pub root : Float → Float
unfolding root_of
root nan = nan
root (inf s) = cond s nan (inf false)
root (fin false m e) = root_of (m * up e * 2 ^ 298 / down e)
root (fin true zero e) = fin true zero e
root (fin true (suc m) e) = nan

-- Section 6: at most 255, cut; NaN gives 255.
unfoldable pub capped : Float → ℕ
capped nan = 255
capped (inf s) = cond s 0 255
capped (fin s m e) = cond s 0 (min (m * up e / down e) 255)

unfoldable pub length_of : Float → ℕ
unfolding root capped
length_of s = capped (root s)

abbrev pub length_between : Vec3 → Vec3 → ℕ
length_between a b = length_of (squared a b)

-- x is k or more.
unfoldable pub reaches : ℕ → Float → Bool
reaches k nan = false
reaches k (inf s) = not s
reaches k (fin s m e) = not s && nat_le (k * down e) (m * up e)
