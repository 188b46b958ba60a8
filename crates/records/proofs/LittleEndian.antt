-- Laws of little-endian numbers, each once over the width; and of 16 bits with a sign, both ways.
use Prim.Native.Nat.{ℕ, zero, suc, ◌+◌, ◌-◌, ◌*◌, ◌/◌, ◌%◌, ◌^◌, ◌≤◌, ◌<◌}
use native.Mathlib.Omega.{arith}
use native.Mathlib.Nat.{add-zero, zero-add, pow-succ'}
use mathlib.Core.Path.{◌≡◌, refl, sym, ap, ◌∙◌}
use mathlib.Core.List.{List, [], ◌∷◌, ◌++◌}
use mathlib.Core.Bool.{Bool, true, false, cond}
use lib.Dec.{ltb}
use lib.IntN.{ℤ, pos, negsuc}
use lib.ListN.{length, get_or, take, drop, length-append, get_or-append}
use lib.Seq.{get_or-append-add, get_or-drop, get_or-take}
use borrow.Author.Tests.{lt-ltb, le-ltb, ltb-true, ltb-false}
use lib.Signed.{mag}
use mir.Syntax.{w8, w16, w32, w64}
use mir.ValLaws.{to_z-of_z}
use Rattle.records.specs.Put.{put}
use mir.Val.{Fits, sel, to_z, of_z}
use Rattle.std.specs.Int.{to_le_bytes}
use Rattle.records.specs.StoredLaws.{bytes_long}
use Rattle.records.specs.Bytes.{byte_at, number_at, number_bytes, bytes16, signed16, bits16}

-- ---- a number and its bytes

pub byte_below : (s : List ℕ) (at : ℕ) → byte_at s at < 256
byte_below s at = omega arith

pub number_below : (w : ℕ) (s : List ℕ) (at : ℕ) → number_at w s at < 256 ^ w
unfolding number_at
number_below zero s at = omega arith
number_below (suc w) s at = omega (arith, number_below w s (at + 1), pow-succ' 256 w)

-- a number in two parts, the low one first
pub number_split : (a b : ℕ) (s : List ℕ) (at : ℕ) → number_at (a + b) s at ≡ number_at a s at
    + number_at b s (at + a) * 256 ^ a
unfolding number_at
number_split zero b s at =
    let next : at ≡ at + 0 = omega arith in
    ap (λ (k : ℕ). number_at k s at) (zero-add b) ∙ ap (number_at b s) next ∙ omega arith
number_split (suc a) b s at =
    let n = number_at b s (at + suc a) in
    let width : suc a + b ≡ suc (a + b) = omega arith in
    let next : at + 1 + a ≡ at + suc a = omega arith in
    let high : n * 256 ^ suc a ≡ 256 * (n * 256 ^ a) = ap (λ (p : ℕ). n * p) (pow-succ' 256 a) ∙ omega arith in
    ap (λ (k : ℕ). number_at k s at) width
    ∙ ap (λ (k : ℕ). byte_at s at + 256 * k)
    (number_split a b s (at + 1) ∙ ap (λ (k : ℕ). number_at a s (at + 1) + number_at b s k * 256 ^ a) next)
    ∙ omega (arith, high)

pub bytes_length : (w n : ℕ) → length (number_bytes w n) ≡ w
bytes_length = bytes_long

-- the bytes of a number in two parts, the low one first
pub bytes_join : (a b low high : ℕ) → low < 256 ^ a → number_bytes (a + b) (low + high * 256 ^ a)
    ≡ number_bytes a low ++ number_bytes b high
unfolding number_bytes
bytes_join zero b low high h =
    let value : low + high * 256 ^ zero ≡ high = omega arith in
    λ i. number_bytes (zero-add b i) (value i)
bytes_join (suc a) b low high h =
    let m = high * 256 ^ a in
    let width : suc a + b ≡ suc (a + b) = omega arith in
    let value : low + high * 256 ^ suc a ≡ low + 256 * m = ap (λ (p : ℕ). low + high * p) (pow-succ' 256 a)
    ∙ omega arith in
    let first : (low + 256 * m) % 256 ≡ low % 256 = omega arith in
    let rest : (low + 256 * m) / 256 ≡ low / 256 + m = omega arith in
    (λ i. number_bytes (width i) (value i)) ∙ (λ i. first i ∷ number_bytes (a + b) (rest i))
    ∙ ap (λ (l : List ℕ). low % 256 ∷ l) (bytes_join a b (low / 256) high (omega (arith, h, pow-succ' 256 a)))

-- ---- bytes that stand at a place of a list

abbrev pub Stands : List ℕ → ℕ → List ℕ → Type 0
Stands s at b = (k : ℕ) → k < length b → get_or s (at + k) 0 ≡ get_or b k 0

pub stands_first : (s : List ℕ) (at : ℕ) (x y : List ℕ) → Stands s at (x ++ y) → Stands s at x
stands_first s at x y h k lt = h k (omega (arith, length-append x y)) ∙ get_or-append x y 0 k lt

pub stands_next : (s : List ℕ) (at : ℕ) (x y : List ℕ) → Stands s at (x ++ y) → Stands s (at + length x) y
stands_next s at x y h k lt =
    let next : at + length x + k ≡ at + (length x + k) = omega arith in
    ap (λ (j : ℕ). get_or s j 0) next ∙ h (length x + k) (omega (arith, length-append x y)) ∙ get_or-append-add x y k 0

pub stands_start : (b rest : List ℕ) → Stands (b ++ rest) 0 b
stands_start b rest k lt = ap (λ (j : ℕ). get_or (b ++ rest) j 0) (zero-add k) ∙ get_or-append b rest 0 k lt

pub stands_taken : (s : List ℕ) (at : ℕ) (b : List ℕ) → take (length b) (drop at s) ≡ b → Stands s at b
stands_taken s at b e k lt = sym (get_or-drop at s k 0) ∙ sym (get_or-take (length b) (drop at s) k 0 lt)
    ∙ ap (λ (l : List ℕ). get_or l k 0) e

-- a number is read where its bytes stand
pub number_back : (w n : ℕ) (s : List ℕ) (at : ℕ) → n < 256 ^ w → Stands s at (number_bytes w n) → number_at w s at ≡ n
unfolding number_at number_bytes
number_back zero n s at small h = omega arith
number_back (suc w) n s at small h =
    let here : get_or s at 0 ≡ n % 256 = ap (λ (k : ℕ). get_or s k 0) (sym (add-zero at)) ∙ h 0 (omega arith) in
    let rest : Stands s (at + 1) (number_bytes w (n / 256)) = stands_next s at (n % 256 ∷ [])
    (number_bytes w (n / 256)) h in
    omega (arith, here, number_back w (n / 256) s (at + 1) (omega (arith, small, pow-succ' 256 w)) rest)

-- ---- 16 bits with a sign

pub signed_small : (n : ℕ) → n < 65536 → mag (signed16 n) < 32768
unfolding signed16
signed_small n h = go (ltb n 32768) refl
  where
    go : (b : Bool) → ltb n 32768 ≡ b → mag (cond b (pos n) (negsuc (65535 - n))) < 32768
    go true e = omega (arith, ltb-true n 32768 e)
    go false e = omega (arith, ltb-false n 32768 e)

pub bits_below : (z : ℤ) → mag z < 32768 → bits16 z < 65536
unfolding bits16
bits_below (pos n) h = omega arith
bits_below (negsuc n) h = omega arith

pub signed_back : (z : ℤ) → mag z < 32768 → signed16 (bits16 z) ≡ z
unfolding signed16 bits16
signed_back (pos n) h = rw (lt-ltb n 32768 h)
signed_back (negsuc n) h =
    let over : 32768 ≤ 65535 - n = omega arith in
    let same : 65535 - (65535 - n) ≡ n = omega arith in
    rw (le-ltb (65535 - n) 32768 over) (ap negsuc same)

-- ---- as the code reads and writes them

-- the bytes of a slice are bytes
abbrev pub AreBytes : List ℕ → Type 0
AreBytes s = (k : ℕ) → Fits w8 (get_or s k 0)

pub reads16 : (s : List ℕ) (at : ℕ) → AreBytes s → get_or s at 0 + get_or s (at + 1) 0 * 256 ≡ number_at 2 s at
unfolding number_at
reads16 s at h = omega (arith, (h at).fits, (h (at + 1)).fits)

pub reads32 : (s : List ℕ) (at : ℕ) → AreBytes s
    → get_or s at 0 + get_or s (at + 1) 0 * 256 + get_or s (at + 2) 0 * 65536 + get_or s (at + 3) 0 * 16777216
    ≡ number_at 4 s at
reads32 s at h =
    let next : at + 2 + 1 ≡ at + 3 = omega arith in
    omega (arith, number_split 2 2 s at, reads16 s at h, reads16 s (at + 2) h, ap (λ (k : ℕ). get_or s k 0) next)

pub signed_is : (n : ℕ) → to_z w16 n ≡ signed16 n
unfolding signed16
signed_is n = go (ltb n 32768)
  where
    go : (b : Bool) → sel b (pos n) (negsuc (65536 - suc n)) ≡ cond b (pos n) (negsuc (65535 - n))
    go true = refl
    go false = ap negsuc (omega arith)

pub bits_is : (z : ℤ) → of_z w16 z ≡ bits16 z
unfolding bits16
bits_is (pos n) = refl
bits_is (negsuc n) = omega arith

pub le_bytes16 : (n : ℕ) → to_le_bytes w16 n ≡ number_bytes 2 n
unfolding number_bytes
le_bytes16 n = refl

pub le_bytes32 : (n : ℕ) → to_le_bytes w32 n ≡ number_bytes 4 n
unfolding number_bytes
le_bytes32 n =
    let b2 : n / 65536 % 256 ≡ n / 256 / 256 % 256 = omega arith in
    let b3 : n / 16777216 % 256 ≡ n / 256 / 256 / 256 % 256 = omega arith in
    λ i. n % 256 ∷ n / 256 % 256 ∷ b2 i ∷ b3 i ∷ []

pub le_bytes64 : (n : ℕ) → to_le_bytes w64 n ≡ number_bytes 8 n
unfolding number_bytes
le_bytes64 n =
    let b2 : n / 65536 % 256 ≡ n / 256 / 256 % 256 = omega arith in
    let b3 : n / 16777216 % 256 ≡ n / 256 / 256 / 256 % 256 = omega arith in
    let b4 : n / 4294967296 % 256 ≡ n / 256 / 256 / 256 / 256 % 256 = omega arith in
    let b5 : n / 1099511627776 % 256 ≡ n / 256 / 256 / 256 / 256 / 256 % 256 = omega arith in
    let b6 : n / 281474976710656 % 256 ≡ n / 256 / 256 / 256 / 256 / 256 / 256 % 256 = omega arith in
    let b7 : n / 72057594037927936 % 256 ≡ n / 256 / 256 / 256 / 256 / 256 / 256 / 256 % 256 = omega arith in
    λ i. n % 256 ∷ n / 256 % 256 ∷ b2 i ∷ b3 i ∷ b4 i ∷ b5 i ∷ b6 i ∷ b7 i ∷ []

-- a field with a sign, as the code has the number
pub signed_put : (z : ℤ) (l : List ℕ) (at : ℕ) {l' : List ℕ} → mag z < 32768 → l'
    ≡ put l at (bytes16 (bits16 (to_z w16 (of_z w16 z)))) → l' ≡ put l at (bytes16 (bits16 z))
signed_put z l at h e = e ∙ ap (λ (y : ℤ). put l at (bytes16 (bits16 y))) (to_z-of_z w16 z (record { sfits = h }))
