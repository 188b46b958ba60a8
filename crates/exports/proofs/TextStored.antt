-- A text as far as the caller's bytes go, with a zero behind it.
use Prim.Native.Nat.{ℕ, ◌+◌, ◌-◌, ◌≤◌, ◌<◌, min}
use native.Mathlib.Omega.{arith}
use mathlib.Core.Path.{◌≡◌, ap, ◌∙◌}
use mathlib.Core.List.{List, [], ◌∷◌, ◌++◌}
use lib.ListN.{length, set, take}
use lib.Seq.{length-take-le}
use lib.Dec.{eqb}
use Rattle.std.proofs.lemmas.Bool.{ne_eqb}
use Rattle.std.proofs.lemmas.List.{take_min}
use Rattle.records.specs.Put.{put, put_in}
use Rattle.records.proofs.Puts.{length_put, put_fits, put_put, set_put}
use Rattle.exports.specs.Texts.{text_put}

pub text_stored : (whole text new : List ℕ) (kept room : ℕ) → 1 ≤ length text → room ≡ length text - 1
    → kept ≡ min (length whole) room → new ≡ put_in text 0 (take kept whole) → set new kept 0 ≡ text_put whole text
unfolding text_put
text_stored whole text new kept room h e k f =
    let x = take kept whole in
    let less : kept ≤ length whole = omega (arith, k) in
    let long : length x ≡ kept = length-take-le kept whole less in
    let is-put : new ≡ put text 0 x = f ∙ put_fits text 0 x (omega (arith, k, long)) in
    let inside : kept < length new = omega (arith, k, ap length is-put, length_put text 0 x (omega (arith, k, long))) in
    let behind : kept ≡ 0 + length x = omega (arith, long) in
    let cut : kept ≡ min room (length whole) = omega (arith, k) in
    let same : x ≡ take (length text - 1) whole
    = ap (λ (n : ℕ). take n whole) cut ∙ take_min room whole ∙ ap (λ (n : ℕ). take n whole) e in
    rw (ne_eqb (length text) 0 (λ z. omega (arith, z)))
    (set_put new kept 0 inside ∙ (λ i. put (is-put i) (behind i) (0 ∷ [])) ∙ put_put text 0 x (0 ∷ []) (omega arith)
    ∙ ap (λ (l : List ℕ). put text 0 (l ++ 0 ∷ [])) same)
