-- One line more behind the lines so far.
use Rattle.std.proofs.Common.{◌≡◌, ℕ, ◌+◌, ◌*◌, ◌<◌, ◌≤◌, List, ◌++◌, length, take, drop, ap, sym, ◌∙◌, subst, inl, inr}
use Rattle.std.proofs.Common.{arith}
use Rattle.numbers.specs.Table.{Least}
use Rattle.numbers.proofs.TableLaws.{entry, least_entry}
use Rattle.std.proofs.lemmas.Bool.{cases_lt}
use Rattle.std.proofs.lemmas.List.{drop-append-le, take-append-le, take_all}
use Rattle.std.proofs.lemmas.List.{drop_all, length-drop, length-take-le, take-append-drop}
use Rattle.numbers.specs.ThresholdSearch.{LineOfLeast}

abbrev line_at : ℕ → List ℕ → List ℕ
line_at j s = take 9 (drop (9 * j) s)

earlier : (k j : ℕ) (s line : List ℕ) → length s ≡ 9 * k → j < k → line_at j (s ++ line) ≡ line_at j s
earlier k j s line long h =
    ap (take 9) (drop-append-le (9 * j) s line (omega arith))
    ∙ take-append-le 9 (drop (9 * j) s) line (omega (arith, length-drop (9 * j) s))

last : (k j : ℕ) (s line rest : List ℕ) → length s ≡ 9 * k → length line ≡ 9 → k ≡ j
    → line_at j (s ++ (line ++ rest)) ≡ line
last k j s line rest long nine e =
    ap (take 9) (drop-append-le (9 * j) s (line ++ rest) (omega arith)
    ∙ ap (λ (x : List ℕ). x ++ (line ++ rest)) (drop_all (9 * j) s (omega arith)))
    ∙ take-append-le 9 line rest (omega arith)
    ∙ take_all 9 line (omega arith)

-- line k is written over the bytes behind the lines so far
pub lines_more : (k : ℕ) (s line rest : List ℕ) → 9 * k ≤ length s → length line ≡ 9
    → ((j : ℕ) → j < k → LineOfLeast j (line_at j s)) → LineOfLeast k line
    → (j : ℕ) → j < k + 1 → LineOfLeast j (line_at j (take (9 * k) s ++ (line ++ rest)))
lines_more k s line rest long nine so-far new j h =
    let a : List ℕ = take (9 * k) s in
    let n : length a ≡ 9 * k = length-take-le (9 * k) s long in
    elim (cases_lt j k) [
      | inl l ↦ λ t x.
          earlier k j a (line ++ rest) n l ∙ sym (earlier k j a (drop (9 * k) s) n l)
          ∙ ap (line_at j) (take-append-drop (9 * k) s) ∙ so-far j l t x
      | inr g ↦ λ t x.
          let e : k ≡ j = omega arith in
          last k j a line rest n nine e ∙ new t (subst (λ (y : ℕ). Least y t) (sym e) x)
    ]

-- the same of bytes that are those
pub lines_kept : (k : ℕ) (s items line rest : List ℕ) → items ≡ take (9 * k) s ++ (line ++ rest) → 9 * k ≤ length s
    → length line ≡ 9 → ((j : ℕ) → j < k → LineOfLeast j (line_at j s)) → LineOfLeast k line
    → (j : ℕ) → j < k + 1 → LineOfLeast j (line_at j items)
lines_kept k s items line rest e long nine so-far new =
    subst (λ (x : List ℕ). (j : ℕ) → j < k + 1 → LineOfLeast j (line_at j x)) (sym e)
    (lines_more k s line rest long nine so-far new)

-- a line has nine bytes: every entry has a least pattern
pub line_nine : (k : ℕ) (line : List ℕ) → k < 256 → LineOfLeast k line → length line ≡ 9
line_nine k line h l = ap length (l (entry k) (least_entry k h))
