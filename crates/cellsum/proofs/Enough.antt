-- One byte past the limit is enough: the first 65,537 bytes of an input give its line.
use Rattle.std.proofs.Common.{ℕ, ◌≡◌, ◌∙◌, sym, ap, ◌<◌, List, [], take, length}
use Rattle.std.proofs.Common.{if◌then◌else◌, inl, inr, arith, codes}
use Rattle.std.proofs.lemmas.Bool.{cases_lt, lt-ltb}
use Rattle.std.proofs.lemmas.List.{length-take-le, take_all}
use Rattle.cells.specs.Checks.{count_of}
use Rattle.cellsum.specs.Line.{line_of, counted_line_of}

too_long : (input : List ℕ) → 65536 < length input → line_of input ≡ codes "too long\n"
too_long input h =
    ap (λ b. if b then codes "too long\n" else counted_line_of (count_of input [])) (lt-ltb 65536 (length input) h)

pub enough : (input : List ℕ) → line_of (take 65537 input) ≡ line_of input
enough input = elim (cases_lt 65536 (length input)) [
  | inl long ↦
      let e = length-take-le 65537 input (omega arith) in
      let cut : 65536 < length (take 65537 input) = omega arith in
      too_long (take 65537 input) cut ∙ sym (too_long input long)
  | inr short ↦ ap line_of (take_all 65537 input (omega arith))
]
