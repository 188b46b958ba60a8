-- One byte past the limit is enough: the first 65,537 bytes of an input give its text.
use Rattle.std.proofs.Common.{ℕ, ◌≡◌, ◌∙◌, sym, ap, ◌<◌, List, take, length, inl, inr, arith}
use Rattle.std.proofs.lemmas.Bool.{cases_lt}
use Rattle.std.proofs.lemmas.List.{length-take-le, take_all}
use Rattle.printround.specs.Printed.{printed}
use Rattle.printround.proofs.Frame.{over_size}

pub enough : (input : List ℕ) → printed (take 65537 input) ≡ printed input
enough input = elim (cases_lt 65536 (length input)) [
  | inl long ↦
      let e = length-take-le 65537 input (omega arith) in
      let cut : 65536 < length (take 65537 input) = omega arith in
      sym (over_size (take 65537 input) cut) ∙ over_size input long
  | inr short ↦ ap printed (take_all 65537 input (omega arith))
]
