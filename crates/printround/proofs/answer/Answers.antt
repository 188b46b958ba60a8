-- The text of what was read is the text of the whole input.
use Rattle.std.proofs.Common.{ℕ, ◌≡◌, ◌∙◌, ap, List, take, string_bytes, Option, Some, None, IfSome}
use Rattle.printround.specs.Printed.{printed}
use Rattle.printround.proofs.Enough.{enough}
use Rattle.printround.proofs.answer.Goals as goal

of_whole : (text read : List ℕ) (o : Option (List ℕ)) → text ≡ printed read →
    IfSome o (λ bytes. read ≡ take 65537 bytes) → IfSome o (λ bytes. text ≡ printed bytes)
of_whole text read None e h = tt
of_whole text read (Some bytes) e h = e ∙ ap printed h ∙ enough bytes

pub returns : goal.returns
returns g c =
    of_whole (string_bytes c.in_ok-text_of.field-0) c.in_ok-bytes.bytes.items (g.R.Read.remaining c.args.input)
    (c.in_ok-text_of.ensures ∙ ap printed c.as_slice.ensures.value) c.in_ok-bytes.ensures
