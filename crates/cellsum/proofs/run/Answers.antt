-- What is written is the line of the whole input.
use Rattle.std.proofs.Common.{ℕ, ◌≡◌, ◌∙◌, subst, List, take, Option, Some, None, IfSome, OnOk, Result, Ok, Err}
use Rattle.std.specs.Io.KnownBytes.{Appends}
use Rattle.cellsum.specs.Line.{line_of}
use Rattle.cellsum.proofs.run.Goals as goal

of_whole : {T E : Type 0} (r : Result T E) (input old new : Option (List ℕ)) (read put text : List ℕ)
    → IfSome input (λ bytes. read ≡ take 65537 bytes)
    → ((bytes : List ℕ) → read ≡ take 65537 bytes → text ≡ line_of bytes) → put ≡ text → OnOk r (Appends old new put)
    → OnOk r (IfSome input (λ bytes. Appends old new (line_of bytes)))
of_whole (Err e) input old new read put text given says same written = tt
of_whole (Ok x) None old new read put text given says same written = tt
of_whole (Ok x) (Some bytes) old new read put text given says same written =
    subst (Appends old new) (same ∙ says bytes given) written

pub returns-clause-line : goal.returns-clause-line
returns-clause-line g c =
    of_whole c.put.result (g.R.Source.remaining c.args.input.now) _ _ c.in_ok-section.section.items
    c.as_bytes.result.now c.answer-text.result.bytes c.in_ok-section.ensures.bytes
    (λ bytes e. c.answer-text.ensures bytes (c.as_slice.ensures.value ∙ e))
    (c.as_bytes.ensures.value ∙ c.as_str.ensures.value) c.put.ensures.bytes
