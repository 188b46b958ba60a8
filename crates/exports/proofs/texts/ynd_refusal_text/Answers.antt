use Rattle.std.proofs.Common.{List, ℕ, ap, ◌∙◌}
use Rattle.exports.specs.Texts.{text_put}
use Rattle.exports.proofs.TextStored.{text_stored}
use Rattle.exports.proofs.texts.ynd_refusal_text.Goals as goal

pub returns-in-Some-clause-text_after : goal.returns-in-Some-clause-text_after
returns-in-Some-clause-text_after c =
    text_stored _ _ _ _ _ c.in-Some.ensures.0 c.in-Some.ensures.1 c.min-kept.ensures c.put_at.ensures
    ∙ ap (λ (w : List ℕ). text_put w c.args.text.now) c.text_of-whole.ensures
