use Rattle.std.proofs.Common.{◌≡◌, ℕ, ◌<◌, true, false, length, get_or, rules}
use Rattle.std.specs.Char.{to_ascii_lowercase}
use Rattle.numbers.proofs.NameLaws.{starts_decided}
use Rattle.numbers.proofs.names.starts_with.Goals as goal

pub returns-then-word-s : goal.returns-then-word-s
returns-then-word-s c =
    let s = c.args.s.now in
    let word = c.args.word.now in
    let yes : c.all.result ≡ true → (k : ℕ) → k < length word → to_ascii_lowercase (get_or s k 0)
    ≡ get_or word k 0 = λ e k l. search rules in
    let no : c.all.result ≡ false → (k : ℕ) × (k < length word)
    × (to_ascii_lowercase (get_or s k 0) ≡ get_or word k 0 → ⊥) = λ e. search rules in
    starts_decided c.all.result s word c.if-word-s.true yes no
