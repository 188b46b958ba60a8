use Rattle.std.proofs.Common.{◌≡◌, ℕ, ◌+◌, ◌<◌, ◌∙◌, true, false, length, get_or, sym, rules}
use Rattle.numbers.specs.Names.{slash}
use Rattle.std.proofs.lemmas.List.{take_rest}
use Rattle.numbers.proofs.NameLaws.{after_slash}
use Rattle.numbers.proofs.names.base_of.Goals as goal

pub returns-in-Some : goal.returns-in-Some
returns-in-Some c =
    let s = c.args.s.now in
    let l : c.in-Some.i < length s = search rules in
    let e : slash (get_or s c.in-Some.i 0) ≡ true = search rules in
    let h : (k : ℕ) → c.in-Some.i < k → k < length s → slash (get_or s k 0) ≡ false = λ k l. search rules in
    take_rest s (c.in-Some.i + 1) ∙ sym (after_slash s s c.in-Some.i l e h)
