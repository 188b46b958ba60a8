-- Laws of the refusals' texts: for every number, also those that no refusal has.
use mathlib.Core.Bool.{Bool, true, ◌&&◌}
use mathlib.Core.List.{List, [], ◌∷◌, ◌++◌}
use mathlib.Core.Path.{◌≡◌, refl, ap, ◌∙◌}
use native.Mathlib.Omega.{arith}
use Prim.Native.Nat.{ℕ, ◌+◌, ◌-◌, ◌≤◌, ◌<◌}
use lib.Dec.{ltb}
use lib.ListN.{length, drop, take}
use borrow.Author.Tests.{ltb-true}
use Rattle.std.proofs.Common.{inl, inr}
use Rattle.std.proofs.lemmas.Bool.{cases_lt, ne_eqb}
use Rattle.std.proofs.lemmas.List.{get_or_past, take_all, append_assoc, length-append}
use Rattle.std.specs.Prelude.{codes}
use Rattle.cells.specs.Lists.{every}
use Rattle.cells.proofs.Sequences.Tests.{and_left, and_right, every_at}
use Rattle.exports.specs.Texts.{texts, text_of, text_put}
use Rattle.records.proofs.Puts.{put_start}

-- no byte is zero, and 128 bytes hold the text and its zero
abbrev good : List ℕ → Bool
good t = ltb (length t) 128 && every (λ b. ltb 0 b) t

unknown : List ℕ
unknown = codes "no refusal has this number"

all_good : every good texts ≡ true
unfolding texts every
all_good = refl

all_known : length texts ≡ 20
unfolding texts
all_known = refl

unknown_good : good unknown ≡ true
unfolding unknown every
unknown_good = refl

text_good : (n : ℕ) → good (text_of n) ≡ true
unfolding text_of unknown
text_good n = elim (cases_lt n 20) [
  | inl h ↦ every_at good texts n unknown all_good (omega (arith, all_known))
  | inr h ↦ ap good (get_or_past texts n unknown (omega (arith, all_known))) ∙ unknown_good
]

pub texts_fit : (n : ℕ) → length (text_of n) < 128
texts_fit n = ltb-true _ _ (and_left _ _ (text_good n))

pub no_zero_inside : (n : ℕ) → every (λ b. ltb 0 b) (text_of n) ≡ true
no_zero_inside n = and_right _ _ (text_good n)

-- where the text has room, all of it is there, with its zero, and nothing else changes
put_whole : (t old : List ℕ) → length t < length old → text_put t old ≡ t ++ 0 ∷ drop (length t + 1) old
unfolding text_put
put_whole t old h =
    let all : take (length old - 1) t ≡ t = take_all (length old - 1) t (omega (arith, h)) in
    let long : length (t ++ 0 ∷ []) ≡ length t + 1 = length-append t (0 ∷ []) in
    rw (ne_eqb (length old) 0 (λ e. omega (arith, e, h)), all)
    (put_start old (t ++ 0 ∷ []) ∙ append_assoc t (0 ∷ []) _ ∙ ap (λ (k : ℕ). t ++ 0 ∷ drop k old) long)

pub whole_text : (n : ℕ) (old : List ℕ) → 128 ≤ length old
    → text_put (text_of n) old ≡ text_of n ++ 0 ∷ drop (length (text_of n) + 1) old
whole_text n old h = put_whole (text_of n) old (omega (arith, texts_fit n, h))
