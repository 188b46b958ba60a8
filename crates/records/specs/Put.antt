-- Section 4: what is stored in a lent section.
use Rattle.std.specs.Prelude.{ℕ, ◌+◌, cond, List, [], ◌∷◌, ◌++◌, leb, length, take, drop}
use Rattle.std.specs.Prelude.{Err}
use Rattle.numbers.specs.Refusals.{Answer, done}
use Rattle.numbers.specs.declared.refusal.Lent.TheVariants as lent
use Rattle.numbers.specs.declared.refusal.Refusal.TheVariants.{TooShort}

-- l, with x in place of as many elements from `at` on.
unfoldable pub put : {A : Type 0} → List A → ℕ → List A → List A
put l at x = take at l ++ x ++ drop (at + length x) l

-- The same where x ends inside l; elsewhere nothing is stored.
unfoldable pub put_in : {A : Type 0} → List A → ℕ → List A → List A
put_in l at x = cond (leb (at + length x) (length l)) (put l at x) l

-- What storing up to `end` in so many bytes answers: 7 at 5 where that is not inside.
abbrev pub stored_to : ℕ → ℕ → Answer
stored_to end len = cond (leb end len) done (Err (TooShort lent.Section))

-- The elements of all the lists, in order.
unfoldable pub joined : {A B : Type 0} → (A → List B) → List A → List B
joined f [] = []
joined f (x ∷ xs) = f x ++ joined f xs
