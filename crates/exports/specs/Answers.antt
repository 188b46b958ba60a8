-- A call's answer as number and place, 0 and 0 where it was accepted, and what a lent cell holds afterwards.
use Rattle.std.specs.Prelude.{ℕ, Bool, true, false, List, [], ◌∷◌, Float, Option, Some, None, Result, Ok, Err}
use Rattle.numbers.specs.Refusals.{number_of, place_of}
use Rattle.numbers.specs.declared.grid.Bounds.{Bounds}
use Rattle.numbers.specs.declared.refusal.Refusal.{Refusal}

abbrev pub answer_number : {A : Type 0} → Result A Refusal → ℕ
answer_number (Ok x) = 0
answer_number (Err r) = number_of r

abbrev pub answer_place : {A : Type 0} → Result A Refusal → ℕ
answer_place (Ok x) = 0
answer_place (Err r) = place_of r

-- what is made of the value where the call gives one, else the old content
abbrev pub value_or : {A B : Type 0} → Result A Refusal → (A → B) → B → B
value_or (Ok x) f old = f x
value_or (Err r) f old = old

-- the new content where the call was accepted, else the old one
abbrev pub if_done : {A B : Type 0} → Result A Refusal → B → B → B
if_done r new old = value_or r (λ x. new) old

abbrev pub corners : Bounds → List Float
corners b = b.x0 ∷ b.y0 ∷ b.x1 ∷ b.y1 ∷ []

-- whether there is a value, and the value, else the old content
abbrev pub is_known : {A : Type 0} → Option A → Bool
is_known (Some x) = true
is_known None = false

abbrev pub known_or : {A : Type 0} → Option A → A → A
known_or (Some x) old = x
known_or None old = old
