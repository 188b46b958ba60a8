-- What a call answers that asks first for a place, the limits and the lists of nodes and links.
use Prim.Native.Nat.{ℕ}
use mathlib.Core.Path.{◌≡◌, refl, ap, ◌∙◌}
use mathlib.Core.Bool.{Bool, true, false, cond}
use lib.Dec.{leb, ltb}
use Rattle.std.specs.Prelude.{Result, Ok, Err}
use Rattle.numbers.specs.Refusals.{Answer, done, decided}
use Rattle.numbers.specs.declared.refusal.Refusal.{Refusal}
use Rattle.numbers.specs.declared.refusal.Refusal.TheVariants.{TooShort, NoSuchPlace, AtLimit}
use Rattle.numbers.specs.declared.refusal.Lent.TheVariants as lent
use Rattle.cells.specs.Memory.{over_limit}
use Rattle.cells.specs.declared.ynd.Ynd.{Ynd}
use Rattle.walks.specs.PlaceCauses.{place_causes}

-- Of what the call answers A is made. Its causes in their order, or else the answer.
module _ {A B : Type 0} (y : Ynd) (nodes links p : ℕ) (left : Result B Refusal → A) (answer : A) where
  abbrev cases : Bool → Bool → Bool → Bool → A
  cases a b c d =
      cond a (left (Err NoSuchPlace))
      (cond b (left (Err AtLimit))
      (cond c (left (Err (TooShort lent.Nodes)))
      (cond d (left (Err (TooShort lent.Links)))
      answer)))

  abbrev pub at_place : A
  at_place = cases (leb y.node_count p) (over_limit y) (ltb nodes y.node_count) (ltb links y.link_count)

  abbrev told : Answer → A
  told (Ok _) = answer
  told (Err cause) = left (Err cause)

  told_at : told (decided (place_causes y nodes links p)) ≡ at_place
  unfolding place_causes
  told_at = go (leb y.node_count p) (over_limit y) (ltb nodes y.node_count) (ltb links y.link_count)
    where
      go : (a b c d : Bool)
          → told (cond a (Err NoSuchPlace)
          (cond b (Err AtLimit)
          (cond c (Err (TooShort lent.Nodes))
          (cond d (Err (TooShort lent.Links))
          done))))
          ≡ cases a b c d
      go true b c d = refl
      go false true c d = refl
      go false false true d = refl
      go false false false true = refl
      go false false false false = refl

  pub place_asked : done ≡ decided (place_causes y nodes links p) → answer ≡ at_place
  place_asked e = ap told e ∙ told_at
