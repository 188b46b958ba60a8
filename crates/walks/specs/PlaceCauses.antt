-- What calls ask first that look at the node at a place, with its links.
use Rattle.std.specs.Prelude.{ℕ, List, [], ◌∷◌, leb, ltb}
use Rattle.numbers.specs.Refusals.{Cause, when}
use Rattle.numbers.specs.declared.refusal.Refusal.TheVariants.{TooShort, NoSuchPlace, AtLimit}
use Rattle.numbers.specs.declared.refusal.Lent.TheVariants as lent
use Rattle.cells.specs.Memory.{over_limit}
use Rattle.cells.specs.declared.ynd.Ynd.{Ynd}

-- Of a cell in lists of so many nodes and links, and a place p, in this order: 13 no such place; 14 a struct over a
-- limit; 7 at 0 and 1 a list shorter than its count.
unfoldable pub place_causes : Ynd → ℕ → ℕ → ℕ → List Cause
place_causes y nodes links p =
    when (leb y.node_count p) NoSuchPlace ∷ when (over_limit y) AtLimit
    ∷ when (ltb nodes y.node_count) (TooShort lent.Nodes) ∷ when (ltb links y.link_count) (TooShort lent.Links) ∷ []
