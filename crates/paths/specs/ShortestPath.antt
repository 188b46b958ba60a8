-- T-06: a walk between two places by the cell's own links, its distance, and which walks are shortest.
use Rattle.std.specs.Prelude.{ℕ, ◌+◌, ◌<◌, ◌≤◌, ◌≡◌, List, [], ◌∷◌, length, get_or}
use Rattle.std.proofs.Math.Option.{Option, none, some}
use Rattle.cells.specs.Cell.{Node}
use Rattle.walks.specs.Walk.{Next, to, stop, next, link_at}
use Rattle.walks.specs.WalkCall.{route}
use Rattle.walks.specs.declared.walk.End.TheVariants.{Done}
use Rattle.cells.specs.declared.link.PathLink.{PathLink}

abbrev pub length_of : Option PathLink → ℕ
length_of (some l) = l.length
length_of none = 0

-- the length of the link that the choice b takes at place p
unfoldable pub length_at : List Node → ℕ → ℕ → ℕ
length_at ns p b = length_of (link_at ns p b)

abbrev pub distance_on : ℕ → (ℕ → ℕ) → Next ℕ → ℕ
distance_on len on (to q) = len + on q
distance_on len on (stop e) = 0

-- T-06: the lengths of the links that a walk follows, added up
unfoldable pub distance : List Node → List ℕ → ℕ → ℕ
distance ns [] p = 0
distance ns (b ∷ bs) p = distance_on (length_at ns p b) (distance ns bs) (next ns p b)

-- T-06: the choices bs lead from place p to place q: no link ends the walk, and the last place visited is q
pub record Leads (ns : List Node) (p q : ℕ) (bs : List ℕ) : Type 0 where
  pub done : (route ns bs p).ending ≡ Done
  pub arrives : get_or (route ns bs p).places (length bs) 0 ≡ q

-- T-06: every other walk between those places has a sum at least as large
abbrev pub Least : List Node → ℕ → ℕ → ℕ → Type 0
Least ns p q sum = (bs : List ℕ) → Leads ns p q bs → sum ≤ distance ns bs p

-- T-06: no walk joins the two places
abbrev pub Unreachable : List Node → ℕ → ℕ → Type 0
Unreachable ns p q = (bs : List ℕ) → Leads ns p q bs → ⊥

-- T-06: no place twice
abbrev pub NoPlaceTwice : List ℕ → Type 0
NoPlaceTwice ps = (i j : ℕ) → i < j → j < length ps → get_or ps i 0 ≡ get_or ps j 0 → ⊥

-- A shortest path from p to q: the choices lead there, no other walk has a smaller sum, and it visits no place twice.
-- Of the walks with that sum none has fewer links, which is more than T-06 asks for.
pub record ShortestPath (ns : List Node) (p q : ℕ) (bs : List ℕ) : Type 0 where
  pub leads : Leads ns p q bs
  pub least : Least ns p q (distance ns bs p)
  pub once : NoPlaceTwice (route ns bs p).places
  pub fewest : (cs : List ℕ) → Leads ns p q cs → distance ns cs p ≡ distance ns bs p → length bs ≤ length cs
