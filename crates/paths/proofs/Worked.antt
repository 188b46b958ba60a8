-- T-06's words at a yard of three nodes, computed: node 0 has a link of 5 metres to node 1 and one that leaves;
-- node 1 has one
-- of 7 metres to node 2; node 2 has none.
use Prim.Native.Nat.{ℕ}
use native.Mathlib.Omega.{arith}
use mathlib.Core.Path.{◌≡◌, refl}
use mathlib.Core.List.{List, [], ◌∷◌}
use Rattle.cells.specs.Area.{belongs}
use Rattle.cells.specs.Cell.{Node, no_body}
use Rattle.cells.specs.Lookup.{find, first_with}
use Rattle.walks.specs.Walk.{next}
use Rattle.walks.specs.WalkCall.{route}
use Rattle.walks.specs.declared.walk.End.TheVariants.{Done, Left}
use Rattle.paths.specs.ShortestPath.{length_at, distance, Leads, Unreachable}
use Rattle.cells.specs.declared.link.PathLink.{PathLink}
use Rattle.cells.specs.Nodes.{no_link}

abbrev link : ℕ → ℕ → ℕ → PathLink
link area number len = record no_link { area_id = area; node_id = number; length = len }

abbrev node : ℕ → List PathLink → Node
node number links = record { area = 489; number = number; links = links; body = no_body }

abbrev yard : List Node
yard = node 0 (link 489 1 5 ∷ link 490 2 1 ∷ []) ∷ node 1 (link 489 2 7 ∷ []) ∷ node 2 [] ∷ []

-- the two links lead from node 0 to node 2, and the last one counts
pub both_links : Leads yard 0 2 (0 ∷ 0 ∷ [])
unfolding route next find first_with belongs
both_links = record { done = refl; arrives = refl }

pub both_lengths : distance yard (0 ∷ 0 ∷ []) 0 ≡ 12
unfolding distance length_at next find first_with belongs
both_lengths = refl

-- the link that leaves is part of no path: not even one that would end where it began
never : {P : Type 0} → Left 490 2 ≡ Done → P
never e = let z : ◌≡◌ {A = ℕ} 0 1 = cc in absurd (omega arith)

pub leaves : Leads yard 0 0 (1 ∷ []) → ⊥
unfolding route next belongs
leaves h = never h.done

-- from node 2, which has no link, to itself: no choice leads there, so it is not unreachable
pub no_choice : Leads yard 2 2 []
unfolding route
no_choice = record { done = refl; arrives = refl }

pub at_itself : Unreachable yard 2 2 → ⊥
at_itself u = u [] no_choice
