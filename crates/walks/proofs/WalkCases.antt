-- What the call `walk` answers, in the order of its tests.
use Prim.Native.Nat.{ℕ}
use mathlib.Core.Path.{◌≡◌, refl, ap, ◌∙◌}
use mathlib.Core.Bool.{Bool, true, false, cond}
use mathlib.Core.List.{List, ◌++◌, map-id}
use lib.Dec.{ltb}
use lib.ListN.{length, drop}
use Rattle.cells.specs.Memory.{Memory}
use Rattle.cells.specs.CellOf.{nodes_of, cell_of}
use Rattle.walks.specs.Walk.{Trail, walk_in, walk}
use Rattle.walks.specs.Claim.{places}
use Rattle.walks.specs.PlaceCauses.{place_causes}
use Rattle.walks.specs.WalkCall.{Route, route, WalkLeft, walk_left, walk_call}
use Rattle.walks.proofs.PlaceCases.{place_asked}
use Rattle.numbers.specs.Refusals.{Cause, done, decided}
use Rattle.walks.specs.WalkParts.{lent, lent_world, traced, over, TrailLeft, trail_left, stored_in}
use Rattle.walks.proofs.Routes.{route_of, trail_route}
use Rattle.walks.specs.declared.walk.Walked.{Walked}
use Rattle.std.specs.Prelude.{Result, Ok, Err}
use Rattle.numbers.specs.declared.refusal.Refusal.{Refusal}
use Rattle.numbers.specs.declared.refusal.Refusal.TheVariants.{TooShort}
use Rattle.numbers.specs.declared.refusal.Lent.TheVariants as lent

-- ---- what is left of a walk whose places go into a list, by its route

abbrev left_of : TrailLeft ℕ → WalkLeft
left_of x = walk_left x.answer x.visited

abbrev pub route_left : Route → List ℕ → WalkLeft
route_left r visited =
    cond (ltb (length visited) (length r.places)) (walk_left (Err (TooShort lent.List)) visited)
    (walk_left (Ok (record { end = r.ending; count = length r.places })) (r.places ++ drop (length r.places) visited))

left_is : (t : Trail ℕ) (visited : List ℕ) → left_of (stored_in (λ q. q) t visited) ≡ route_left (route_of t) visited
unfolding stored_in
left_is t visited = rw map-id (go (ltb (length visited) (length (places t))))
  where
    go : (b : Bool)
        → left_of (cond b (trail_left (Err (TooShort lent.List)) visited)
        (trail_left (Ok (traced t)) (over (places t) visited)))
        ≡ cond b (walk_left (Err (TooShort lent.List)) visited) (walk_left (Ok (traced t)) (over (places t) visited))
    go true = refl
    go false = refl

module _ (m : Memory) (bs : List ℕ) (s : ℕ) (visited : List ℕ) where
  abbrev causes : List Cause
  causes = place_causes m.ynd (length m.nodes) (length m.links) s

  abbrev left : Result Walked Refusal → WalkLeft
  left a = walk_left a visited

  abbrev walked : WalkLeft
  walked = route_left (route (nodes_of m) bs s) visited

  -- the walk is the same with no other lists
  pub ends : done ≡ decided causes → (a : Result Walked Refusal) (v : List ℕ)
      → trail_left a v ≡ stored_in (λ q. q) (walk_in (lent_world m.ynd m.nodes m.links) bs s) visited
      → walk_left a v ≡ walk_call m bs s visited
  unfolding walk_call nodes_of cell_of walk
  ends asked a v e =
      ap left_of e ∙ left_is (walk_in (lent_world m.ynd m.nodes m.links) bs s) visited
      ∙ ap (λ (r : Route). route_left r visited) (trail_route (cell_of (lent m.ynd m.nodes m.links)) bs s)
      ∙ place_asked m.ynd (length m.nodes) (length m.links) s left walked asked
