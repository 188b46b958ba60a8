-- The end and the places of a walk are those that the call `walk` answers.
use Prim.Native.Nat.{ℕ, ◌-◌, ◌<◌}
use mathlib.Core.Path.{◌≡◌, refl, ap, ◌∙◌}
use mathlib.Core.List.{List, [], ◌∷◌, map}
use mathlib.Core.Option.{Option}
use lib.ListN.{length, length-map}
use Rattle.cells.specs.Cell.{Cell}
use Rattle.walks.specs.declared.shown.SeenLink.{SeenLink}
use Rattle.walks.specs.Walk.{Next, to, stop, link_at, next, shown_of, Seen, see, Visit, Trail, go_on, walk_in, walk}
use Rattle.walks.specs.WalkCall.{Route, step_on, route}
use Rattle.walks.specs.Claim.{shown_at, shown, places, SameWalk}
use Rattle.walks.proofs.NewWalks.{move_visit, move}
use Rattle.walks.proofs.CallLists.{Alike}

abbrev pub route_of : Trail ℕ → Route
route_of t = record { ending = t.ending; places = places t }

pub trail_route : (c : Cell) (bs : List ℕ) (p : ℕ) → route_of (walk c bs p) ≡ route c.nodes bs p
unfolding walk walk_in route
trail_route c [] p = refl
trail_route c (b ∷ bs) p = go (next c.nodes p b) (trail_route c bs)
  where
    go : (x : Next ℕ) → ((q : ℕ) → route_of (walk c bs q) ≡ route c.nodes bs q)
        → route_of (go_on (record { place = p; seen = see c p; link = shown_of (link_at c.nodes p b) }) (walk c bs)
        x) ≡ step_on p (route c.nodes bs) x
    go (to q) ih = ap (λ (r : Route). step_on p (λ z. r) (to q)) (ih q)
    go (stop e) ih = refl

-- ---- a trail with each place moved

moved_places : {L : Type 0} (f : L → L) (l : List (Visit L)) → map (λ v. v.place) (map (move_visit f) l)
    ≡ map f (map (λ v. v.place) l)
moved_places f [] = refl
moved_places {L} f (v ∷ vs) = ap {B = List L} (λ r. f v.place ∷ r) (moved_places f vs)

moved_shown : {L : Type 0} (f : L → L) (l : List (Visit L)) → map shown_at (map (move_visit f) l) ≡ map shown_at l
moved_shown f [] = refl
moved_shown f (v ∷ vs) = ap {B = List (Seen × Option SeenLink)} (λ r. shown_at v ∷ r) (moved_shown f vs)

pub same_walk : {L : Type 0} (f : L → L) (t u : Trail L) → u ≡ move f t → SameWalk f t u
same_walk {L} f t u e =
    let at : places u ≡ map f (places t) = ap places e ∙ moved_places f t.visits in
    record {
      same_shown = ap shown e ∙ moved_shown f t.visits;
      same_count = ap (λ (n : ℕ). n - 1) (ap length at ∙ length-map (places t) f);
      same_end = ap (λ (r : Trail L). r.ending) e;
      same_places = at;
    }

-- ---- what the call answers for two cells that are alike

abbrev pub move_route : (ℕ → ℕ) → Route → Route
move_route f r = record { ending = r.ending; places = map f r.places }

pub alike_route : {c d : Cell} {f : ℕ → ℕ} → Alike c d f → (bs : List ℕ) (p : ℕ) → p < length c.nodes
    → route d.nodes bs (f p) ≡ move_route f (route c.nodes bs p)
alike_route {c} {d} {f} a bs p lt =
    rw (← trail_route d bs (f p), ← trail_route c bs p)
    (let s = same_walk f (walk c bs p) (walk d bs (f p)) (a.same_walks bs p lt) in λ i. record
    { ending = s.same_end i; places = s.same_places i })
