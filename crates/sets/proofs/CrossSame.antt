-- A crossing walk goes by the nodes and the areas of the members' cells alone.
use Prim.Native.Nat.{ℕ}
use native.Mathlib.Omega.{arith}
use mathlib.Core.Path.{◌≡◌, refl, ap, ◌∙◌}
use mathlib.Core.List.{List, [], ◌∷◌}
use mathlib.Core.Option.{Option, none, some}
use Rattle.cells.specs.Cell.{Node, Cell, numbers}
use Rattle.cells.specs.Lookup.{first_with, find}
use Rattle.walks.specs.Walk.{Next, to, stop, next, Trail, go_on, walk_in}
use Rattle.walks.specs.Claim.{places}
use Rattle.walks.specs.declared.walk.End.TheVariants.{Done, NoLink, Left, NoNode}
use Rattle.sets.specs.Members.{cell_at, areas}
use Rattle.sets.specs.Crossing.{Location, arrive_in, enter, on_from, next_in, world_in, crossing}

-- the same end and the same places
pub record SameRoute (t u : Trail Location) : Type 0 where
  pub ending : t.ending ≡ u.ending
  pub visits : places t ≡ places u

module _ (cs ds : List Cell) (same : (i : ℕ) → (cell_at cs i).nodes ≡ (cell_at ds i).nodes) (sa : areas cs
    ≡ areas ds) where
  next_same : (s : Location) (b : ℕ) → next_in cs s b ≡ next_in ds s b
  unfolding next_in
  next_same s b = go (next (cell_at cs s.member).nodes s.place b)
      ∙ ap (λ (ns : List Node). on_from ds s.member (next ns s.place b)) (same s.member)
    where
      on : (a k : ℕ) (o : Option ℕ) → enter cs a k o ≡ enter ds a k o
      on a k none = refl
      on a k (some j) = ap (λ (ns : List Node). arrive_in j (find (numbers ns) k)) (same j)

      go : (x : Next ℕ) → on_from cs s.member x ≡ on_from ds s.member x
      go (to q) = refl
      go (stop (Left a k)) = on a k (first_with (areas cs) a) ∙ ap (λ (l : List ℕ). enter ds a k (first_with l a)) sa
      go (stop Done) = refl
      go (stop NoLink) = refl
      go (stop NoNode) = refl

  walk_same : (bs : List ℕ) (s : Location) → SameRoute (walk_in (world_in cs) bs s) (walk_in (world_in ds) bs s)
  unfolding walk_in
  walk_same [] s = record { ending = refl; visits = refl }
  walk_same (b ∷ bs) s = go (next_in cs s b) (next_in ds s b) (next_same s b) (walk_same bs)
    where
      go : (x y : Next Location) → x ≡ y → ((t : Location)
          → SameRoute (walk_in (world_in cs) bs t) (walk_in (world_in ds) bs t))
          → SameRoute (go_on (record { place = s; seen = (world_in cs).see s; link = (world_in cs).link s b })
          (walk_in (world_in cs) bs) x)
          (go_on (record { place = s; seen = (world_in ds).see s; link = (world_in ds).link s b })
          (walk_in (world_in ds) bs) y)
      go (to p) (to q) e h =
          let z : p ≡ q = cc in
          record {
            ending = (h p).ending ∙ ap (λ (t : Location). (walk_in (world_in ds) bs t).ending) z;
            visits = ap (λ (l : List Location). s ∷ l) ((h p).visits
                ∙ ap (λ (t : Location). places (walk_in (world_in ds) bs t)) z);
          }
      go (to p) (stop f) e h = let z : ◌≡◌ {A = ℕ} 0 1 = cc in absurd (omega arith)
      go (stop f) (to p) e h = let z : ◌≡◌ {A = ℕ} 0 1 = cc in absurd (omega arith)
      go (stop f) (stop g) e h = record { ending = cc; visits = refl }

  pub same_route : (bs : List ℕ) (s : Location) → SameRoute (crossing cs bs s) (crossing ds bs s)
  unfolding crossing
  same_route bs s = walk_same bs s
