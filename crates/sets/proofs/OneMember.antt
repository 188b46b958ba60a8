-- A set of one member is its cell: a crossing walk in it is the walk, each place in the member 0.
use Prim.Native.Nat.{ℕ}
use mathlib.Core.Path.{◌≡◌, refl, ap, sym, ◌∙◌}
use mathlib.Core.Bool.{false}
use mathlib.Core.List.{List, [], ◌∷◌, map}
use mathlib.Core.Option.{Option, none, some}
use lib.Dec.{eqb}
use borrow.Author.Tests.{eqb-true}
use Rattle.cells.specs.Area.{belongs}
use Rattle.cells.specs.Cell.{Cell, numbers}
use Rattle.cells.specs.Lookup.{first_with, find}
use Rattle.cells.proofs.Sequences.Tests.{by_test, true_false}
use Rattle.walks.specs.Walk.{Next, to, stop, next, see, link_at, shown_of, take_link, arrive, Visit, Trail, go_on}
use Rattle.walks.specs.Walk.{walk_in, walk}
use Rattle.sets.specs.Members.{area_of, areas, member_for}
use Rattle.sets.specs.Crossing.{Location, location, arrive_in, next_in, crossing}
use Rattle.cells.proofs.Lookups.AreaLaws.{belongs_own}
use Rattle.sets.proofs.MemberLaws.{take_in, next_is}
use Rattle.cells.specs.declared.link.PathLink.{PathLink}

-- a trail with each place of another kind
abbrev pub placed_in : {L M : Type 0} → (L → M) → Trail L → Trail M
placed_in f t = record {
  ending = t.ending;
  visits = map (λ v. record
      { place = f v.place; seen = v.seen; link = v.link }) t.visits;
}

abbrev next_by : {L M : Type 0} → (L → M) → Next L → Next M
next_by f (to q) = to (f q)
next_by f (stop e) = stop e

module _ (c : Cell) where
  -- a link that the own rule doesn't claim names no member
  pub none_named : (a : ℕ) → belongs (area_of c) a ≡ false → first_with (areas (c ∷ [])) a ≡ none
  unfolding first_with
  none_named a f = by_test (eqb (area_of c) a)
      (λ t. true_false (sym (belongs_own a) ∙ (ap (λ (x : ℕ). belongs x a) (sym (eqb-true (area_of c) a t)) ∙ f)))
      (λ g. rw g)

  arrives : (r : Option ℕ) → arrive_in 0 r ≡ next_by (location 0) (arrive r)
  arrives (some q) = refl
  arrives none = refl

  link_leads : (l : Option PathLink) → take_in (c ∷ []) 0 l ≡ next_by (location 0) (take_link c.nodes l)
  unfolding member_for
  link_leads none = refl
  link_leads (some l) = by_test (belongs (area_of c) l.area_id)
      (λ t. rw t (arrives (find (numbers c.nodes) l.node_id)))
      (λ f. rw (f, none_named l.area_id f))

  next_same : (p b : ℕ) → next_in (c ∷ []) (location 0 p) b ≡ next_by (location 0) (next c.nodes p b)
  unfolding next
  next_same p b = next_is (c ∷ []) (location 0 p) b ∙ link_leads (link_at c.nodes p b)

  pub one_member : (bs : List ℕ) (p : ℕ) → crossing (c ∷ []) bs (location 0 p) ≡ placed_in (location 0) (walk c bs p)
  unfolding crossing walk walk_in
  one_member [] p = refl
  one_member (b ∷ bs) p = rw (next_same p b) (go (next c.nodes p b) (one_member bs))
    where
      here : Visit Location
      here = record { place = location 0 p; seen = see c p; link = shown_of (link_at c.nodes p b) }

      go : (x : Next ℕ) → ((q : ℕ) → crossing (c ∷ []) bs (location 0 q) ≡ placed_in (location 0) (walk c bs q))
          → go_on here (crossing (c ∷ []) bs) (next_by (location 0) x)
          ≡ placed_in (location 0) (go_on (record {
            place = p;
            seen = see c p;
            link = shown_of (link_at c.nodes p b);
          }) (walk c bs) x)
      go (to q) ih = rw (ih q)
      go (stop e) ih = refl
