-- What the call answers, by what it asks before the walk.
use Rattle.std.proofs.Common.{◌≡◌, ℕ, ◌+◌, ◌<◌, ◌≤◌, Bool, true, false, List, [], get_or, length, take}
use Rattle.std.proofs.Common.{◌∷◌, map, refl, sym, ap, ◌∙◌, arith}
use lib.Seq.{length-take-le, get_or-take}
use borrow.Author.Tests.{le-ltb, lt-leb}
use lib.Dec.{leb, ltb}
use Rattle.cells.proofs.Sequences.Tests.{by_test}
use Rattle.std.specs.Prelude.{Result, Ok, Err}
use Rattle.numbers.specs.Refusals.{done, decided}
use Rattle.walks.specs.PlaceCauses.{place_causes}
use Rattle.numbers.specs.declared.refusal.Refusal.{Refusal}
use Rattle.cells.specs.LookupCall.{node_call}
use Rattle.cells.specs.Memory.{Memory, over_limit}
use Rattle.cells.specs.Nodes.{no_entry, number_of, first_area}
use Rattle.cells.specs.declared.ynd.Ynd.{Ynd}
use Rattle.walks.specs.Claim.{places}
use Rattle.walks.specs.Walk.{World, walk_in}
use Rattle.walks.specs.WalkCall.{walk_left, walk_call}
use Rattle.walks.specs.WalkParts.{lent_world, traced, over, TrailLeft, trail_left, stored_in}
use Rattle.walks.specs.declared.walk.Walked.{Walked}
use Rattle.walks.proofs.Reaches.{places_few}
use Rattle.walks.proofs.WalkCases.{ends}
use Rattle.rounds.specs.Follow.{starting_at, follow_round, area_answer, follow_version}
use Rattle.rounds.specs.Round.{unless}
use Rattle.rounds.specs.declared.file.Version.{Version}
use Rattle.indexed.specs.FollowIndexed.{follow_round_indexed, follow_version_indexed}
use Rattle.indexed.specs.FirstPlaces.{FirstPlaces, led}
use Rattle.cells.specs.Nodes.{number_at}
use Rattle.indexed.specs.WalkIndexed.{indexed_causes, asked, first_indexed, index_left, walk_indexed}
use Rattle.cells.specs.declared.node_entry.NodeEntry.{NodeEntry}

module _ (m : Memory) (bs : List ℕ) (start room : ℕ) (visited : List ℕ) where
  pub walked_then : done ≡ asked m.ynd (length m.nodes) (length m.links) start room
      → start < m.ynd.node_count → over_limit m.ynd ≡ false
      → m.ynd.node_count ≤ length m.nodes → m.ynd.link_count ≤ length m.links
      → (a : Result Walked Refusal) (v : List ℕ)
      → trail_left a v ≡ stored_in (λ q. q) (walk_in (lent_world m.ynd m.nodes m.links) bs start) visited
      → walk_left a v ≡ walk_indexed m room bs start visited
  unfolding walk_indexed place_causes
  walked_then e inside within nodes links a v t =
      let place : done ≡ decided (place_causes m.ynd (length m.nodes) (length m.links) start)
      = rw (lt-leb _ _ inside, within, le-ltb _ _ nodes, le-ltb _ _ links) refl in
      rw (sym e) (ends m bs start visited place a v t)

-- with a scratch that is long enough the call is `walk`, refusals included
pub as_walk : (m : Memory) (room : ℕ) (bs : List ℕ) (start : ℕ) (visited : List ℕ) → 65536 ≤ room
    → walk_indexed m room bs start visited ≡ walk_call m bs start visited
unfolding walk_indexed indexed_causes walk_call
as_walk m room bs start visited h =
    by_test (leb m.ynd.node_count start) (λ t. rw t) (λ f₀.
    by_test (over_limit m.ynd) (λ t. rw (f₀, t)) (λ f₁.
    by_test (ltb (length m.nodes) m.ynd.node_count) (λ t. rw (f₀, f₁, t)) (λ f₂.
    by_test (ltb (length m.links) m.ynd.link_count) (λ t. rw (f₀, f₁, f₂, t)) (λ f₃.
    rw (f₀, f₁, f₂, f₃, le-ltb _ _ h)))))

-- where there are fewer choices than entries the walk is accepted, and the scratch is the index
pub index_accepted : (w : World ℕ) (bs : List ℕ) (start : ℕ) (visited : List ℕ) → length bs < length visited
    → (a : Result Walked Refusal) (v : List ℕ) → trail_left a v ≡ stored_in (λ q. q) (walk_in w bs start) visited
    → (y : Ynd) (nodes : List NodeEntry) (before now : List ℕ)
    → now ≡ first_indexed (map number_of (take y.node_count nodes)) 0 before → now ≡ index_left a y nodes before
unfolding stored_in
index_accepted w bs start visited lt a v e y nodes before now h =
    let t = walk_in w bs start in
    let few = places_few w bs start in
    let room : ltb (length visited) (length (places t)) ≡ false = le-ltb _ _ (omega (arith, few)) in
    let stored : stored_in (λ q. q) t visited ≡ trail_left (Ok (traced t)) (over (map (λ q. q) (places t)) visited)
    = rw room refl in
    let answer : a ≡ Ok (traced t) = ap (λ (x : TrailLeft ℕ). x.answer) (e ∙ stored) in
    h ∙ ap (λ (r : Result Walked Refusal). index_left r y nodes before) (sym answer)

-- with such a scratch the round is `follow_round`'s
pub as_round : (m : Memory) (room start : ℕ) (bs visited : List ℕ) → 65536 ≤ room
    → follow_round_indexed m room start bs visited ≡ follow_round m start bs visited
unfolding follow_round_indexed follow_round
as_round m room start bs visited h =
    λ i. starting_at (node_call m.ynd m.nodes start) (λ p. as_walk m room bs p visited h i) visited

-- and that of either version `follow_version`'s
pub as_version : (m : Memory) (room : ℕ) (v : Version) (start : ℕ) (bs visited : List ℕ) → 65536 ≤ room
    → follow_version_indexed m room v start bs visited ≡ follow_version m v start bs visited
unfolding follow_version_indexed follow_version
as_version m room v start bs visited h =
    λ i. unless (area_answer v (first_area (take m.ynd.node_count m.nodes))) (λ cause. walk_left (Err cause) visited)
    (as_round m room start bs visited h i)

-- the first n nodes are all that the scratch leads to
pub places_front : (nodes : List NodeEntry) (n : ℕ) → n ≤ length nodes → (s : List ℕ)
    → FirstPlaces (take n nodes) 0 (length (take n nodes)) s → FirstPlaces nodes 0 n s
places_front nodes n fits s h =
    let long : length (take n nodes) ≡ n = length-take-le n nodes fits in
    let same = λ (j : ℕ) (lt : j < n). ap number_of (get_or-take n nodes j no_entry lt) in
    let led_same = λ (j : ℕ) (lt : j < n). ap (λ (k : ℕ). get_or s k 0) (same j lt) in
    record {
      has_it = λ j a b.
          let le = h.not_behind j a (omega (arith, long)) in
          let to : led nodes s j < n = omega (arith, le, led_same j b) in
          ap (number_at nodes) (sym (led_same j b)) ∙ sym (same (led (take n nodes) s j) (omega (arith, le)))
          ∙ h.has_it j a (omega (arith, long)) ∙ same j b;
      not_behind = λ j a b. omega (arith, sym (led_same j b), h.not_behind j a (omega (arith, long)));
    }

-- for the function
pub ruleset call_laws = (length-take-le, places_front, as_walk)
