-- What the calls answer that go by distances. `far` stands for the distances that the loops went by. Assumes nothing.
use Prim.Native.Nat.{ℕ, ◌≤◌}
use mathlib.Core.Path.{◌≡◌, refl, ap, sym, ◌∙◌}
use mathlib.Core.Bool.{true, false}
use mathlib.Core.List.{List, ◌++◌}
use lib.Dec.{leb}
use lib.IntN.{ℤ}
use lib.ListN.{length, drop}
use borrow.Author.Tests.{lt-ltb, le-ltb, leb-true, leb-false}
use Rattle.cells.specs.declared.ynd.Ynd.{Ynd}
use Rattle.cells.specs.Memory.{over_limit, nodes_causes}
use Rattle.reach.specs.Reach.{distances, within, ordered, nearest_of, left, places_within}
use Rattle.reach.specs.Reach.{within_causes, within_call, nearest_answer, nearest_call}
use Rattle.reach.proofs.OrderLaws.{ordered_long}
use Rattle.numbers.proofs.Refusing.{tested}
use Rattle.reach.proofs.CutLaws.{cut_nodes, Cut, cut_within, cut_ordered, cut_nearest}
use Rattle.std.specs.Prelude.{Ok, Err}
use Rattle.numbers.proofs.Refusing.{decided_append}
use Rattle.numbers.specs.declared.refusal.Refusal.TheVariants.{TooShort}
use Rattle.numbers.specs.declared.refusal.Lent.TheVariants as lent
use Rattle.cells.specs.declared.node_entry.NodeEntry.{NodeEntry}

module _ (ynd : Ynd) (nodes : List NodeEntry) (x y : ℤ) (under : over_limit ynd ≡ false)
    (held : ynd.node_count ≤ length nodes) (far : ℕ → ℕ) (m : ℕ)
    (cut : Cut far (distances x y nodes) m ynd.node_count) where
  pub within_short : (radius : ℕ) (places : List ℕ) → leb (length (within far radius m)) (length places) ≡ false
      → left (Err (TooShort lent.List)) places ≡ within_call ynd nodes x y radius places
  unfolding within_call within_causes places_within nodes_causes
  within_short radius places h =
      let d = distances x y nodes in
      let l = ordered d (within d radius ynd.node_count) in
      let same : length (within far radius m) ≡ length l
      = ap length (cut_within far d m ynd.node_count cut radius)
      ∙ sym (ordered_long d (within d radius ynd.node_count)) in
      let less = leb-false (length l) (length places) (rw same at h) in
      rw (under, le-ltb (length nodes) ynd.node_count held, lt-ltb (length places) (length l) less) refl

  pub within_fits : (radius : ℕ) (places : List ℕ) → leb (length (within far radius m)) (length places) ≡ true
      → (count : ℕ) (after : List ℕ) → count ≡ length (within far radius m)
      → after ≡ ordered far (within far radius m) ++ drop (length (within far radius m)) places
      → left (Ok count) after ≡ within_call ynd nodes x y radius places
  unfolding within_call within_causes places_within nodes_causes
  within_fits radius places h count after c a =
      let d = distances x y nodes in
      let W = within far radius m in
      let L = ordered d (within d radius ynd.node_count) in
      let e : ordered far W ≡ L = cut_ordered far d m ynd.node_count cut radius in
      let long : length W ≡ length L = sym (ordered_long far W) ∙ ap length e in
      let less = leb-true (length L) (length places) (rw long at h) in
      (λ i. left (Ok ((c ∙ long) i)) (a i))
      ∙ (λ i. left (Ok (length L)) (e i ++ drop (long i) places))
      ∙ rw (
        under,
        le-ltb (length nodes) ynd.node_count held,
        le-ltb (length places) (length L) less,
      ) refl

  pub nearest_found : nearest_answer far (nearest_of far m) ≡ nearest_call ynd nodes x y
  unfolding nearest_call nodes_causes
  nearest_found =
      cut_nearest far (distances x y nodes) m ynd.node_count cut
      ∙ rw (under, le-ltb (length nodes) ynd.node_count held) refl

-- the laws that the call `nearest` goes by, for the check
pub ruleset nearest_laws = (tested, cut_nodes, nearest_found)

-- the laws that the call `within` goes by, for the check
pub ruleset within_laws = (leb-true, cut_nodes)
