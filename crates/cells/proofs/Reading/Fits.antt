-- When no lent list is shorter than the cell's count of its entries.
-- Assumes nothing.
use Prim.Native.Nat.{◌≤◌}
use mathlib.Core.Path.{◌≡◌}
use lib.Dec.{ltb}
use lib.ListN.{length}
use borrow.Author.Tests.{ltb-false}
use Rattle.std.specs.Prelude.{Ok, Err}
use Rattle.numbers.specs.Refusals.{Answer}
use Rattle.numbers.specs.declared.refusal.Refusal.TheVariants.{TooShort}
use Rattle.numbers.specs.declared.refusal.Lent.{Lent}
use Rattle.cells.specs.Memory.{Memory, short, short_of}
use Rattle.cells.proofs.Sequences.Tests.{by_test}

-- no list is shorter than its count
pub record Whole (m : Memory) : Type 0 where
  pub nodes_fit : m.ynd.node_count ≤ length m.nodes
  pub links_fit : m.ynd.link_count ≤ length m.links
  pub junctions_fit : m.ynd.junction_count ≤ length m.junctions
  pub heights_fit : m.ynd.heightmap_count ≤ length m.heights
  pub refs_fit : m.ynd.ref_count ≤ length m.refs

pub whole : (m : Memory) → short m ≡ Ok tt → Whole m
unfolding short_of
whole m h =
    by_test (ltb (length m.nodes) m.ynd.node_count) (λ t. lacks (rw t at h)) (λ f₀.
    by_test (ltb (length m.links) m.ynd.link_count) (λ t. lacks (rw (f₀, t) at h)) (λ f₁.
    by_test (ltb (length m.junctions) m.ynd.junction_count) (λ t. lacks (rw (f₀, f₁, t) at h)) (λ f₂.
    by_test (ltb (length m.heights) m.ynd.heightmap_count) (λ t. lacks (rw (f₀, f₁, f₂, t) at h)) (λ f₃.
    by_test (ltb (length m.refs) m.ynd.ref_count) (λ t. lacks (rw (f₀, f₁, f₂, f₃, t) at h)) (λ f₄.
    record {
      nodes_fit = ltb-false _ _ f₀;
      links_fit = ltb-false _ _ f₁;
      junctions_fit = ltb-false _ _ f₂;
      heights_fit = ltb-false _ _ f₃;
      refs_fit = ltb-false _ _ f₄;
    })))))
  where
    lacks : {P : Type 0} {l : Lent} → ◌≡◌ {A = Answer} (Err (TooShort l)) (Ok tt) → P
    lacks e = cc
