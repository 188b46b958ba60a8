-- Agreement is an equivalence: which of the two pairs its lengths and ranges are taken from makes no difference.
-- Assumes nothing.
use Prim.Native.Nat.{ℕ, ◌*◌, ◌/◌, ◌<◌}
use native.Mathlib.Omega.{arith}
use mathlib.Core.Path.{◌≡◌, refl, sym, ◌∙◌}
use mathlib.Core.List.{List}
use lib.ListN.{length}
use Rattle.records.specs.Records.{node_at, junction_at}
use Rattle.records.specs.declared.node.Node as raw-node
use Rattle.records.specs.declared.junction.NodeJunction.{NodeJunction}
use Rattle.agreement.specs.Agree.{InSomeNode, InSomeJunction, SameArrays, Agree}
use Rattle.cells.specs.FileCauses.{Arrays, arrays_of}
use Rattle.agreement.proofs.SameReads.{Alike, ranges_of, raw_nodes, raw_junctions}
use Rattle.agreement.proofs.Agreed.{agree_alike}

module _ (a b : Arrays) (long : Alike a b) (same : SameArrays a b) where
  -- the same ranges
  abbrev link_id : (ℕ → raw-node.Node) → ℕ → ℕ
  link_id f i = (f (i * 40)).link_id

  abbrev link_count : (ℕ → raw-node.Node) → ℕ → ℕ
  link_count f i = (f (i * 40)).link_count_flags / 8

  abbrev value_from : (ℕ → NodeJunction) → ℕ → ℕ
  value_from f i = (f (i * 12)).heightmap_ptr

  abbrev value_count : (ℕ → NodeJunction) → ℕ → ℕ
  value_count f i = (f (i * 12)).heightmap_dim_x * (f (i * 12)).heightmap_dim_y

  in_node_on : (k : ℕ) → InSomeNode a.nodes k → InSomeNode b.nodes k
  in_node_on k h =
      let e : link_id (node_at a.nodes) h.node
      ≡ link_id (node_at b.nodes) h.node = λ q. link_id (raw_nodes a b long (ranges_of a b same) q) h.node in
      let c : link_count (node_at a.nodes) h.node
      ≡ link_count (node_at b.nodes) h.node = λ q. link_count (raw_nodes a b long (ranges_of a b same) q)
      h.node in
      record {
        node = h.node;
        is_node = omega (arith, long.nodes, h.is_node);
        from = omega (arith, h.from);
        before =
            omega (arith, h.before);
      }

  in_node_back : (k : ℕ) → InSomeNode b.nodes k → InSomeNode a.nodes k
  in_node_back k h =
      let e : link_id (node_at a.nodes) h.node
      ≡ link_id (node_at b.nodes) h.node = λ q. link_id (raw_nodes a b long (ranges_of a b same) q) h.node in
      let c : link_count (node_at a.nodes) h.node
      ≡ link_count (node_at b.nodes) h.node = λ q. link_count (raw_nodes a b long (ranges_of a b same) q)
      h.node in
      record {
        node = h.node;
        is_node = omega (arith, long.nodes, h.is_node);
        from = omega (arith, h.from);
        before =
            omega (arith, h.before);
      }

  in_junction_on : (k : ℕ) → InSomeJunction a.junctions k → InSomeJunction b.junctions k
  in_junction_on k h =
      let e : value_from (junction_at a.junctions) h.junction
      ≡ value_from (junction_at b.junctions) h.junction = λ q. value_from
      (raw_junctions a b long (ranges_of a b same) q) h.junction in
      let c : value_count (junction_at a.junctions) h.junction
      ≡ value_count (junction_at b.junctions) h.junction = λ q. value_count
      (raw_junctions a b long (ranges_of a b same) q) h.junction in
      record {
        junction = h.junction;
        is_junction = omega (arith, long.junctions, h.is_junction);
        from = omega
            (arith, h.from);
        before = omega (arith, h.before);
      }

  in_junction_back : (k : ℕ) → InSomeJunction b.junctions k → InSomeJunction a.junctions k
  in_junction_back k h =
      let e : value_from (junction_at a.junctions) h.junction
      ≡ value_from (junction_at b.junctions) h.junction = λ q. value_from
      (raw_junctions a b long (ranges_of a b same) q) h.junction in
      let c : value_count (junction_at a.junctions) h.junction
      ≡ value_count (junction_at b.junctions) h.junction = λ q. value_count
      (raw_junctions a b long (ranges_of a b same) q) h.junction in
      record {
        junction = h.junction;
        is_junction = omega (arith, long.junctions, h.is_junction);
        from = omega
            (arith, h.from);
        before = omega (arith, h.before);
      }

  arrays_back : SameArrays b a
  arrays_back = record {
    nodes = λ k h. sym (same.nodes k (omega (arith, long.nodes)));
    links = λ k h c. sym (same.links k (omega (arith, long.links)) (in_node_back (k / 8) c));
    junctions = λ k h. sym (same.junctions k (omega (arith, long.junctions)));
    heights = λ k h c. sym (same.heights k (omega (arith, long.heights)) (in_junction_back k c));
    refs = λ k h. sym (same.refs k (omega (arith, long.refs)));
  }

  arrays_through : (c : Arrays) → SameArrays b c → SameArrays a c
  arrays_through c next = record {
    nodes = λ k h. same.nodes k h ∙ next.nodes k (omega (arith, long.nodes));
    links = λ k h r. same.links k h r ∙ next.links k (omega (arith, long.links)) (in_node_on (k / 8) r);
    junctions = λ k h. same.junctions k h ∙ next.junctions k (omega (arith, long.junctions));
    heights = λ k h r. same.heights k h r ∙ next.heights k (omega (arith, long.heights)) (in_junction_on k r);
    refs = λ k h. same.refs k h ∙ next.refs k (omega (arith, long.refs));
  }

pub agree_self : (s g : List ℕ) → 0 < length s → Agree s g s g
agree_self s g some = record {
  same_system = refl;
  same_graphics = refl;
  not_empty = some;
  same_root = λ k h inside c. refl;
  same_arrays = λ root. record {
    nodes = λ k h. refl;
    links = λ k h c. refl;
    junctions = λ k h. refl;
    heights = λ k
        h c. refl;
    refs = λ k h. refl;
  };
}

pub agree_back : (s g s' g' : List ℕ) → Agree s g s' g' → Agree s' g' s g
agree_back s g s' g' h = record {
  same_system = sym h.same_system;
  same_graphics = sym h.same_graphics;
  not_empty = omega (arith, h.not_empty, h.same_system);
  same_root = λ k low inside c. sym (h.same_root k low (omega (arith, h.same_system)) c);
  same_arrays = λ root. arrays_back (arrays_of s g) (arrays_of s' g') (agree_alike s g s' g' h)
      (h.same_arrays (omega (arith, h.same_system)));
}

pub agree_through : (s g s' g' t f : List ℕ) → Agree s g s' g' → Agree s' g' t f → Agree s g t f
agree_through s g s' g' t f h next = record {
  same_system = h.same_system ∙ next.same_system;
  same_graphics = h.same_graphics ∙ next.same_graphics;
  not_empty = h.not_empty;
  same_root = λ k low inside c. h.same_root k low inside c ∙ next.same_root k low (omega (arith, h.same_system)) c;
  same_arrays = λ root.
      arrays_through (arrays_of s g) (arrays_of s' g') (agree_alike s g s' g' h) (h.same_arrays root)
      (arrays_of t f) (next.same_arrays (omega (arith, h.same_system)));
}
