-- Five arrays that agree on the bytes that count are read alike, whatever is refused.
-- Assumes nothing.
use Prim.Native.Nat.{ℕ, zero, suc, ◌+◌, ◌*◌, ◌/◌, ◌<◌}
use native.Mathlib.Omega.{arith}
use mathlib.Core.Path.{◌≡◌, refl, ◌∙◌}
use mathlib.Core.List.{List, ◌++◌}
use lib.ListN.{length, drop}
use Rattle.records.specs.Bytes.{byte_at}
use Rattle.records.specs.Records.{node_at, link_at, junction_at, ref_at}
use Rattle.records.specs.declared.root.Root.{Root}
use Rattle.records.specs.declared.node.Node as raw-node
use Rattle.records.specs.declared.junction.NodeJunction.{NodeJunction}
use Rattle.records.specs.declared.junction_ref.NodeJunctionRef.{NodeJunctionRef}
use Rattle.cells.specs.Lists.{up_to, join_to, sum_to}
use Rattle.cells.specs.Paths.{path_node, path_link, path_junction}
use Rattle.cells.specs.Checks.{counts_of, links_at, values_at}
use Rattle.cells.specs.Memory.{Memory, memory}
use Rattle.cells.specs.Read.{links_from, values_from, node_in, links_in, junction_in, values_in, ref_in}
use Rattle.cells.specs.Read.{cell_read, filled}
use Rattle.cells.specs.declared.counts.Counts.{Counts}
use Rattle.cells.proofs.Reading.FileRead.{up_to_same}
use Rattle.agreement.specs.Agree.{SameArrays}
use Rattle.cells.specs.FileCauses.{Arrays}
use Rattle.agreement.proofs.SameBytes.{anywhere, link_same, node_same, junction_same, ref_same}

join_to_same : {A : Type 0} (f g : ℕ → List A) (n : ℕ) → ((i : ℕ) → i < n → f i ≡ g i) → join_to f n ≡ join_to g n
unfolding join_to
join_to_same f g zero e = refl
join_to_same f g (suc n) e = λ k. join_to_same f g n (λ i h. e i (omega arith)) k ++ e n (omega arith) k

-- equally long, each
pub record Alike (a b : Arrays) : Type 0 where
  pub nodes : length a.nodes ≡ length b.nodes
  pub links : length a.links ≡ length b.links
  pub junctions : length a.junctions ≡ length b.junctions
  pub heights : length a.heights ≡ length b.heights
  pub refs : length a.refs ≡ length b.refs

-- the arrays that have ranges
pub record SameRanges (a b : Arrays) : Type 0 where
  pub nodes : (k : ℕ) → k < length a.nodes → byte_at a.nodes k ≡ byte_at b.nodes k
  pub junctions : (k : ℕ) → k < length a.junctions → byte_at a.junctions k ≡ byte_at b.junctions k

pub ranges_of : (a b : Arrays) → SameArrays a b → SameRanges a b
ranges_of a b h = record { nodes = h.nodes; junctions = h.junctions }

-- ---- records, at whatever place

module _ (a b : Arrays) (long : Alike a b) (same : SameRanges a b) where
  pub raw_nodes : ◌≡◌ {A = ℕ → raw-node.Node} (node_at a.nodes) (node_at b.nodes)
  raw_nodes = λ i at. node_same a.nodes b.nodes (λ k. anywhere a.nodes b.nodes long.nodes k (same.nodes k)) at i

  pub raw_junctions : ◌≡◌ {A = ℕ → NodeJunction} (junction_at a.junctions) (junction_at b.junctions)
  raw_junctions = λ i at. junction_same a.junctions b.junctions
      (λ k. anywhere a.junctions b.junctions long.junctions k (same.junctions k)) at i

-- ---- what is stored

module _ (a b : Arrays) (long : Alike a b) (same : SameArrays a b) where
  ns : ◌≡◌ {A = ℕ → raw-node.Node} (node_at a.nodes) (node_at b.nodes)
  ns = raw_nodes a b long (ranges_of a b same)

  js : ◌≡◌ {A = ℕ → NodeJunction} (junction_at a.junctions) (junction_at b.junctions)
  js = raw_junctions a b long (ranges_of a b same)

  raw_refs : ◌≡◌ {A = ℕ → NodeJunctionRef} (ref_at a.refs) (ref_at b.refs)
  raw_refs = λ i at. ref_same a.refs b.refs (λ k. anywhere a.refs b.refs long.refs k (same.refs k)) at i

  -- a node's links, a junction's values
  abbrev from : ℕ → ℕ
  from i = (node_at a.nodes (i * 40)).link_id

  raw_link : (i k : ℕ) → i < length a.nodes / 40 → k < links_at a.nodes i → link_at a.links ((from i + k) * 8)
      ≡ link_at b.links ((from i + k) * 8)
  raw_link i k lt few = link_same a.links b.links ((from i + k) * 8) (λ q low high.
      let place : q / 8 ≡ from i + k = omega arith in
      anywhere a.links b.links long.links q
      (λ inside. same.links q inside (record {
        node = i;
        is_node = lt;
        from = omega arith;
        before = omega arith;
      })))

  node_links : (i : ℕ) → i < length a.nodes / 40 → links_in a.nodes a.links i ≡ links_in b.nodes b.links i
  unfolding links_in links_from
  node_links i lt =
      up_to_same (λ k. path_link (link_at a.links ((from i + k) * 8)))
      (λ k. path_link (link_at b.links ((from i + k) * 8))) (links_at a.nodes i)
      (λ k few. λ q. path_link (raw_link i k lt few q))
      ∙ (λ q. up_to (λ k. path_link (link_at b.links (((ns q (i * 40)).link_id + k) * 8)))
      ((ns q (i * 40)).link_count_flags / 8))

  abbrev first : ℕ → ℕ
  first i = (junction_at a.junctions (i * 12)).heightmap_ptr

  raw_value : (i k : ℕ) → i < length a.junctions / 12 → k < values_at a.junctions i
      → byte_at a.heights (first i + k) ≡ byte_at b.heights (first i + k)
  raw_value i k lt few =
      anywhere a.heights b.heights long.heights (first i + k) (λ inside. same.heights (first i + k) inside
      (record { junction = i; is_junction = lt; from = omega arith; before = omega arith }))

  junction_values_law : (i : ℕ) → i < length a.junctions / 12 → values_in a.junctions a.heights i
      ≡ values_in b.junctions b.heights i
  unfolding values_in values_from
  junction_values_law i lt =
      up_to_same (λ k. byte_at a.heights (first i + k)) (λ k. byte_at b.heights (first i + k))
      (values_at a.junctions i) (λ k few. raw_value i k lt few)
      ∙ (λ q. up_to (λ k. byte_at b.heights ((js q (i * 12)).heightmap_ptr + k))
      ((js q (i * 12)).heightmap_dim_x * (js q (i * 12)).heightmap_dim_y))

  -- what is stored
  abbrev counts : Counts
  counts = counts_of a.nodes a.junctions a.refs

  pub filled_same : (root : Root) (m : Memory)
      → filled root counts a.nodes a.links a.junctions a.heights a.refs m
      ≡ filled root counts b.nodes b.links b.junctions b.heights b.refs m
  unfolding filled node_in junction_in ref_in
  filled_same root m =
      let c = counts in
      λ q.
      memory
      (cell_read root c)
      (up_to (λ i. path_node (ns q (i * 40)) (sum_to (λ p. (ns q (p * 40)).link_count_flags / 8) i))
      c.nodes ++ drop c.nodes m.nodes)
      (join_to_same (links_in a.nodes a.links) (links_in b.nodes b.links) c.nodes node_links q ++ drop c.links m.links)
      (up_to (λ i. path_junction (js q (i * 12)) (sum_to
      (λ p. (js q (p * 12)).heightmap_dim_x * (js q (p * 12)).heightmap_dim_y) i)) c.junctions
      ++ drop c.junctions m.junctions)
      (join_to_same (values_in a.junctions a.heights) (values_in b.junctions b.heights) c.junctions
      junction_values_law q ++ drop c.heights m.heights)
      (up_to (λ i. raw_refs q (i * 8)) c.refs ++ drop c.refs m.refs)
