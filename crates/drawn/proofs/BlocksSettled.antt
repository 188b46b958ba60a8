-- The arrays of nodes and junctions as they are written, read: those that memory holds, settled. (cells BlocksBack,
-- with the coordinates left open.)
use Prim.Native.Nat.{ℕ, ◌+◌, ◌*◌, ◌%◌, ◌<◌}
use native.Mathlib.Omega.{arith}
use mathlib.Core.Path.{◌≡◌, refl, sym, ap, ◌∙◌}
use mathlib.Core.Bool.{true}
use mathlib.Core.List.{List, map, map-id}
use lib.ListN.{length, get_or}
use borrow.Author.Tests.{eqb-true}
use Rattle.std.specs.List.{All}
use Rattle.std.proofs.lemmas.List.Elements.{All-from_get_or, All-weaker}
use Rattle.cells.specs.declared.node_entry.NodeEntry.{NodeEntry}
use Rattle.cells.specs.declared.link.PathLink.{PathLink}
use Rattle.cells.specs.declared.junction_entry.JunctionEntry.{JunctionEntry}
use Rattle.cells.specs.Lists.{every}
use Rattle.cells.specs.Nodes.{no_entry, no_map}
use Rattle.cells.specs.Paths.{path_node}
use Rattle.cells.specs.CellOf.{node_with, junction_with}
use Rattle.cells.specs.Cell.{body_of}
use Rattle.cells.specs.StoredCell.{no_junction}
use Rattle.cells.specs.FileCell.{file_body, file_nodes, file_junctions}
use Rattle.cells.specs.Entries.{links_in, values_in, file_node, file_junction}
use Rattle.cells.specs.WriteChecks.{accepted, check_nodes, check_junctions}
use Rattle.cells.specs.WriteCounts.{Sized}
use Rattle.cells.specs.Blocks.{heights_block, junctions_block, links_block, nodes_block}
use Rattle.cells.proofs.Forms.EntryFits.{LinkFits}
use Rattle.cells.proofs.Sequences.Tests.{every_at}
use Rattle.cells.proofs.WritingBack.KeptCells.{IsByte}
use Rattle.cells.proofs.WritingBack.AsRead.{whole_map}
use Rattle.cells.proofs.WritingBack.BlocksBack.{kept_at, NodeFits, start_of, with_body, junction_read, nodes_by}
use Rattle.cells.proofs.WritingBack.BlocksBack.{junctions_by}
use Rattle.drawn.specs.Settled.{settled_position, settled_body, settled_node, settled_junction}
use Rattle.drawn.specs.Made.{FittedNode, FittedJunction}

-- ---- nodes

body_back : (start count : ℕ) (n : NodeEntry) → file_body (file_node start count n) ≡ settled_body (body_of n)
unfolding file_node path_node
body_back start count n = λ i. record (body_of n) {
  position = settled_position n.position;
  flags5 = low count n.flags5 i;
}
  where
    low : (c f : ℕ) → (c * 8 + f % 8) % 8 ≡ f % 8
    low c f = omega arith

pub nodes_settled : (links : List PathLink) (nodes : List NodeEntry)
    → accepted (check_nodes (λ n. length (links_in links n)) 0 0 nodes) ≡ true
    → All FittedNode (map (node_with links) nodes)
    → file_nodes (nodes_block links nodes) (links_block links nodes)
    ≡ map (λ n. settled_node (node_with links n)) nodes
nodes_settled links nodes ok t =
    let own = node_with links in
    let at : (i : ℕ) → i < length nodes → FittedNode (own (get_or nodes i no_entry)) = λ i lt. kept_at FittedNode own
    nodes i no_entry t lt in
    let fits : All NodeFits nodes = All-from_get_or NodeFits nodes no_entry (λ i lt.
    record { area_id = (at i lt).area; node_id = (at i lt).number; body = (at i lt).body }) in
    let k : All (λ n. All LinkFits n.links) (map own nodes) =
    All-weaker FittedNode (λ n. All LinkFits n.links) (λ n h. h.links) (map own nodes) t in
    sym (map-id (file_nodes (nodes_block links nodes) (links_block links nodes)))
    ∙ nodes_by links nodes ok fits k (λ n. n) (λ n. settled_node (own n))
    (λ i lt. ap (with_body (own (get_or nodes i no_entry)))
    (body_back (start_of links nodes i) (length (links_in links (get_or nodes i no_entry))) (get_or nodes i no_entry)))

-- ---- junctions

-- those of a cell whose numbers fit are sized
pub fitted_sized : (heights : List ℕ) (js : List JunctionEntry) → All FittedJunction (map (junction_with heights) js)
    → All Sized js
fitted_sized heights js t = All-from_get_or Sized js no_map (λ i lt.
    let h : FittedJunction (junction_with heights (get_or js i no_map)) = kept_at FittedJunction
    (junction_with heights) js i no_map t lt in
    record { width = h.width; height = h.height })

junction_settled : (heights : List ℕ) (j : JunctionEntry)
    → junction_read heights j ≡ settled_junction (junction_with heights j)
unfolding file_junction values_in
junction_settled heights j = refl

pub junctions_settled : (heights : List ℕ) (js : List JunctionEntry)
    → accepted (check_junctions (λ j. length (values_in heights j)) 0 0 js) ≡ true
    → All FittedJunction (map (junction_with heights) js)
    → every whole_map (map (junction_with heights) js) ≡ true
    → file_junctions (junctions_block heights js) (heights_block heights js)
    ≡ map (λ j. settled_junction (junction_with heights j)) js
junctions_settled heights js ok t maps =
    let own = junction_with heights in
    let values : All (λ j. All IsByte j.values) (map own js) = All-weaker FittedJunction (λ j. All IsByte j.values)
    (λ j k. k.values) (map own js) t in
    let full : All (λ j. length j.values ≡ j.width * j.height) (map own js) =
    All-from_get_or (λ j. length j.values ≡ j.width * j.height) (map own js) no_junction
    (λ i lt. eqb-true _ _ (every_at whole_map (map own js) i no_junction maps lt)) in
    sym (map-id (file_junctions (junctions_block heights js) (heights_block heights js)))
    ∙ junctions_by heights js ok (fitted_sized heights js t) values full (λ j. j) (λ j. settled_junction (own j))
    (λ i lt. junction_settled heights (get_or js i no_map))
