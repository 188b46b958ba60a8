-- A cell in other lists, whose first entries are those of the cell's own, is as tidy. Assumes nothing.
use Prim.Native.Nat.{ℕ, ◌≤◌, ◌<◌}
use mathlib.Core.Path.{◌≡◌, ap}
use mathlib.Core.List.{List}
use lib.ListN.{length, get_or}
use Rattle.cells.proofs.Editing.Conditions.{link_start, link_count, value_start}
use Rattle.cells.specs.Nodes.{value_count, no_entry, no_map}
use Rattle.cells.specs.Memory.{Memory, memory}
use Rattle.drawn.specs.Tidy.{Tidy}
use Rattle.drawn.proofs.SeparateLaws.{same}
use Rattle.cells.specs.declared.node_entry.NodeEntry.{NodeEntry}
use Rattle.cells.specs.declared.link.PathLink.{PathLink}
use Rattle.cells.specs.declared.junction_entry.JunctionEntry.{JunctionEntry}
use Rattle.records.specs.declared.junction_ref.NodeJunctionRef.{NodeJunctionRef}

pub front_tidy : (m : Memory) → Tidy m → (nodes : List NodeEntry) (links : List PathLink)
    (junctions : List JunctionEntry) (heights : List ℕ)
    (refs : List NodeJunctionRef)
    → ((q : ℕ) → q < m.ynd.node_count → get_or nodes q no_entry ≡ get_or m.nodes q no_entry)
    → ((q : ℕ) → q < m.ynd.junction_count → get_or junctions q no_map ≡ get_or m.junctions q no_map)
    → m.ynd.node_count ≤ length nodes → m.ynd.link_count ≤ length links → m.ynd.junction_count ≤ length junctions
    → m.ynd.heightmap_count ≤ length heights → m.ynd.ref_count ≤ length refs
    → Tidy (memory m.ynd nodes links junctions heights refs)
front_tidy m h nodes links junctions heights refs same_nodes same_junctions n l j v r = record {
  few_nodes = h.few_nodes;
  few_junctions = h.few_junctions;
  nodes_lie = n;
  links_lie = l;
  junctions_lie = j;
  values_lie = v;
  refs_lie = r;
  links_apart = same (λ q. link_start (get_or m.nodes q no_entry)) (λ q. link_count (get_or m.nodes q no_entry))
      (λ q. link_start (get_or nodes q no_entry)) (λ q. link_count
      (get_or nodes q no_entry)) m.ynd.node_count m.ynd.link_count
      (λ q lt. ap link_start (same_nodes q lt)) (λ q lt. ap link_count (same_nodes q lt)) h.links_apart;
  values_apart = same (λ q. value_start (get_or m.junctions q no_map)) (λ q. value_count (get_or m.junctions q no_map))
      (λ q. value_start (get_or junctions q no_map))
      (λ q. value_count (get_or junctions q no_map)) m.ynd.junction_count m.ynd.heightmap_count
      (λ q lt. ap value_start (same_junctions q lt)) (λ q lt. ap value_count (same_junctions q lt)) h.values_apart;
}
