-- What checks 14, 12 and 8 to 11 give together: a refusal, or how much there is to write. No public function's
-- contract cites this.
use Rattle.std.specs.Prelude.{◌≡◌, ◌<◌, ◌≤◌, true, false, ltb, length}
use Rattle.std.specs.List.{All}
use Rattle.cells.specs.declared.junction_entry.JunctionEntry.{JunctionEntry}
use Rattle.records.specs.Put.{joined}
use Rattle.numbers.specs.Refusals.{refuse_if, and_then}
use Rattle.cells.specs.Memory.{Memory, over_limit}
use Rattle.cells.specs.Entries.{links_in, values_in}
use Rattle.cells.specs.WriteChecks.{links_within, values_within, maps_cut, accepted, check_nodes, check_junctions}
use Rattle.cells.specs.Blocks.{heights_block}
use Rattle.std.specs.Prelude.{Result, Ok}
use Rattle.numbers.specs.declared.refusal.Refusal.{Refusal}
use Rattle.numbers.specs.declared.refusal.Refusal.TheVariants.{TooManyRefs, WrongSize, AtLimit}
use Rattle.cells.specs.declared.counts.Counts.{Counts}

-- of the cell h
unfoldable pub write_counts : Memory → Result Counts Refusal
write_counts h =
    refuse_if (over_limit h.ynd) AtLimit
    (refuse_if (maps_cut h.ynd.heightmap_count h.junctions) WrongSize
    (and_then (check_nodes (λ n. length (links_in h.links n)) 0 0 h.nodes) λ l.
    and_then (check_junctions (λ j. length (values_in h.heights j)) 0 0 h.junctions) λ v.
    refuse_if (ltb 65535 h.ynd.ref_count) TooManyRefs
    (Ok (record {
      nodes = length h.nodes;
      links = l;
      junctions = length h.junctions;
      heights = v;
      refs = length h.refs;
    }))))

-- the lists are no longer than the struct's counts
pub record Cut (h : Memory) : Type 0 where
  pub nodes_cut : length h.nodes ≤ h.ynd.node_count
  pub junctions_cut : length h.junctions ≤ h.ynd.junction_count
  pub refs_cut : length h.refs ≤ h.ynd.ref_count

-- a junction's own counts, as numbers of 8 bits
pub record Sized (j : JunctionEntry) : Type 0 where
  pub width : j.width < 256
  pub height : j.height < 256

-- what the counts k say of it, once nothing is refused
pub record Counted (h : Memory) (k : Counts) : Type 0 where
  pub nodes_told : accepted (check_nodes (links_within (length h.links)) 0 0 h.nodes) ≡ true
  pub junctions_told : accepted (check_junctions (values_within (length h.heights)) 0 0 h.junctions) ≡ true
  pub nodes_are : k.nodes ≡ length h.nodes
  pub nodes_few : k.nodes ≤ 65536
  pub links_are : k.links ≡ length (joined (links_in h.links) h.nodes)
  pub links_few : k.links ≤ 65566
  pub junctions_are : k.junctions ≡ length h.junctions
  pub junctions_few : k.junctions ≤ 4096
  pub heights_are : k.heights ≡ length (heights_block h.heights h.junctions)
  pub heights_few : k.heights ≤ 131070
  pub refs_are : k.refs ≡ length h.refs
  pub refs_few : k.refs ≤ 65535
  pub sized : All Sized h.junctions
  pub maps_told : maps_cut h.ynd.heightmap_count h.junctions ≡ false

-- where nothing is refused, all junctions are
abbrev pub SizedIfCounted : Memory → Type 0
SizedIfCounted h = (k : Counts) → write_counts h ≡ Ok k → All Sized h.junctions
