-- What the parts of renumbering require of each other, what whoever makes a `Numbers` has to know (`Leads`), and how
-- long the lent lists are, which the contract of `lengths` cites; no other public contract cites a word of this file.
use Rattle.std.specs.Prelude.{ℕ, ◌≤◌, ◌≡◌, List, map, length, get_or}
use Rattle.std.proofs.Math.Option.{some}
use Rattle.cells.specs.Order.{new_places, last_with}
use Rattle.cells.specs.Nodes.{is_ped}
use Rattle.cells.specs.Memory.{Memory, per_list}
use Rattle.cells.specs.declared.counts.Counts.{Counts}
use Rattle.cells.specs.declared.node_entry.NodeEntry.{NodeEntry}
use Rattle.cells.specs.declared.link.PathLink.{PathLink}
use Rattle.cells.specs.declared.junction_entry.JunctionEntry.{JunctionEntry}
use Rattle.records.specs.declared.junction_ref.NodeJunctionRef.{NodeJunctionRef}

-- the scratch leads from each number that a node has to the last node that has it
pub record Indexed (numbers : List ℕ) (scratch : List ℕ) : Type 0 where
  pub at : (k p : ℕ) → last_with numbers k ≡ some p → get_or scratch k 0 ≡ p

-- the same, and it has an entry for each number
pub record Leads (numbers : List ℕ) (scratch : List ℕ) : Type 0 where
  pub fits : 65536 ≤ length scratch
  pub indexed : Indexed numbers scratch

-- each node's new place
pub record Placed (nodes : List NodeEntry) (places : List ℕ) : Type 0 where
  pub few : length nodes ≤ 65536
  pub are : places ≡ new_places (map is_ped nodes)

-- how long the lent lists are
abbrev pub lengths_of : List NodeEntry → List PathLink → List JunctionEntry → List ℕ → List NodeJunctionRef → Counts
lengths_of nodes links junctions heights refs =
    per_list (length nodes) (length links) (length junctions) (length heights) (length refs)

-- the room that an accepted call has
pub record Room (m : Memory) (scratch places : ℕ) : Type 0 where
  pub few : m.ynd.node_count ≤ 65536
  pub nodes_fit : m.ynd.node_count ≤ length m.nodes
  pub links_fit : m.ynd.link_count ≤ length m.links
  pub refs_fit : m.ynd.ref_count ≤ length m.refs
  pub scratch_fits : 65536 ≤ scratch
  pub places_fit : m.ynd.node_count ≤ places
