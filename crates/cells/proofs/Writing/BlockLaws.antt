-- How many bytes each array takes.
use Prim.Native.Nat.{ℕ, ◌*◌}
use native.Mathlib.Omega.{arith}
use mathlib.Core.Path.{◌≡◌, refl}
use mathlib.Core.List.{List, [], ◌∷◌}
use lib.ListN.{length, length-append}
use Rattle.records.specs.Put.{joined}
use Rattle.records.specs.Records.{ref_bytes}
use Rattle.cells.specs.Entries.{links_in, values_in, stored_start, file_node, file_junction}
use Rattle.cells.specs.Blocks.{junction_record, node_record, links_records, refs_block, junctions_block}
use Rattle.cells.specs.Blocks.{links_block, nodes_block}
use Rattle.records.proofs.RecordBack.{node_length, junction_length, ref_length}
use Rattle.records.proofs.Puts.{joined_length}
use Rattle.cells.proofs.Writing.Ranges.{links_size}
use Rattle.cells.proofs.Sequences.Joined.{laid_length}
use Rattle.cells.specs.declared.node_entry.NodeEntry.{NodeEntry}
use Rattle.cells.specs.declared.link.PathLink.{PathLink}
use Rattle.cells.specs.declared.junction_entry.JunctionEntry.{JunctionEntry}
use Rattle.records.specs.declared.junction_ref.NodeJunctionRef.{NodeJunctionRef}

pub record_length : (links : List PathLink) (before : ℕ) (n : NodeEntry) → length (node_record links before n) ≡ 40
record_length links before n =
    let count = length (links_in links n) in
    node_length (file_node (stored_start before count) count n)

pub nodes_length : (links : List PathLink) (nodes : List NodeEntry) → length (nodes_block links nodes)
    ≡ 40 * length nodes
nodes_length links nodes = laid_length (links_in links) (node_record links) 40 (record_length links) 0 nodes

pub links_length : (links : List PathLink) (nodes : List NodeEntry) → length (links_block links nodes)
    ≡ 8 * length (joined (links_in links) nodes)
unfolding joined
links_length links [] = refl
links_length links (n ∷ ns) =
    omega (
      arith,
      length-append (links_records links n) (links_block links ns),
      links_size links n,
      links_length links ns,
      length-append (links_in links n) (joined (links_in links) ns),
    )

pub junctions_length : (heights : List ℕ) (junctions : List JunctionEntry) → length (junctions_block heights junctions)
    ≡ 12 * length junctions
junctions_length heights junctions = laid_length (values_in heights) junction_record 12
    (λ k j. junction_length (file_junction k j)) 0 junctions

pub refs_length : (refs : List NodeJunctionRef) → length (refs_block refs) ≡ 8 * length refs
refs_length refs = joined_length ref_bytes 8 ref_length refs
