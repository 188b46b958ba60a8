-- What is left to put makes the whole, and the rest of the check accepts it.
use Rattle.std.proofs.Common.{◌≡◌, true, ◌+◌, ◌*◌, ◌≤◌, length, drop}
use Rattle.records.specs.Put.{put}
use Rattle.cells.specs.Entries.{links_in}
use Rattle.cells.specs.WriteChecks.{links_within, accepted, check_nodes}
use Rattle.cells.specs.Blocks.{laid, node_record, nodes_block}
use Rattle.cells.proofs.blocks.put_nodes.Given as goal

abbrev pub invariant-loop-n : goal.invariant-loop-n
invariant-loop-n l =
    (l.p ≡ l.at + 40 * l.n-index) × (accepted (check_nodes (links_within (length l.links)) l.n-index l.before
    (drop l.n-index l.nodes)) ≡ true)
    × (put l.section l.p (laid (links_in l.links) (node_record l.links) l.before (drop l.n-index l.nodes))
    ≡ put l.initial.section l.at (nodes_block l.links l.nodes))
    × (l.before ≤ 65566)
