use Rattle.std.proofs.Common.{◌+◌, ◌-◌, ◌≤◌, ◌≡◌, length}
use Rattle.cells.proofs.Sequences.Moved.{Moving, loose}
use Rattle.cells.specs.Nodes.{no_entry}
use Rattle.cells.proofs.permute.permute.Given as goal

abbrev pub invariant-loop-i : goal.invariant-loop-i
invariant-loop-i l = record {
  inside : l.i ≤ length l.nodes;
  nodes_long : length l.nodes ≡ length l.initial.nodes;
  to_long : length l.to ≡ length l.initial.nodes;
  moving : Moving no_entry (length l.initial.nodes) l.i l.initial.nodes l.initial.to l.nodes l.to;
}

abbrev pub decreases-loop-i : goal.decreases-loop-i
decreases-loop-i l = (length l.nodes - l.i) + loose l.to (length l.initial.nodes)
