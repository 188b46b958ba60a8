-- What is left to put makes the whole.
use Rattle.std.proofs.Common.{◌≡◌, ◌+◌, length, drop}
use Rattle.records.specs.Put.{put, joined}
use Rattle.cells.specs.Blocks.{links_records}
use Rattle.cells.proofs.blocks.put_links.Given as goal

abbrev pub invariant-loop-n : goal.invariant-loop-n
invariant-loop-n l =
    (l.p + length (joined (links_records l.links) (drop l.n-index l.nodes)) ≡ l.at
    + length (joined (links_records l.links) l.nodes))
    × (put l.section l.p (joined (links_records l.links) (drop l.n-index l.nodes))
    ≡ put l.initial.section l.at (joined (links_records l.links) l.nodes))
