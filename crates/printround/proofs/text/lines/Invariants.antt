use Rattle.std.proofs.Common.{◌≡◌, List, ◌++◌, map, drop, string_bytes}
use Rattle.cells.specs.declared.link.PathLink.{PathLink}
use Rattle.cells.specs.CellOf.{node_with}
use Rattle.printround.specs.Text.{lines_of}
use Rattle.printround.proofs.text.lines.Given as goal

-- the lines so far and those that are left are all
abbrev pub invariant-loop-k : goal.invariant-loop-k
invariant-loop-k l =
    (links : List PathLink)
    → string_bytes l.text ++ lines_of (map (node_with links) l.nodes) l.k (drop l.k l.places)
    ≡ lines_of (map (node_with links) l.nodes) 0 l.places
