-- Section 6: the one line that `cellsum` prints.
use Rattle.std.specs.Prelude.{ℕ, ◌++◌, List, [], ltb, length, if◌then◌else◌, codes, decimal}
use Rattle.cells.specs.declared.counts.Counts.{Counts}
use Rattle.cells.specs.Checks.{count_of}
use Rattle.std.specs.Prelude.{Result, Ok, Err}
use Rattle.numbers.specs.Refusals.{number_of, place_of}
use Rattle.numbers.specs.declared.refusal.Refusal.{Refusal}

-- nodes held, links held over all nodes, junctions, refs
abbrev pub counts_line_of : Counts → List ℕ
counts_line_of k =
    codes "nodes " ++ decimal k.nodes ++ codes " links " ++ decimal k.links
    ++ codes " junctions " ++ decimal k.junctions ++ codes " refs " ++ decimal k.refs ++ codes "\n"

-- a refusal's number and place
abbrev pub refused_line_of : ℕ → ℕ → List ℕ
refused_line_of number place = codes "refused " ++ decimal number ++ codes " " ++ decimal place ++ codes "\n"

abbrev pub counted_line_of : Result Counts Refusal → List ℕ
counted_line_of (Ok k) = counts_line_of k
counted_line_of (Err r) = refused_line_of (number_of r) (place_of r)

-- what is read is the system section, graphics empty; more than 65,536 bytes are too long
abbrev pub line_of : List ℕ → List ℕ
line_of input = if ltb 65536 (length input) then codes "too long\n" else counted_line_of (count_of input [])
