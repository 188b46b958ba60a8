-- T-13: the lines of a printed round. Numbers are decimal, steps are signed, and one newline ends each line.
use Rattle.std.specs.Prelude.{ℕ, suc, List, [], ◌∷◌, ◌++◌, codes, decimal}
use Rattle.std.specs.Fmt.{signed_decimal}
use Rattle.numbers.specs.Positions.{quantised}
use Rattle.numbers.specs.declared.position.Quantised.{Quantised}
use Rattle.cells.specs.Cell.{Node, node_at, first_of}
use Rattle.cells.specs.EntryForms.{metres_in}
use Rattle.walks.specs.declared.walk.End.{End}
use Rattle.walks.specs.declared.walk.End.TheVariants.{Done, NoLink, Left, NoNode}

-- "area and choice count"
abbrev pub head_of : ℕ → ℕ → List ℕ
head_of area choices = codes "round area " ++ decimal area ++ codes " choices " ++ decimal choices ++ codes "\n"

-- the steps that writing the node would store
unfoldable pub steps_of : Node → Quantised
steps_of n = quantised (metres_in n.body.position)

-- "a line for each visited node with its step, number and stored steps": its place in the round, its own number
abbrev pub line_text : ℕ → ℕ → Quantised → List ℕ
line_text k number q =
    decimal k ++ codes " node " ++ decimal number ++ codes " x " ++ signed_decimal q.x
    ++ codes " y " ++ signed_decimal q.y ++ codes " z " ++ signed_decimal q.z ++ codes "\n"

unfoldable pub line_of : ℕ → Node → List ℕ
line_of k n = line_text k n.number (steps_of n)

-- the lines of the nodes at these places, counted from k on
unfoldable pub lines_of : List Node → ℕ → List ℕ → List ℕ
lines_of ns k [] = []
lines_of ns k (p ∷ ps) = line_of k (node_at ns p) ++ lines_of ns (suc k) ps

-- "The ending is one of `end done`, `end no-link`, `end no-node` or `end left A N`, area and number" of the link
abbrev pub end_of : End → List ℕ
end_of Done = codes "end done\n"
end_of NoLink = codes "end no-link\n"
end_of NoNode = codes "end no-node\n"
end_of (Left area number) = codes "end left " ++ decimal area ++ codes " " ++ decimal number ++ codes "\n"

-- the area is the cell's own
abbrev pub round_of : List Node → ℕ → End → List ℕ → List ℕ
round_of ns choices e places = head_of (first_of ns) choices ++ lines_of ns 0 places ++ end_of e

-- "A refusal prints `refused` and its number alone"
abbrev pub refused_of : ℕ → List ℕ
refused_of number = codes "refused " ++ decimal number ++ codes "\n"

abbrev pub bad_input : List ℕ
bad_input = codes "bad input\n"
