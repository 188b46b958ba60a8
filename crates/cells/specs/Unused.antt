-- T-10: the five unused fields of a node, `unused0` to `unused4` in this order: of a node in the cell, of a record in
-- a file, and of a file's nodes one after the other.
use Rattle.std.specs.Prelude.{ℕ, ◌*◌, ◌/◌, List, [], ◌∷◌, length}
use Rattle.records.specs.Sections.{array_at}
use Rattle.records.specs.Records.{node_at}
use Rattle.records.specs.declared.node.Node as raw-node
use Rattle.cells.specs.Lists.{up_to}
use Rattle.cells.specs.Checks.{root_read}
use Rattle.cells.specs.Cell.{Node}

abbrev pub unused_of : Node → List ℕ
unused_of n =
    n.body.unused0 ∷ n.body.unused1 ∷ n.body.unused2 ∷ n.body.unused3 ∷ n.body.unused4 ∷ []

abbrev pub file_unused : raw-node.Node → List ℕ
file_unused n = n.unused0 ∷ n.unused1 ∷ n.unused2 ∷ n.unused3 ∷ n.unused4 ∷ []

-- by the bytes of the array of nodes; sections 1 and 2: it lies where the root says
abbrev pub array_unused : List ℕ → List (List ℕ)
array_unused a = up_to (λ i. file_unused (node_at a (i * 40))) (length a / 40)

unfoldable pub unused_in : List ℕ → List ℕ → List (List ℕ)
unused_in s g = array_unused (array_at (root_read s).nodes (root_read s).node_count 40 s g)
