-- What the parts of calls that are lent the five lists together go by. No public function's contract cites it.
use Rattle.std.specs.Prelude.{◌≡◌, ℕ, List}
use Rattle.cells.specs.Memory.{Memory, memory}
use Rattle.cells.specs.RenumberParts.{lengths_of}
use Rattle.cells.specs.declared.counts.Counts.{Counts}
use Rattle.cells.specs.declared.ynd.Ynd.{Ynd}
use Rattle.sets.specs.CellSet.{CellSet, cell_set}
use Rattle.sets.specs.declared.lists.Given.{Given}
use Rattle.sets.specs.declared.lists.Lists.{Lists}

-- a call leaves the five references what they were, and writes behind them alone
abbrev pub Same : Lists → Lists → Type 0
Same new old =
    (new.nodes.ghost_name ≡ old.nodes.ghost_name) × (new.links.ghost_name ≡ old.links.ghost_name)
    × (new.junctions.ghost_name ≡ old.junctions.ghost_name) × (new.heights.ghost_name ≡ old.heights.ghost_name)
    × (new.refs.ghost_name ≡ old.refs.ghost_name)

-- the lists as those of a set
abbrev pub set_of : List (List ℕ) → Lists → CellSet
set_of members l = cell_set members l.nodes.now l.links.now l.junctions.now l.heights.now l.refs.now

abbrev pub set_given : List (List ℕ) → Given → CellSet
set_given members g = cell_set members g.nodes.now g.links.now g.junctions.now g.heights.now g.refs.now

-- the lists as those of a cell
abbrev pub memory_of : Ynd → Lists → Memory
memory_of y l = memory y l.nodes.now l.links.now l.junctions.now l.heights.now l.refs.now

-- how long they are
abbrev pub lengths_in : Lists → Counts
lengths_in l = lengths_of l.nodes.now l.links.now l.junctions.now l.heights.now l.refs.now

abbrev pub lengths_given : Given → Counts
lengths_given g = lengths_of g.nodes.now g.links.now g.junctions.now g.heights.now g.refs.now
