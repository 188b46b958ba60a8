-- What renumbering a member, lent the five lists together, goes by. No public function's contract cites it.
use Rattle.std.specs.Prelude.{◌≡◌, ℕ, List}
use Rattle.sets.specs.CellSet.{CellSet, cell_set}
use Rattle.sets.specs.declared.renumber.Numbered.{Numbered}

-- a call leaves the three references what they were, and the two lists to be read
abbrev pub SameNumbered : Numbered → Numbered → Type 0
SameNumbered new old =
    (new.nodes.ghost_name ≡ old.nodes.ghost_name) × (new.links.ghost_name ≡ old.links.ghost_name)
    × (new.refs.ghost_name ≡ old.refs.ghost_name) × (new.junctions.now ≡ old.junctions.now)
    × (new.heights.now ≡ old.heights.now)

-- the lists as those of a set
abbrev pub numbered_set : List (List ℕ) → Numbered → CellSet
numbered_set members l = cell_set members l.nodes.now l.links.now l.junctions.now l.heights.now l.refs.now
