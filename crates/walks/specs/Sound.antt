-- Section 5: sound cells.
use Rattle.std.specs.Prelude.{ℕ, Bool, true, false, not, ◌&&◌, ◌||◌, List, [], ◌∷◌, eqb}
use Rattle.cells.specs.Lists.{every}
use Rattle.cells.specs.Area.{belongs}
use Rattle.cells.specs.Cell.{Node, Cell, numbers, first_of}
use Rattle.cells.specs.declared.link.PathLink.{PathLink}
use Rattle.records.specs.declared.junction_ref.NodeJunctionRef.{NodeJunctionRef}
use Rattle.cells.specs.Lookup.{first_with, is_some}

-- Section 5: a link or ref to the number k of the area a, if it is an own one, names a node.
abbrev pub named : List Node → ℕ → ℕ → Bool
named ns a k = not (belongs (first_of ns) a) || is_some (first_with (numbers ns) k)

abbrev pub link_named : List Node → PathLink → Bool
link_named ns l = named ns l.area_id l.node_id

abbrev pub ref_named : List Node → NodeJunctionRef → Bool
ref_named ns r = named ns r.area_id r.node_id

-- Section 5: numbers differ.
unfoldable pub differing : List ℕ → Bool
differing [] = true
differing (n ∷ ns) = not (is_some (first_with ns n)) && differing ns

-- Section 5: all nodes have one area, and each own link names a node.
abbrev pub node_sound : List Node → Node → Bool
node_sound ns n = eqb n.area (first_of ns) && every (link_named ns) n.links

abbrev pub is_empty : List Node → Bool
is_empty [] = true
is_empty (n ∷ ns) = false

-- Section 5: a cell is sound when all nodes have one area, numbers differ, and each own link and own ref names a node
-- of it. An empty cell is sound with any refs.
unfoldable pub sound : Cell → Bool
sound c = is_empty c.nodes || (every (node_sound c.nodes) c.nodes && differing (numbers c.nodes)
    && every (ref_named c.nodes) c.refs)
