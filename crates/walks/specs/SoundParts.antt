-- What the parts of the call `sound` go by. No public function's contract cites them.
use Rattle.std.specs.Prelude.{ℕ, Bool, true, not, ◌&&◌, ◌||◌, List, [], ◌∷◌, eqb, map, take, drop}
use Rattle.cells.specs.Lists.{every}
use Rattle.cells.specs.Area.{belongs}
use Rattle.cells.specs.Nodes.{number_of}
use Rattle.cells.specs.declared.node_entry.NodeEntry.{NodeEntry}
use Rattle.cells.specs.declared.link.PathLink.{PathLink}
use Rattle.records.specs.declared.junction_ref.NodeJunctionRef.{NodeJunctionRef}
use Rattle.cells.specs.Lookup.{first_with, is_some}
use Rattle.walks.specs.Sound.{differing}

-- the numbers of all these nodes
abbrev pub all_numbers : List NodeEntry → List ℕ
all_numbers nodes = map number_of nodes

-- another area than own, or a number that is there
unfoldable pub named : List ℕ → ℕ → ℕ → ℕ → Bool
named ks own a k = not (belongs own a) || is_some (first_with ks k)

abbrev pub named_link : List ℕ → ℕ → PathLink → Bool
named_link ks own l = named ks own l.area_id l.node_id

abbrev pub named_ref : List ℕ → ℕ → NodeJunctionRef → Bool
named_ref ks own r = named ks own r.area_id r.node_id

-- a node of the area own, whose links name nodes
unfoldable pub node_sound : List ℕ → ℕ → List PathLink → NodeEntry → Bool
node_sound ks own links n =
    eqb n.area_id own && every (named_link ks own) (take n.link_count (drop n.link_id links))

-- nodes of the area own, with these links and refs
unfoldable pub nodes_sound : List NodeEntry → ℕ → List PathLink → List NodeJunctionRef → Bool
nodes_sound nodes own links refs =
    every (node_sound (all_numbers nodes) own links) nodes
    && differing (all_numbers nodes)
    && every (named_ref (all_numbers nodes) own) refs

abbrev pub none_or : List NodeEntry → Bool → Bool
none_or [] b = true
none_or (n ∷ ns) b = b
