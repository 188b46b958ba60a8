-- What adding and storing mean for the cell that memory holds.
use Rattle.std.specs.Prelude.{ℕ, List, [], ◌∷◌, ◌++◌, set}
use Rattle.cells.specs.declared.node_entry.PositionBits.{PositionBits}
use Rattle.records.specs.declared.junction_ref.NodeJunctionRef.{NodeJunctionRef}
use Rattle.cells.specs.declared.node_entry.NodeEntry.{NodeEntry}
use Rattle.cells.specs.declared.junction_entry.JunctionEntry.{JunctionEntry}
use Rattle.cells.specs.Cell.{Node, Junction, Cell, node_at, body_of}
use Rattle.cells.specs.declared.link.PathLink.{PathLink}

-- ---- the cell's entries, by the structs

abbrev pub node_from : List PathLink → NodeEntry → Node
node_from ls n = record { area = n.area_id; number = n.node_id; links = ls; body = body_of n }

-- the node at another position
abbrev pub node_moved : PositionBits → Node → Node
node_moved at n = record n { body = record n.body { position = at } }

abbrev pub junction_from : List ℕ → JunctionEntry → Junction
junction_from vs j = record {
  x = j.x;
  y = j.y;
  low = j.min_z;
  high = j.max_z;
  width = j.width;
  height = j.height;
  values = vs;
}

-- ---- the cell with other nodes, refs or junctions

abbrev pub with_lists : List Node → List Junction → List NodeJunctionRef → Cell → Cell
with_lists ns js rs c = record c { nodes = ns; junctions = js; refs = rs }

abbrev pub with_nodes : List Node → Cell → Cell
with_nodes ns c = with_lists ns c.junctions c.refs c

abbrev pub with_junctions : List Junction → Cell → Cell
with_junctions js c = with_lists c.nodes js c.refs c

abbrev pub with_refs : List NodeJunctionRef → Cell → Cell
with_refs rs c = with_lists c.nodes c.junctions rs c

-- ---- a node with other links, a junction with another heightmap: all else is as it was

abbrev pub node_linked : List PathLink → Node → Node
node_linked ls n = record n { links = ls }

abbrev pub junction_mapped : ℕ → ℕ → List ℕ → Junction → Junction
junction_mapped width height vs j =
    record j { width = width; height = height; values = vs }

-- ---- adding a link

-- the node, with one link more behind its others
abbrev pub with_link : PathLink → Node → Node
with_link x n = node_linked (n.links ++ (x ∷ [])) n

-- the nodes, with one link more at the place p
abbrev pub add_to : ℕ → PathLink → List Node → List Node
add_to p x ns = set ns p (with_link x (node_at ns p))

-- the cell, with one link more at the node at p
abbrev pub link_to : ℕ → PathLink → Cell → Cell
link_to p x c = with_nodes (add_to p x c.nodes) c

-- ---- storing a link or a heightmap value

abbrev pub link_changed : ℕ → PathLink → Node → Node
link_changed k x n = node_linked (set n.links k x) n

abbrev pub height_changed : ℕ → ℕ → Junction → Junction
height_changed k v j = junction_mapped j.width j.height (set j.values k v) j
