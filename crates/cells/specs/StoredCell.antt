-- What storing the cell's own words, shorter lists, all links of a node or a heightmap means for the cell that
-- memory holds.
use Rattle.std.specs.Prelude.{ℕ, List, [], get_or, set}
use Rattle.cells.specs.Cell.{Junction, Cell, node_at}
use Rattle.cells.specs.EditedCell.{with_nodes, with_junctions, node_linked, junction_mapped}
use Rattle.cells.specs.declared.link.PathLink.{PathLink}

-- ---- the cell's own words: one is another, all else is as it was

abbrev pub with_words : ℕ → ℕ → ℕ → List ℕ → Cell → Cell
with_words vehicles peds vft words c =
    record c { vehicles = vehicles; peds = peds; vft = vft; words = words }

abbrev pub vft_put : ℕ → Cell → Cell
vft_put v c = with_words c.vehicles c.peds v c.words c

abbrev pub vehicles_put : ℕ → Cell → Cell
vehicles_put v c = with_words v c.peds c.vft c.words c

abbrev pub peds_put : ℕ → Cell → Cell
peds_put v c = with_words c.vehicles v c.vft c.words c

abbrev pub unknowns_put : List ℕ → Cell → Cell
unknowns_put v c = with_words c.vehicles c.peds c.vft v c

-- ---- all links of a node: the node's links are these, all else is as it was

abbrev pub links_put : ℕ → List PathLink → Cell → Cell
links_put p ls c = with_nodes (set c.nodes p (node_linked ls (node_at c.nodes p))) c

-- ---- a heightmap: the junction's map is this one, all else is as it was

-- what stands at a place that no junction has: never shown
unfoldable pub no_junction : Junction
no_junction = record { x = 0; y = 0; low = 0; high = 0; width = 0; height = 0; values = [] }

abbrev pub junction_at : List Junction → ℕ → Junction
junction_at js p = get_or js p no_junction

abbrev pub heightmap_put : ℕ → ℕ → ℕ → List ℕ → Cell → Cell
heightmap_put p width height vs c =
    with_junctions (set c.junctions p (junction_mapped width height vs (junction_at c.junctions p))) c
