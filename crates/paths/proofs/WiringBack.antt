-- What walks go by outlives write-then-read, whatever a node's position and flags or a junction is: each node's
-- area, number and links, and the refs. Assumes that all numbers fit their fields.
use Prim.Native.Nat.{ℕ, ◌<◌}
use mathlib.Core.Path.{◌≡◌, refl, sym, ap, ◌∙◌, subst, subst₂}
use mathlib.Core.Bool.{true}
use mathlib.Core.List.{List, [], map, map-map}
use lib.ListN.{length, take, get_or}
use Rattle.std.specs.List.{All}
use Rattle.std.proofs.lemmas.List.Elements.{All-weaker, All-from_get_or}
use Rattle.cells.specs.Nodes.{no_entry, no_map}
use Rattle.cells.specs.WriteCounts.{Sized}
use Rattle.cells.specs.Memory.{Memory}
use Rattle.cells.specs.Cell.{Node, Cell}
use Rattle.cells.specs.CellOf.{node_with, junction_with, junctions_of, cell_of}
use Rattle.cells.specs.FileCell.{file_nodes, cell_from, file_cell}
use Rattle.cells.specs.Entries.{links_in}
use Rattle.cells.specs.WriteChecks.{accepted, check_nodes}
use Rattle.cells.specs.Blocks.{links_block, nodes_block}
use Rattle.cells.specs.Blocks.{written}
use Rattle.cells.specs.Read.{read_of}
use Rattle.cells.specs.Write.{held, write_call}
use Rattle.cells.specs.WriteRead.{if_read, if_written, write_read_of}
use Rattle.cells.proofs.Reading.FileRead.{read_cell}
use Rattle.cells.proofs.WritingBack.KeptCells.{KeptNode, KeptJunction, Kept}
use Rattle.cells.proofs.WritingBack.Kept.{read_kept}
use Rattle.cells.proofs.WritingBack.AsRead.{SizedMap}
use Rattle.cells.proofs.Forms.EntryFits.{LinkFits}
use Rattle.paths.specs.SameDistances.{NodeFits, Fits}
use Rattle.cells.proofs.WritingBack.BlocksBack.{NodeFits as EntryFits, kept_at, nodes_by, refs_back}
use Rattle.cells.proofs.WritingBack.WrittenBack.{Told, whole_of, blocks_back, write_told, whole_held}
use Rattle.cells.proofs.WritingBack.WrittenFew.{written_few}
use Rattle.std.specs.Prelude.{Result, Ok, Err}
use Rattle.numbers.specs.Refusals.{Answer}
use Rattle.numbers.specs.declared.refusal.Refusal.{Refusal}
use Rattle.cells.specs.declared.node_entry.NodeEntry.{NodeEntry}
use Rattle.cells.specs.declared.link.PathLink.{PathLink}

-- ---- the nodes as they are written, read

-- what walks go by of a node
pub record Wiring : Type 0 where
  pub area : ℕ
  pub number : ℕ
  pub links : List PathLink

abbrev pub wiring_of : Node → Wiring
wiring_of n = record { area = n.area; number = n.number; links = n.links }

-- d has the nodes of c, whatever their bodies, and its refs; and its numbers fit their fields
pub record SameWiring (c d : Cell) : Type 0 where
  pub nodes : map wiring_of d.nodes ≡ map wiring_of c.nodes
  pub refs : d.refs ≡ c.refs
  pub fits : Fits d

-- what storing keeps fits
pub kept_fits : (c : Cell) → Kept c → Fits c
kept_fits c k = record {
  nodes = All-weaker KeptNode NodeFits (λ n h.
      record { area = h.area; number = h.number; body = h.body; links = h.links }) c.nodes k.nodes;
  maps = All-weaker KeptJunction SizedMap
      (λ j h. record { width = h.width; height = h.height }) c.junctions k.junctions;
  refs = k.refs;
}

-- in lists: of each map that is lent
maps_sized : (m : Memory) → All SizedMap (cell_of m).junctions → All Sized (held m).junctions
unfolding held cell_of junctions_of
maps_sized m t =
    let js = take m.ynd.junction_count m.junctions in
    let own = junction_with (take m.ynd.heightmap_count m.heights) in
    All-from_get_or Sized js no_map (λ i lt.
    let h : SizedMap (own (get_or js i no_map)) = kept_at SizedMap own js i no_map t lt in
    record { width = h.width; height = h.height })

nodes_wiring : (links : List PathLink) (nodes : List NodeEntry)
    → accepted (check_nodes (λ n. length (links_in links n)) 0 0 nodes) ≡ true
    → All NodeFits (map (node_with links) nodes)
    → map wiring_of (file_nodes (nodes_block links nodes) (links_block links nodes))
    ≡ map wiring_of (map (node_with links) nodes)
nodes_wiring links nodes ok t =
    let own = node_with links in
    let at : (i : ℕ) → i < length nodes → NodeFits (own (get_or nodes i no_entry)) =
    λ i lt. kept_at NodeFits own nodes i no_entry t lt in
    let fits : All EntryFits nodes = All-from_get_or EntryFits nodes no_entry (λ i lt.
    record { area_id = (at i lt).area; node_id = (at i lt).number; body = (at i lt).body }) in
    let k : All (λ n. All LinkFits n.links) (map own nodes) =
    All-weaker NodeFits (λ n. All LinkFits n.links) (λ n h. h.links) (map own nodes) t in
    nodes_by links nodes ok fits k wiring_of (λ w. wiring_of (own w)) (λ i lt. refl) ∙ sym (map-map wiring_of own nodes)

-- ---- the section that was written, read

section_wiring : (h : Memory) → Told h → Fits (whole_of h) → SameWiring (whole_of h) (file_cell (written h) [])
unfolding cell_from
section_wiring h told t =
    let back = blocks_back h told (written_few h told) in
    subst (SameWiring (whole_of h)) (sym back) (record {
      nodes = nodes_wiring h.links h.nodes told.nodes_told t.nodes;
      refs = refs_back h.refs t.refs;
      fits = subst Fits back (kept_fits (file_cell (written h) []) (read_kept (written h) []));
    })

-- ---- the call, accepted or not

pub write_read_wiring : (m : Memory) (s : List ℕ) → Fits (cell_of m)
    → SameWiring (cell_of m) (cell_of (write_read_of m s).memory)
unfolding write_read_of write_call
write_read_wiring m s f = go (write_call m s).answer refl
  where
    t : List ℕ
    t = (write_call m s).section

    stays : SameWiring (cell_of m) (cell_of m)
    stays = record { nodes = refl; refs = refl; fits = f }

    reading : (n : ℕ) → take n t ≡ written (held m) → Told (held m) → (c : Answer)
        → (read_of (take n t) [] m).answer ≡ c
        → SameWiring (cell_of m) (cell_of (if_read n t c (read_of (take n t) [] m).memory m s).memory)
    reading n b told (Err x) e = stays
    reading n b told (Ok _) e =
        let same : cell_of (read_of (take n t) [] m).memory
        ≡ file_cell (written (held m)) [] = read_cell (take n t) [] m e ∙ ap (λ (w : List ℕ). file_cell w []) b in
        let w = whole_held m in
        subst₂ SameWiring w (sym same) (section_wiring (held m) told (subst Fits (sym w) f))

    go : (a : Result ℕ Refusal) → (write_call m s).answer ≡ a
        → SameWiring (cell_of m) (cell_of (if_written a t m s).memory)
    go (Err x) e = stays
    go (Ok n) e = let w = write_told m (maps_sized m f.maps) s n e in reading n w.bytes w.told (read_of
        (take n t) [] m).answer refl
