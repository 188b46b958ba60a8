-- Edits and renumbering keep a cell's numbers within their fields.
-- Assumes nothing but that the arguments fit their types.
use Prim.Native.Nat.{ℕ, ◌+◌, ◌≤◌, ◌<◌}
use native.Mathlib.Omega.{arith}
use mathlib.Core.Path.{◌≡◌, refl}
use mathlib.Core.List.{List, []}
use lib.Dec.{ltb}
use lib.ListN.{length, get_or}
use Rattle.std.proofs.lemmas.List.{get_or_past}
use borrow.Author.Tests.{ltb-true, ltb-false}
use Rattle.std.specs.Prelude.{Ok}
use Rattle.std.specs.List.{All}
use Rattle.std.proofs.lemmas.List.Elements.{All-nil, All-get_or, All-from_get_or}
use Rattle.std.proofs.lemmas.List.Elements.{All-set, All-push, All-append, All-take}
use Rattle.numbers.specs.Positions.{quantised, dequantised}
use Rattle.numbers.specs.declared.math.Vec3.{Vec3}
use Rattle.records.specs.declared.junction_ref.NodeJunctionRef.{NodeJunctionRef}
use Rattle.records.proofs.RecordBack.{RefFits}
use Rattle.cells.specs.declared.node.PathNode.{PathNode}
use Rattle.cells.specs.declared.node_entry.NodeEntry.{NodeEntry}
use Rattle.cells.specs.declared.node_entry.PositionBits.{PositionBits}
use Rattle.cells.specs.declared.link.PathLink.{PathLink}
use Rattle.cells.specs.declared.junction.PathJunction.{PathJunction}
use Rattle.cells.specs.Memory.{Memory}
use Rattle.cells.specs.Order.{keep, parted, Old}
use Rattle.cells.specs.Nodes.{relinked, rereffed}
use Rattle.cells.specs.NodeAccess.{new_node}
use Rattle.cells.specs.EntryForms.{bits_in, node_as_entry, junction_as_entry}
use Rattle.cells.specs.Cell.{Node, Junction, Cell, no_node, node_at, is_ped_node, is_vehicle_node, no_body}
use Rattle.cells.specs.Cell.{old_nodes, ordered, renode, number_nodes, renumber_cell}
use Rattle.cells.specs.CellOf.{cell_of}
use Rattle.cells.specs.EditedCell.{node_from, node_moved, node_linked, junction_from, junction_mapped}
use Rattle.cells.specs.EditedCell.{with_nodes, with_junctions, with_refs}
use Rattle.cells.specs.StoredCell.{with_words, no_junction, junction_at}
use Rattle.cells.proofs.Forms.EntryFits.{LinkFits}
use Rattle.cells.proofs.Sequences.Tests.{by_test, keep_lengths}
use Rattle.cells.proofs.Renumbering.NewCell.{number_length, number_at, ordered_length}
use Rattle.cells.proofs.WritingBack.Kept.{all_kept, all_again, link_again, ref_again}
use Rattle.cells.proofs.WritingBack.KeptCells.{BodyFits, IsByte, IsWord}
use Rattle.drawn.specs.Tidy.{Tidy}
use Rattle.drawn.specs.Changes.{Edit, edited}
use Rattle.drawn.specs.Meaning.{edit_cell}
use Rattle.drawn.specs.Changes.{add_node, add_link, add_ref, add_junction}
use Rattle.drawn.specs.Changes.{put_node, set_position, put_link, put_ref, put_junction, put_height}
use Rattle.drawn.specs.Changes.{put_links, put_heightmap, truncate_nodes, truncate_junctions, truncate_refs}
use Rattle.drawn.specs.Changes.{set_vft, set_vehicle_node_count, set_ped_node_count, set_unknowns}
use Rattle.drawn.specs.Fits.{NodeFits, JunctionFits, Bytes, EditFits}
use Rattle.drawn.specs.Made.{FittedNode, FittedJunction, Fitted}
use Rattle.drawn.proofs.EditsMean.{nodes_many, node_room_told}

-- what holds of each entry, and of what stands past the end
pub all_any : {A : Type 0} (P : A → Type 0) (l : List A) (p : ℕ) (d : A) → All P l → P d → P (get_or l p d)
all_any P l p d h k = by_test (ltb p (length l))
    (λ t. All-get_or P l p d (ltb-true _ _ t) h)
    (λ f. rw (get_or_past l p d (ltb-false _ _ f)) k)

-- ---- an entry past the end

none_fitted : FittedNode no_node
unfolding no_node no_body
none_fitted = record {
  area = omega arith;
  number = omega arith;
  body = record {
    street_name = omega arith;
    flags0 = omega arith;
    flags1 = omega arith;
    flags2 = omega arith;
    flags3 = omega arith;
    flags4 = omega arith;
    flags5 = omega arith;
    unused0 = omega arith;
    unused1 = omega arith;
    unused2 = omega arith;
    unused3 = omega arith;
    unused4 = omega arith;
  };
  links = All-nil LinkFits;
}

none_junction : FittedJunction no_junction
unfolding no_junction
none_junction = record { width = omega arith; height = omega arith; values = All-nil IsByte }

-- ---- what edits bring

new_fits : (area k : ℕ) (at : Vec3) → area < 65536 → k < 65536
    → FittedNode (node_from [] (node_as_entry (new_node area k at)))
unfolding new_node
new_fits area k at a b = record {
  area = a;
  number = b;
  body = record {
    street_name = omega arith;
    flags0 = omega arith;
    flags1 = omega arith;
    flags2 = omega arith;
    flags3 = omega arith;
    flags4 = omega arith;
    flags5 = omega arith;
    unused0 = omega arith;
    unused1 = omega arith;
    unused2 = omega arith;
    unused3 = omega arith;
    unused4 = omega arith;
  };
  links = All-nil LinkFits;
}

node_fits : (ls : List PathLink) (x : PathNode) → NodeFits x → All LinkFits ls
    → FittedNode (node_from ls (node_as_entry x))
node_fits ls x h k = record {
  area = h.area_id;
  number = h.node_id;
  body = record {
    street_name = h.street_name;
    flags0 = h.flags0;
    flags1 = h.flags1;
    flags2 = h.flags2;
    flags3 = h.flags3;
    flags4 = h.flags4;
    flags5 = h.flags5;
    unused0 = h.unused0;
    unused1 = h.unused1;
    unused2 = h.unused2;
    unused3 = h.unused3;
    unused4 = h.unused4;
  };
  links = k;
}

linked_fits : (ls : List PathLink) (n : Node) → FittedNode n → All LinkFits ls → FittedNode (node_linked ls n)
linked_fits ls n h k = record { area = h.area; number = h.number; body = h.body; links = k }

-- the coordinates are whatever they are
moved_body : (to : PositionBits) (b : NodeEntry) → BodyFits b → BodyFits (record b { position = to })
moved_body to b h = record {
  street_name = h.street_name;
  flags0 = h.flags0;
  flags1 = h.flags1;
  flags2 = h.flags2;
  flags3 = h.flags3;
  flags4 = h.flags4;
  flags5 = h.flags5;
  unused0 = h.unused0;
  unused1 = h.unused1;
  unused2 = h.unused2;
  unused3 = h.unused3;
  unused4 = h.unused4;
}

moved_fits : (at : Vec3) (n : Node) → FittedNode n → FittedNode (node_moved (bits_in at) n)
moved_fits at n h = record {
  area = h.area;
  number = h.number;
  body = moved_body
      (bits_in at) n.body h.body;
  links = h.links;
}

bytes : (values : List ℕ) → Bytes values → All IsByte values
bytes values h = All-from_get_or IsByte values 0 h

mapped_fits : (width height : ℕ) (values : List ℕ) (j : Junction) → width < 256 → height < 256 → All IsByte values
    → FittedJunction (junction_mapped width height values j)
mapped_fits width height values j w h k = record { width = w; height = h; values = k }

junction_fits : (values : List ℕ) (j : PathJunction) → JunctionFits j → All IsByte values
    → FittedJunction (junction_from values (junction_as_entry j))
junction_fits values j h k = record { width = h.width; height = h.height; values = k }

-- ---- a cell with other lists

module _ (c : Cell) (h : Fitted c) where
  with_fitted_nodes : (ns : List Node) → All FittedNode ns → Fitted (with_nodes ns c)
  with_fitted_nodes ns k = record {
    nodes = k;
    junctions = h.junctions;
    refs = h.refs;
    vehicles = h.vehicles;
    peds = h.peds;
    vft = h.vft;
    seven = h.seven;
    words = h.words;
  }

  with_fitted_junctions : (js : List Junction) → All FittedJunction js → Fitted (with_junctions js c)
  with_fitted_junctions js k = record {
    nodes = h.nodes;
    junctions = k;
    refs = h.refs;
    vehicles = h.vehicles;
    peds = h.peds;
    vft = h.vft;
    seven = h.seven;
    words = h.words;
  }

  with_fitted_refs : (rs : List NodeJunctionRef) → All RefFits rs → Fitted (with_refs rs c)
  with_fitted_refs rs k = record {
    nodes = h.nodes;
    junctions = h.junctions;
    refs = k;
    vehicles = h.vehicles;
    peds = h.peds;
    vft = h.vft;
    seven = h.seven;
    words = h.words;
  }

  with_fitted_words : (vehicles peds vft : ℕ) (words : List ℕ) → IsWord vehicles → IsWord peds → IsWord vft
      → length words ≡ 7 → All IsWord words → Fitted (with_words vehicles peds vft words c)
  with_fitted_words vehicles peds vft words a b d s k = record {
    nodes = h.nodes;
    junctions = h.junctions;
    refs = h.refs;
    vehicles = a;
    peds = b;
    vft = d;
    seven = s;
    words = k;
  }

  fitted_at : (p : ℕ) → FittedNode (node_at c.nodes p)
  fitted_at p = all_any FittedNode c.nodes p no_node h.nodes none_fitted

  fitted_junction_at : (p : ℕ) → FittedJunction (junction_at c.junctions p)
  fitted_junction_at p = all_any FittedJunction c.junctions p no_junction h.junctions none_junction

-- an accepted edit's cell
pub edit_fitted : (m : Memory) → Tidy m → Fitted (cell_of m) → (e : Edit) → EditFits e → (edited m e).answer ≡ Ok tt
    → Fitted (edit_cell e (cell_of m))
unfolding edited
edit_fitted m t h (add_node area at) fits e =
    let c = cell_of m in
    with_fitted_nodes c h _ (All-push FittedNode c.nodes _ h.nodes (new_fits area (length c.nodes) _ fits
    (let k : length c.nodes < 65536 = omega (arith, nodes_many m t, node_room_told m area at e) in k)))
edit_fitted m t h (add_link p x) fits e =
    let c = cell_of m in
    let n = fitted_at c h p in
    with_fitted_nodes c h _ (All-set FittedNode c.nodes p _ (linked_fits _ (node_at c.nodes p) n
    (All-push LinkFits (node_at c.nodes p).links x n.links fits)) h.nodes)
edit_fitted m t h (add_ref r) fits e =
    let c = cell_of m in
    with_fitted_refs c h _ (All-push RefFits c.refs r h.refs fits)
edit_fitted m t h (add_junction j values) fits e =
    let c = cell_of m in
    with_fitted_junctions c h _ (All-push FittedJunction c.junctions _ h.junctions
    (junction_fits values j fits.0 (bytes values fits.1)))
edit_fitted m t h (put_node p x) fits e =
    let c = cell_of m in
    with_fitted_nodes c h _ (All-set FittedNode c.nodes p _ (node_fits _ x fits (fitted_at c h p).links) h.nodes)
edit_fitted m t h (set_position p at) fits e =
    let c = cell_of m in
    with_fitted_nodes c h _ (All-set FittedNode c.nodes p _
    (moved_fits (dequantised (quantised at)) (node_at c.nodes p) (fitted_at c h p)) h.nodes)
edit_fitted m t h (put_link p k x) fits e =
    let c = cell_of m in
    let n = fitted_at c h p in
    with_fitted_nodes c h _ (All-set FittedNode c.nodes p _ (linked_fits _ (node_at c.nodes p) n
    (All-set LinkFits (node_at c.nodes p).links k x fits n.links)) h.nodes)
edit_fitted m t h (put_ref p r) fits e =
    let c = cell_of m in
    with_fitted_refs c h _ (All-set RefFits c.refs p r fits h.refs)
edit_fitted m t h (put_junction p j) fits e =
    let c = cell_of m in
    with_fitted_junctions c h _ (All-set FittedJunction c.junctions p _
    (junction_fits _ j fits (fitted_junction_at c h p).values) h.junctions)
edit_fitted m t h (put_height p k v) fits e =
    let c = cell_of m in
    let j = fitted_junction_at c h p in
    with_fitted_junctions c h _ (All-set FittedJunction c.junctions p _ (mapped_fits _ _ _ (junction_at c.junctions p)
    j.width j.height (All-set IsByte (junction_at c.junctions p).values k v fits j.values)) h.junctions)
edit_fitted m t h (put_links p ls) fits e =
    let c = cell_of m in
    with_fitted_nodes c h _ (All-set FittedNode c.nodes p _
    (linked_fits ls (node_at c.nodes p) (fitted_at c h p) fits) h.nodes)
edit_fitted m t h (put_heightmap p width height values) fits e =
    let c = cell_of m in
    with_fitted_junctions c h _ (All-set FittedJunction c.junctions p _
    (mapped_fits width height values (junction_at c.junctions p) fits.0 fits.1 (bytes values fits.2)) h.junctions)
edit_fitted m t h (truncate_nodes k) fits e =
    let c = cell_of m in with_fitted_nodes c h _ (All-take FittedNode k c.nodes h.nodes)
edit_fitted m t h (truncate_junctions k) fits e =
    let c = cell_of m in with_fitted_junctions c h _ (All-take FittedJunction k c.junctions h.junctions)
edit_fitted m t h (truncate_refs k) fits e =
    let c = cell_of m in with_fitted_refs c h _ (All-take RefFits k c.refs h.refs)
edit_fitted m t h (set_vft v) fits e =
    with_fitted_words (cell_of m) h _ _ v _ h.vehicles h.peds fits h.seven h.words
edit_fitted m t h (set_vehicle_node_count v) fits e =
    with_fitted_words (cell_of m) h v _ _ _ fits h.peds h.vft h.seven h.words
edit_fitted m t h (set_ped_node_count v) fits e =
    with_fitted_words (cell_of m) h _ v _ _ h.vehicles fits h.vft h.seven h.words
edit_fitted m t h (set_unknowns words) fits e =
    with_fitted_words (cell_of m) h _ _ _ words h.vehicles h.peds h.vft fits.0
    (All-from_get_or IsWord words 0 fits.1)

-- ---- renumbering (as in cells Kept, for cells of any positions)

module _ (c : Cell) (few : length c.nodes ≤ 65536) where
  abbrev old : Old
  old = old_nodes c.nodes

  node_again : (k : ℕ) (n : Node) → k < 65536 → FittedNode n → FittedNode (renode old k n)
  node_again k n lt h = record {
    area = h.area;
    number = lt;
    body = h.body;
    links = all_again c few LinkFits (relinked old) (link_again c few) n.links h.links;
  }

  pub fitted_again : Fitted c → Fitted (renumber_cell c)
  unfolding renumber_cell parted
  fitted_again h =
      let all : length (keep is_vehicle_node c.nodes) + length (keep is_ped_node c.nodes)
      ≡ length c.nodes = keep_lengths is_ped_node is_vehicle_node (λ x. refl) c.nodes in
      let kept : All FittedNode (ordered c.nodes) = All-append FittedNode (keep is_vehicle_node c.nodes)
      (keep is_ped_node c.nodes) (all_kept FittedNode is_vehicle_node c.nodes h.nodes)
      (all_kept FittedNode is_ped_node c.nodes h.nodes) in
      record {
        nodes = All-from_get_or FittedNode (number_nodes old 0 (ordered c.nodes)) no_node (λ i lt.
            let less : i < length (ordered c.nodes) = omega (arith, number_length old 0 (ordered c.nodes)) in
            let small : 0 + i < 65536 = omega (arith, ordered_length c.nodes) in
            rw (number_at old 0 (ordered c.nodes) i less)
            (node_again (0 + i) (node_at (ordered c.nodes) i) small
            (All-get_or FittedNode (ordered c.nodes) i no_node less kept)));
        junctions = h.junctions;
        refs = all_again c few RefFits (rereffed old) (ref_again c few) c.refs h.refs;
        vehicles = omega (arith, all, few);
        peds = omega (arith, all, few);
        vft = h.vft;
        seven = h.seven;
        words = h.words;
      }
