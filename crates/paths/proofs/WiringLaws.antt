-- Where choices lead, how long links are and whether a cell is sound goes by the nodes' areas, numbers and links
-- and by the
-- refs alone.
use Prim.Native.Nat.{ℕ, ◌+◌, ◌<◌, ◌≤◌}
use native.Mathlib.Omega.{arith}
use mathlib.Core.Path.{◌≡◌, refl, ap, sym, ◌∙◌}
use mathlib.Core.Bool.{Bool, true, false, not, ◌&&◌, ◌||◌, cond}
use mathlib.Core.List.{List, [], ◌∷◌, map}
use mathlib.Core.Option.{Option, none, some}
use lib.Dec.{eqb}
use lib.ListN.{length, get_or, get_elem?, length-map, get_or-map}
use Rattle.cells.specs.Lists.{every}
use Rattle.cells.specs.Order.{keep, parted, Old}
use Rattle.cells.specs.Area.{belongs, own_area}
use Rattle.cells.specs.Lookup.{first_with, find, is_some}
use Rattle.cells.specs.Cell.{Node, Cell, no_node, node_at, is_ped_node, is_vehicle_node, numbers}
use Rattle.cells.specs.Cell.{first_of, old_nodes, ordered, renode, number_nodes, renumber_cell}
use Rattle.cells.specs.Nodes.{relinked, rereffed}
use Rattle.std.specs.List.{All}
use Rattle.std.proofs.lemmas.List.Elements.{All-append, All-from_get_or, All-get_or}
use Rattle.records.proofs.RecordBack.{RefFits}
use Rattle.cells.proofs.Forms.EntryFits.{LinkFits}
use Rattle.cells.proofs.Renumbering.NewCell.{number_length, number_at, ordered_length}
use Rattle.cells.proofs.WritingBack.Kept.{all_kept, link_again, ref_again, all_again}
use Rattle.paths.proofs.WiringBack.{Wiring, wiring_of, SameWiring}
use Rattle.walks.specs.Sound.{sound, node_sound, ref_named, is_empty, differing}
use Rattle.walks.specs.Walk.{stop, link_at, arrive, take_link, next}
use Rattle.walks.specs.declared.walk.End.TheVariants as end
use Rattle.walks.proofs.Ranges.{every_mapped}
use Rattle.paths.specs.ShortestPath.{length_of, length_at}
use Rattle.paths.specs.SameDistances.{NodeFits, Fits}
use Rattle.cells.specs.declared.link.PathLink.{PathLink}
use Rattle.records.specs.declared.junction_ref.NodeJunctionRef.{NodeJunctionRef}

-- ---- two lists of nodes of one wiring

module _ (ns ms : List Node) (e : map wiring_of ms ≡ map wiring_of ns) where
  pub wired_long : length ms ≡ length ns
  wired_long = sym (length-map ms wiring_of) ∙ ap {A = List Wiring} length e ∙ length-map ns wiring_of

  own_by : (l : List Node) → first_of l ≡ own_area (λ (w : Wiring). w.area) (map wiring_of l)
  own_by [] = refl
  own_by (n ∷ l) = refl

  first_same : first_of ms ≡ first_of ns
  first_same = own_by ms ∙ ap (own_area (λ (w : Wiring). w.area)) e ∙ sym (own_by ns)

  numbers_by : (l : List Node) → numbers l ≡ map (λ (w : Wiring). w.number) (map wiring_of l)
  numbers_by [] = refl
  numbers_by (n ∷ l) = ap {B = List ℕ} (λ t. n.number ∷ t) (numbers_by l)

  numbers_same : numbers ms ≡ numbers ns
  numbers_same = numbers_by ms ∙ ap (map (λ (w : Wiring). w.number)) e ∙ sym (numbers_by ns)

  wired_at : (p : ℕ) → wiring_of (node_at ms p) ≡ wiring_of (node_at ns p)
  wired_at p =
      sym (get_or-map wiring_of ms p no_node) ∙ ap (λ (l : List Wiring). get_or l p (wiring_of no_node)) e
      ∙ get_or-map wiring_of ns p no_node

  link_same : (p b : ℕ) → link_at ms p b ≡ link_at ns p b
  link_same p b = ap (λ (w : Wiring). get_elem? w.links b) (wired_at p)

  pub wired_length : (p b : ℕ) → length_at ms p b ≡ length_at ns p b
  unfolding length_at
  wired_length p b = ap length_of (link_same p b)

  pub wired_next : (p b : ℕ) → next ms p b ≡ next ns p b
  unfolding next
  wired_next p b = ap (take_link ms) (link_same p b) ∙ go (link_at ns p b)
    where
      go : (l : Option PathLink) → take_link ms l ≡ take_link ns l
      go (some l) = λ i. cond (belongs (first_same i) l.area_id) (arrive (find (numbers_same i) l.node_id))
          (stop (end.Left l.area_id l.node_id))
      go none = refl

  -- a node is sound by its wiring, the own area and the numbers
  abbrev sound_by : ℕ → List ℕ → Wiring → Bool
  sound_by own ks w = eqb w.area own && every (λ l. not (belongs own l.area_id) || is_some (first_with ks l.node_id))
      w.links

  by_wiring : (l : List Node) → every (node_sound l) l ≡ every (sound_by (first_of l) (numbers l)) (map wiring_of l)
  by_wiring l = sym (every_mapped (sound_by (first_of l) (numbers l)) wiring_of (node_sound l) (λ n. refl) l)

  abbrev none_in : List Wiring → Bool
  none_in [] = true
  none_in (w ∷ l) = false

  empty_by : (l : List Node) → is_empty l ≡ none_in (map wiring_of l)
  empty_by [] = refl
  empty_by (n ∷ l) = refl

  pub wired_sound : (rs : List NodeJunctionRef)
      → (is_empty ms || (every (node_sound ms) ms && differing (numbers ms) && every (ref_named ms) rs))
      ≡ (is_empty ns || (every (node_sound ns) ns && differing (numbers ns) && every (ref_named ns) rs))
  wired_sound rs =
      let empty : is_empty ms ≡ is_empty ns = empty_by ms ∙ ap none_in e ∙ sym (empty_by ns) in
      let all : every (node_sound ms) ms ≡ every (node_sound ns) ns =
      by_wiring ms ∙ (λ i. every (sound_by (first_same i) (numbers_same i)) (e i)) ∙ sym (by_wiring ns) in
      λ i. empty i || (all i && differing (numbers_same i)
      && every (λ r. not (belongs (first_same i) r.area_id) || is_some (first_with (numbers_same i) r.node_id)) rs)

pub same_sound : (c d : Cell) → SameWiring c d → sound d ≡ sound c
unfolding sound
same_sound c d w =
    ap (λ (rs : List NodeJunctionRef). is_empty d.nodes
    || (every (node_sound d.nodes) d.nodes && differing (numbers d.nodes) && every (ref_named d.nodes) rs)) w.refs
    ∙ wired_sound c.nodes d.nodes w.nodes c.refs

-- ---- renumbering keeps what fits

module _ (c : Cell) (few : length c.nodes ≤ 65536) where
  abbrev old : Old
  old = old_nodes c.nodes

  node_again : (k : ℕ) (n : Node) → k < 65536 → NodeFits n → NodeFits (renode old k n)
  node_again k n lt h = record {
    area = h.area;
    number = lt;
    body = h.body;
    links = all_again c few LinkFits (relinked old) (link_again c few) n.links h.links;
  }

  pub fits_again : Fits c → Fits (renumber_cell c)
  unfolding renumber_cell parted
  fits_again h =
      let fit : All NodeFits (ordered c.nodes) = All-append NodeFits (keep is_vehicle_node c.nodes)
      (keep is_ped_node c.nodes) (all_kept NodeFits is_vehicle_node c.nodes h.nodes)
      (all_kept NodeFits is_ped_node c.nodes h.nodes) in
      record {
        nodes = All-from_get_or NodeFits (number_nodes old 0 (ordered c.nodes)) no_node (λ i lt.
            let less : i < length (ordered c.nodes) = omega (arith, number_length old 0 (ordered c.nodes)) in
            let small : 0 + i < 65536 = omega (arith, ordered_length c.nodes) in
            rw (number_at old 0 (ordered c.nodes) i less)
            (node_again (0 + i) (node_at (ordered c.nodes) i) small
            (All-get_or NodeFits (ordered c.nodes) i no_node less fit)));
        maps = h.maps;
        refs = all_again c few RefFits (rereffed old) (ref_again c few) c.refs h.refs;
      }
