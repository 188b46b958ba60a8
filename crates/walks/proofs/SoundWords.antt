-- The cell's soundness by the words in memory, test by test.
use Prim.Native.Nat.{ℕ, ◌≤◌, ◌<◌}
use native.Mathlib.Omega.{arith}
use mathlib.Core.Path.{◌≡◌, refl, ap, sym, ◌∙◌}
use mathlib.Core.Bool.{Bool, true, ◌&&◌}
use mathlib.Core.List.{List, [], ◌∷◌}
use lib.Dec.{eqb}
use lib.ListN.{length, take, drop, length-map}
use lib.Seq.{length-take-le}
use Rattle.cells.specs.Nodes.{first_area}
use Rattle.cells.specs.declared.node_entry.NodeEntry.{NodeEntry}
use Rattle.cells.proofs.Lookups.LookupLaws.{area_held}
use Rattle.cells.specs.Lists.{every}
use Rattle.cells.specs.Memory.{Memory}
use Rattle.cells.specs.Cell.{Node, numbers, first_of}
use Rattle.cells.specs.declared.link.PathLink.{PathLink}
use Rattle.records.specs.declared.junction_ref.NodeJunctionRef.{NodeJunctionRef}
use Rattle.cells.specs.CellOf.{node_with, nodes_of, refs_of, cell_of}
use Rattle.cells.specs.LookupCall.{numbers_in}
use Rattle.cells.proofs.Lookups.LookupLaws.{numbers_held}
use Rattle.walks.specs.Sound as cell
use Rattle.walks.specs.Sound.{link_named, ref_named, differing, sound}
use Rattle.walks.specs.SoundParts.{all_numbers, named, named_link, named_ref, node_sound, nodes_sound, none_or}
use Rattle.walks.proofs.Ranges.{every_mapped, every_same}
use Rattle.walks.proofs.ScratchLaws.{all_front}

-- ---- the words say as much as the cell

module _ (m : Memory) where
  abbrev n : ℕ
  n = m.ynd.node_count

  abbrev l : ℕ
  l = m.ynd.link_count

  abbrev r : ℕ
  r = m.ynd.ref_count

  abbrev pool : List PathLink
  pool = take l m.links

  abbrev N : List Node
  N = nodes_of m

  pub numbers_same : numbers (cell_of m).nodes ≡ numbers_in n m.nodes
  unfolding cell_of
  numbers_same = numbers_held m

  sound_empty : n ≡ 0 → true ≡ sound (cell_of m)
  unfolding sound cell_of nodes_of
  sound_empty e = rw e

  module _ (some : 0 < n) (fits : n ≤ length m.nodes) where
    abbrev own : ℕ
    own = first_area (take n m.nodes)

    abbrev ks : List ℕ
    ks = all_numbers (take n m.nodes)

    same_numbers : numbers N ≡ ks
    unfolding cell_of
    same_numbers = numbers_same ∙ sym (all_front n m.nodes)

    own_is : first_of N ≡ own
    own_is = area_held m

    link_same : (l : PathLink) → link_named N l ≡ named_link ks own l
    unfolding named
    link_same l = rw (same_numbers, own_is)

    ref_same : (r : NodeJunctionRef) → ref_named N r ≡ named_ref ks own r
    unfolding named
    ref_same r = rw (same_numbers, own_is)

    node_same : (w : NodeEntry) → cell.node_sound N (node_with pool w) ≡ node_sound ks own pool w
    unfolding node_sound
    node_same w = λ i. eqb w.area_id (own_is i)
        && every_same (link_named N) (named_link ks own) link_same (take w.link_count (drop w.link_id pool)) i

    nodes_same : every (cell.node_sound N) N ≡ every (node_sound ks own pool) (take n m.nodes)
    unfolding nodes_of
    nodes_same = every_mapped (cell.node_sound N) (node_with pool) (node_sound ks own pool) node_same (take n m.nodes)

    refs_same : every (ref_named N) (refs_of m) ≡ every (named_ref ks own) (take r m.refs)
    unfolding refs_of
    refs_same = every_same (ref_named N) (named_ref ks own) ref_same (take r m.refs)

    inhabited : 0 < length N
    unfolding nodes_of
    inhabited = rw (length-map, length-take-le n m.nodes fits) some

    full : (ns : List Node) → 0 < length ns → (rs : List NodeJunctionRef) (b : Bool) → b
        ≡ (every (cell.node_sound ns) ns && differing (numbers ns) && every (ref_named ns) rs)
        → b ≡ sound (record { nodes = ns; junctions = []; refs = rs; vehicles = 0; peds = 0; vft = 0; words = [] })
    unfolding sound
    full [] h rs b e = absurd (omega arith)
    full (x ∷ xs) h rs b e = e

    sound_full : nodes_sound (take n m.nodes) own (take l m.links) (take r m.refs) ≡ sound (cell_of m)
    unfolding sound cell_of nodes_sound
    sound_full = full N inhabited (refs_of m) (nodes_sound (take n m.nodes) own (take l m.links) (take r m.refs))
        (λ i. sym nodes_same i && differing (sym same_numbers i) && sym refs_same i)

  -- what is judged
  abbrev pub judged : Bool
  judged = nodes_sound (take n m.nodes) (first_area (take n m.nodes)) (take l m.links) (take r m.refs)

  pub sound_words : n ≤ length m.nodes → none_or (take n m.nodes) judged ≡ sound (cell_of m)
  sound_words fits = go (take n m.nodes) refl
    where
      go : (ws : List NodeEntry) → take n m.nodes ≡ ws → none_or ws judged ≡ sound (cell_of m)
      go [] e = sound_empty (sym (length-take-le n m.nodes fits) ∙ ap length e)
      go (w ∷ ws) e = sound_full (omega (arith, length-take-le n m.nodes fits, ap length e)) fits
