-- What a set's calls make of one member: a cell that joined, one whose links were corrected, one with other words of
-- its own. Assumes nothing.
use Rattle.sets.proofs.KeptSet.{links_kept}
use Prim.Native.Nat.{ℕ, ◌+◌, ◌-◌, ◌≤◌, ◌<◌}
use native.Mathlib.Omega.{arith}
use mathlib.Core.Path.{◌≡◌, refl, ap, ◌∙◌}
use mathlib.Core.List.{List, [], ◌∷◌, map}
use lib.ListN.{length, get_or, take, drop, length-append, length-map, get_or-append}
use lib.Seq.{get_or-take, length-take-le}
use Rattle.cells.specs.Memory.{Memory}
use Rattle.cells.specs.declared.counts.Counts.{Counts}
use Rattle.cells.specs.Cell.{Cell}
use Rattle.cells.specs.CellOf.{cell_of}
use Rattle.cells.specs.Renumber.{over}
use Rattle.cells.specs.OwnWords.{with_own}
use Rattle.cells.specs.Truncate.{counted}
use Rattle.cells.specs.Nodes.{no_entry, no_map}
use Rattle.cells.specs.Cell.{Node}
use Rattle.std.proofs.lemmas.List.Elements.{All-map, All-weaker}
use Rattle.sets.specs.Members.{cell_at}
use Rattle.sets.specs.MemberList.{cells_of, member_at}
use Rattle.sets.specs.CellSet.{CellSet}
use Rattle.sets.specs.Join.{part_of_cell, joined_member}
use Rattle.sets.specs.SetRenumber.{Change, correct_node, correct_cell, change_of}
use Rattle.sets.specs.SetRenumber.{correct_link, correct_memory}
use Rattle.sets.proofs.SetMemory.{correct_memory_law, cell_at_law}
use Rattle.drawn.specs.Made.{Made, Fitted, FittedNode}
use Rattle.drawn.specs.Changes.{edit, set_vft, set_vehicle_node_count, set_ped_node_count, set_unknowns, edited}
use Rattle.drawn.specs.Changes.{after, run}
use Rattle.drawn.specs.Fits.{AllFit}
use Rattle.drawn.proofs.FrontTidy.{front_tidy}
use Rattle.cells.proofs.WritingBack.Kept.{new_small}
use Rattle.drawn.proofs.EditsMean.{nodes_many}
use Rattle.drawn.proofs.Made.{run_made}
use Rattle.drawnsets.specs.AllMade.{WordsFit}

-- a made cell has seven words
pub seven_words : (m : Memory) → Made m → length m.ynd.unknowns ≡ 7
unfolding cell_of
seven_words m h = h.fits.seven

-- ---- a cell that joined

module _ {A : Type 0} (at size n : ℕ) (new l : List A) (fits : n ≤ length new) where
  part_front : (q : ℕ) (d : A) → q < n → get_or (part_of_cell at size n new l) q d ≡ get_or new q d
  unfolding part_of_cell
  part_front q d lt =
      get_or-append (take n new) (take (size - n) (drop (at + n) l)) d q (omega (arith, length-take-le n new fits))
      ∙ get_or-take n new q d lt

  part_long : n ≤ length (part_of_cell at size n new l)
  unfolding part_of_cell
  part_long = omega (
    arith,
    length-append (take n new) (take (size - n) (drop (at + n) l)),
    length-take-le n new fits,
  )

pub joined_made : (ws : List (List ℕ)) (y : CellSet) (m : Memory) (sizes : Counts) → Made m
    → cell_of (joined_member ws y m sizes) ≡ cell_of m → Made (joined_member ws y m sizes)
joined_made ws y m sizes h e =
    let t = h.tidy in
    record {
      tidy = front_tidy m t _ _ _ _ _
          (λ q lt. part_front _ sizes.nodes m.ynd.node_count m.nodes y.nodes t.nodes_lie q no_entry lt)
          (λ q lt. part_front _ sizes.junctions m.ynd.junction_count m.junctions y.junctions t.junctions_lie q
          no_map lt)
          (part_long _ sizes.nodes m.ynd.node_count m.nodes y.nodes t.nodes_lie)
          (part_long _ sizes.links m.ynd.link_count m.links y.links t.links_lie)
          (part_long _ sizes.junctions m.ynd.junction_count m.junctions y.junctions t.junctions_lie)
          (part_long _ sizes.heights m.ynd.heightmap_count m.heights y.heights t.values_lie)
          (part_long _ sizes.refs m.ynd.ref_count m.refs y.refs t.refs_lie);
      fits = rw e h.fits;
    }

-- ---- a member whose links were corrected

module _ (cs : List Cell) (j : ℕ) (few : length (cell_at cs j).nodes ≤ 65536) (i : ℕ) where
  abbrev x : Change
  x = change_of cs j

  cell_corrected : (c : Cell) → Fitted c → Fitted (correct_cell x i c)
  cell_corrected c f = record {
    nodes = All-map FittedNode (correct_node x i) c.nodes
        (All-weaker FittedNode (λ n. FittedNode (correct_node x i n)) node c.nodes f.nodes);
    junctions = f.junctions;
    refs = f.refs;
    vehicles = f.vehicles;
    peds = f.peds;
    vft = f.vft;
    seven = f.seven;
    words = f.words;
  }
    where
      node : (n : Node) → FittedNode n → FittedNode (correct_node x i n)
      node n h = record {
        area = h.area;
        number = h.number;
        body = h.body;
        links = links_kept x (λ k. new_small (cell_at cs j).nodes k few) i n.links h.links;
      }

  pub corrected_made : (m : Memory) → Made m → Made (correct_memory x i m)
  unfolding correct_memory
  corrected_made m h =
      let t = h.tidy in
      let l = m.ynd.link_count in
      let f = correct_link x i in
      record {
        tidy = front_tidy m t m.nodes (over (map f) l m.links) m.junctions m.heights m.refs
            (λ q lt. refl) (λ q lt. refl) t.nodes_lie
            (omega (
              arith,
              length-append (map f (take l m.links)) (drop l m.links),
              length-map (take l m.links) f,
              length-take-le l m.links t.links_lie,
            ))
            t.junctions_lie t.values_lie t.refs_lie;
        fits = rw (correct_memory_law x i m) (cell_corrected (cell_of m) h.fits);
      }

-- of a made member that is renumbered
pub few_nodes : (ms : List Memory) (j : ℕ) → Made (member_at ms j) → length (cell_at (cells_of ms) j).nodes ≤ 65536
few_nodes ms j h =
    let m = member_at ms j in
    omega (arith, ap (λ (c : Cell). length c.nodes) (cell_at_law ms j), nodes_many m h.tidy, h.tidy.few_nodes)

-- ---- other words of its own: four calls on a cell, one on a member

pub words_made : (m : Memory) → Made m → (vft vehicles peds : ℕ) (words : List ℕ) → vft < 4294967296
    → vehicles < 4294967296 → peds < 4294967296 → WordsFit words
    → Made (counted (with_own m.ynd vft vehicles peds words) m)
unfolding run after edited with_own AllFit
words_made m h vft vehicles peds words a b c d =
    run_made m h (edit (set_vft vft) ∷ edit (set_vehicle_node_count vehicles) ∷ edit (set_ped_node_count peds) ∷ edit
    (set_unknowns words) ∷ [])
    (a, (b, (c, (d, tt))))
