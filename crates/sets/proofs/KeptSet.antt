-- Cells that storing keeps are kept so by the correction of links.
use Prim.Native.Nat.{ℕ, ◌≤◌, ◌<◌}
use mathlib.Core.Path.{◌≡◌}
use mathlib.Core.Bool.{Bool, true, false, cond}
use mathlib.Core.List.{List, map}
use lib.ListN.{length}
use Rattle.std.specs.List.{All}
use Rattle.std.proofs.lemmas.List.Elements.{All-map, All-weaker}
use Rattle.cells.specs.Order.{new_number}
use Rattle.cells.specs.Cell.{Node, Cell}
use Rattle.cells.specs.declared.link.PathLink.{PathLink}
use Rattle.cells.proofs.Forms.EntryFits.{LinkFits}
use Rattle.cells.proofs.WritingBack.KeptCells.{KeptNode, Kept}
use Rattle.cells.proofs.WritingBack.Kept.{kept_again, new_small}
use Rattle.sets.specs.Members.{no_cell, cell_at}
use Rattle.sets.specs.SetSound.{set_sound}
use Rattle.sets.specs.SetRenumber.{Change, meant, corrected, correct_link, correct_node, correct_cell, change_of}
use Rattle.sets.specs.SetRenumber.{renumber_cells}
use Rattle.sets.proofs.RenumberedSet.{members_hold}

module _ (x : Change) (small : (k : ℕ) → k < 65536 → new_number x.old k < 65536) (i : ℕ) where
  number_kept : (a k : ℕ) → k < 65536 → corrected x i a k < 65536
  unfolding corrected
  number_kept a k lt = go (meant x i a)
    where
      go : (b : Bool) → cond b (new_number x.old k) k < 65536
      go true = small k lt
      go false = lt

  pub link_kept : (l : PathLink) → LinkFits l → LinkFits (correct_link x i l)
  link_kept l h = record {
    area_id = h.area_id;
    node_id = number_kept l.area_id l.node_id h.node_id;
    flags0 = h.flags0;
    flags1 = h.flags1;
    flags2 = h.flags2;
    length = h.length;
  }

  pub links_kept : (ls : List PathLink) → All LinkFits ls → All LinkFits (map (correct_link x i) ls)
  links_kept ls h = All-map LinkFits (correct_link x i) ls
      (All-weaker LinkFits (λ l. LinkFits (correct_link x i l)) link_kept ls h)

  node_kept : (n : Node) → KeptNode n → KeptNode (correct_node x i n)
  node_kept n h = record {
    area = h.area;
    number = h.number;
    x = h.x;
    y = h.y;
    z = h.z;
    body = h.body;
    flags5 = h.flags5;
    links = links_kept n.links h.links;
  }

  correct_kept : (c : Cell) → Kept c → Kept (correct_cell x i c)
  correct_kept c h = record {
    nodes = All-map KeptNode (correct_node x i) c.nodes
        (All-weaker KeptNode (λ n. KeptNode (correct_node x i n)) node_kept c.nodes h.nodes);
    junctions = h.junctions;
    refs = h.refs;
    vehicles = h.vehicles;
    peds = h.peds;
    vft = h.vft;
    seven = h.seven;
    words = h.words;
  }

pub set_kept : (cs : List Cell) (j : ℕ) → j < length cs → set_sound cs ≡ true → length (cell_at cs j).nodes ≤ 65536
    → All Kept cs → All Kept (renumber_cells cs j)
set_kept cs j lj s few h =
    members_hold cs j lj s Kept
    (kept_again (cell_at cs j) few (h j no_cell lj))
    (λ i li. correct_kept (change_of cs j) (λ k l. new_small (cell_at cs j).nodes k few l) i (cell_at cs i)
    (h i no_cell li))
