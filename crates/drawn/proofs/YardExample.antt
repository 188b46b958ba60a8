-- The laws speak of something: a yard drawn from a new cell, every call accepted, sound, with a link put in before
-- another node's, and walked. All of it is computed.
use Prim.Native.Nat.{ℕ, ◌<◌}
use native.Mathlib.Omega.{arith}
use mathlib.Core.Path.{◌≡◌, refl}
use mathlib.Core.Bool.{true}
use mathlib.Core.List.{List, [], ◌∷◌, map}
use lib.Ieee.{binary32, of_bits}
use lib.ListN.{replicate}
use Rattle.numbers.specs.declared.math.Vec3.{Vec3}
use Rattle.cells.specs.declared.link.PathLink.{PathLink}
use Rattle.cells.specs.Lists.{every}
use Rattle.cells.specs.Area.{belongs}
use Rattle.cells.specs.Nodes.{no_entry, no_link}
use Rattle.cells.specs.NodeAccess.{new_node}
use Rattle.cells.specs.NewYnd.{new_ynd}
use Rattle.cells.specs.Memory.{Memory, memory, over_limit}
use Rattle.cells.specs.Cell.{Node}
use Rattle.cells.specs.declared.node_entry.NodeEntry.{NodeEntry}
use Rattle.cells.specs.CellOf.{nodes_of, junctions_of, refs_of, cell_of}
use Rattle.cells.specs.Lookup.{first_with, find}
use Rattle.cells.specs.Edit.{held_in}
use Rattle.cells.specs.Add.{with_counts, room_for}
use Rattle.cells.specs.Add as adds
use Rattle.cells.specs.AddLink.{behind, inserted, shifted, nodes_after, room_for_link}
use Rattle.cells.specs.AddLink as links
use Rattle.cells.proofs.Forms.EntryFits.{LinkFits}
use Rattle.walks.specs.Sound.{differing, sound}
use Rattle.walks.specs.Walk.{next}
use Rattle.walks.specs.WalkCall.{route}
use Rattle.walks.specs.Calls.{Call}
use Rattle.walks.specs.Claim.{Unnoticed}
use Rattle.drawn.specs.Changes.{Change, new, edit, edited, after, run}
use Rattle.drawn.specs.Changes.{add_node}
use Rattle.drawn.specs.Changes.{add_link}
use Rattle.drawn.specs.Settled.{settled_body}
use Rattle.drawn.specs.Meaning.{is_accepted, run_cell}
use Rattle.cells.specs.NewYnd.{new_cell}
use Rattle.drawn.specs.Fits.{AllFit}
use Rattle.drawn.specs.Made.{AllStored}
use Rattle.drawn.proofs.StoredDrawing.{yard_demand_3}

abbrev pub lent : Memory
lent = memory new_ynd (replicate 3 no_entry) (replicate 4 no_link) [] [] []

abbrev pub origin : Vec3
origin = record { x = of_bits binary32 0; y = of_bits binary32 0; z = of_bits binary32 0 }

abbrev pub link_to : ℕ → PathLink
link_to k = record { area_id = 5; node_id = k; flags0 = 0; flags1 = 0; flags2 = 0; length = 9 }

-- two nodes; a link each; one more for the first, which moves the second's up
abbrev pub drawing : List Change
drawing = edit (add_node 5 origin) ∷ edit (add_node 5 origin) ∷ edit (add_link 0 (link_to 1)) ∷ edit
    (add_link 1 (link_to 0)) ∷ edit (add_link 0 (link_to 0)) ∷ []

abbrev pub yard : Memory
yard = run (after lent new) drawing

pub yard_sound : sound (cell_of yard) ≡ true
unfolding run after edited new_ynd over_limit adds.add_node room_for with_counts links.add_link room_for_link
    nodes_after inserted shifted behind held_in new_node cell_of nodes_of junctions_of
    refs_of sound every differing first_with belongs
yard_sound = refl

pub yard_links : map (λ (n : Node). map (λ (l : PathLink). l.node_id) n.links) (cell_of yard).nodes ≡ (1 ∷ 0 ∷ [])
    ∷ (0 ∷ []) ∷ []
unfolding run after edited new_ynd over_limit adds.add_node room_for with_counts links.add_link room_for_link
    nodes_after inserted shifted behind held_in new_node cell_of nodes_of
yard_links = refl

pub yard_walked : (route (cell_of yard).nodes (0 ∷ 0 ∷ 1 ∷ []) 0).places ≡ 0 ∷ 1 ∷ 0 ∷ 0 ∷ []
unfolding run after edited new_ynd over_limit adds.add_node room_for with_counts links.add_link room_for_link
    nodes_after inserted shifted behind held_in new_node cell_of nodes_of route next find belongs first_with
yard_walked = refl

-- what the calls mean for the cell, computed without the memory's steps
pub yard_numbers : map (λ (n : Node). n.number) (run_cell (after lent new) drawing new_cell).nodes ≡ 0 ∷ 1 ∷ []
unfolding run_cell is_accepted after edited new_ynd over_limit adds.add_node room_for with_counts links.add_link
    room_for_link nodes_after inserted shifted behind held_in new_node
yard_numbers = refl

-- of flags5 three bits are stored
pub three_bits : (b : NodeEntry) → b.flags5 ≡ 9 → (settled_body b).flags5 ≡ 1
three_bits b e = rw e refl

link_fits : (k : ℕ) → k < 65536 → LinkFits (link_to k)
link_fits k h = record {
  area_id = omega arith;
  node_id = h;
  flags0 = omega arith;
  flags1 = omega arith;
  flags2 =
      omega arith;
  length = omega arith;
}

pub drawing_fits : AllFit drawing
unfolding AllFit
drawing_fits = (
  omega arith,
  (
    omega arith,
    (link_fits 1 (omega arith), (link_fits 0 (omega arith), (link_fits 0 (omega arith), tt))),
  ),
)

drawing_stored : AllStored drawing
unfolding AllStored
drawing_stored = (tt, (tt, (tt, (tt, (tt, tt)))))

-- so demand 3 holds of it
pub yard_unnoticed : (ks : List Call) → Unnoticed (cell_of yard) yard ks
yard_unnoticed ks = yard_demand_3 lent drawing drawing_fits drawing_stored yard_sound ks
