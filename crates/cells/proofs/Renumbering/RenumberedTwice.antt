-- Renumbering a second time changes nothing.
-- Assumes nothing.
use Prim.Native.Nat.{ℕ, suc, ◌+◌, ◌<◌}
use native.Mathlib.Omega.{arith}
use native.Mathlib.Nat.{zero-add}
use mathlib.Core.Path.{◌≡◌, refl, ap, sym, ◌∙◌}
use mathlib.Core.Bool.{Bool, true, false, cond}
use mathlib.Core.List.{List, [], ◌∷◌, map}
use mathlib.Core.Option.{Option, none, some}
use lib.ListN.{length, length-map}
use lib.Seq.{ext_get_or}
use Rattle.cells.specs.Area.{belongs}
use Rattle.cells.specs.Order.{keep, new_place, new_number, last_with, place_or, renamed, Old}
use Rattle.cells.specs.Cell.{Node, Cell, node_at, no_node, is_ped_node, is_vehicle_node, numbers}
use Rattle.cells.specs.Cell.{ped_flags, old_nodes, ordered, renode, number_nodes, renumber_cell}
use Rattle.cells.specs.Nodes.{relinked, rereffed}
use Rattle.cells.specs.declared.link.PathLink.{PathLink}
use Rattle.records.specs.declared.junction_ref.NodeJunctionRef.{NodeJunctionRef}
use Rattle.cells.specs.Memory.{Memory}
use Rattle.cells.specs.CellOf.{cell_of}
use Rattle.cells.specs.Renumber.{renumber}
use Rattle.cells.proofs.Sequences.Tests.{map_keep}
use Rattle.cells.proofs.Renumbering.PartedTwice.{others_again, passing_again, new_again, parted_same}
use Rattle.cells.proofs.Renumbering.Named.{last_inside}
use Rattle.cells.proofs.Renumbering.CellRenumbered.{done_call}
use Rattle.cells.proofs.Renumbering.NewCell.{none_ped, number_is, number_length, number_at, new_length, new_number_law}
use Rattle.std.specs.Prelude.{Ok}

map_same : {A : Type 0} (f : A → A) → ((x : A) → f x ≡ x) → (l : List A) → map f l ≡ l
map_same f e [] = refl
map_same f e (x ∷ xs) = λ i. e x i ∷ map_same f e xs i

-- numbering keeps what a node's body says
bodies_kept : {B : Type 0} (g : Node → B) → ((o : Old) (k : ℕ) (n : Node) → g (renode o k n) ≡ g n)
    → (o : Old) (k : ℕ) (ns : List Node) → map g (number_nodes o k ns) ≡ map g ns
unfolding number_nodes
bodies_kept g e o k [] = refl
bodies_kept g e o k (n ∷ ns) = λ i. e o k n i ∷ bodies_kept g e o (suc k) ns i

counted : (g : Node → Bool) (ns ms : List Node) → map g ns ≡ map g ms → length (keep g ns) ≡ length (keep g ms)
counted g ns ms e = sym (by_flags ns) ∙ ap (λ (b : List Bool). length (keep (λ x. x) b)) e ∙ by_flags ms
  where
    by_flags : (l : List Node) → length (keep (λ x. x) (map g l)) ≡ length (keep g l)
    by_flags l = ap length (map_keep g (λ x. x) l) ∙ length-map (keep g l) g

module _ (c : Cell) where
  abbrev new : List Node
  new = (renumber_cell c).nodes

  flags_new : ped_flags new ≡ ped_flags (ordered c.nodes)
  unfolding renumber_cell
  flags_new = bodies_kept is_ped_node (λ o k n. refl) (old_nodes c.nodes) 0 (ordered c.nodes)

  -- a renumbered cell's nodes are at their new places
  pub stays : (q : ℕ) → q < length c.nodes → new_place (ped_flags (renumber_cell c).nodes) q ≡ q
  stays q lt = ap (λ (b : List Bool). new_place b q) flags_new ∙ new_again is_ped_node no_node none_ped c.nodes q lt

  -- and every number stays what it is
  pub same_number : (k : ℕ) → new_number (old_nodes (renumber_cell c).nodes) k ≡ k
  unfolding new_number
  same_number k = go (last_with (numbers new) k) refl
    where
      go : (o : Option ℕ) → last_with (numbers new) k ≡ o → place_or (ped_flags new) o k ≡ k
      go none e = refl
      go (some p) e =
          let r = last_inside (numbers new) k p e in
          let below : p < length c.nodes = omega (arith, r.0, length-map new (λ n. n.number), new_length c) in
          stays p below ∙ sym (new_number_law c p below) ∙ sym (number_is new p) ∙ r.1

  same_renamed : (x k : ℕ) → renamed (old_nodes new) x k ≡ k
  unfolding renamed
  same_renamed x k = go (belongs (old_nodes new).area x)
    where
      go : (b : Bool) → cond b (new_number (old_nodes new) k) k ≡ k
      go true = same_number k
      go false = refl

  same_link : (l : PathLink) → relinked (old_nodes new) l ≡ l
  same_link l = λ i. record l { node_id = same_renamed l.area_id l.node_id i }

  same_ref : (r : NodeJunctionRef) → rereffed (old_nodes new) r ≡ r
  same_ref r = λ i. record r { node_id = same_renamed r.area_id r.node_id i }

  same_node : (k : ℕ) (n : Node) → n.number ≡ k → renode (old_nodes new) k n ≡ n
  same_node k n e = λ i. record {
    area = n.area;
    number = sym e i;
    links = map_same (relinked (old_nodes new))
        same_link n.links i;
    body = n.body;
  }

  same_order : ordered new ≡ new
  same_order = parted_same is_ped_node no_node none_ped new (λ q lt. stays q (omega (arith, new_length c)))

  same_nodes : number_nodes (old_nodes new) 0 new ≡ new
  same_nodes =
      ext_get_or no_node (number_nodes (old_nodes new) 0 new) new (number_length (old_nodes new) 0 new) (λ q lt.
      let below : q < length new = omega (arith, number_length (old_nodes new) 0 new) in
      number_at (old_nodes new) 0 new q below
      ∙ same_node (0 + q) (node_at new q) (new_number_law c q (omega (arith, new_length c)) ∙ sym (zero-add q)))

  pub renumber_again : renumber_cell (renumber_cell c) ≡ renumber_cell c
  unfolding renumber_cell
  renumber_again = λ i. record {
    nodes = (ap (number_nodes (old_nodes new) 0) same_order ∙ same_nodes) i;
    junctions = c.junctions;
    refs = map_same (rereffed (old_nodes new)) same_ref (renumber_cell c).refs i;
    vehicles = (counted is_vehicle_node new (ordered c.nodes)
        (bodies_kept is_vehicle_node (λ o k n. refl) (old_nodes c.nodes) 0 (ordered c.nodes))
        ∙ ap length (others_again is_ped_node c.nodes)) i;
    peds = (counted is_ped_node new (ordered c.nodes) flags_new ∙ ap length (passing_again is_ped_node c.nodes)) i;
    vft = c.vft;
    words = c.words;
  }

-- a second call that is done leaves the cell as the first one left it
pub call_again : (m : Memory) (ps qs : List ℕ) (s t : ℕ) → (renumber m s ps).answer ≡ (Ok tt)
    → (renumber (renumber m s ps).memory t qs).answer ≡ (Ok tt)
    → cell_of (renumber (renumber m s ps).memory t qs).memory ≡ cell_of (renumber m s ps).memory
call_again m ps qs s t d e =
    let first = done_call m ps s d in
    done_call (renumber m s ps).memory qs t e ∙ ap renumber_cell first ∙ renumber_again (cell_of m) ∙ sym first
