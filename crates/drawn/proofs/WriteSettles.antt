-- Write-then-read of any made cell leaves it settled: coordinates in whole steps, of flags5 the low three bits. It is
-- so from then on.
use Rattle.cells.proofs.WritingBack.Kept.{step_again}
use Rattle.std.proofs.lemmas.List.Elements.{All-map, All-weaker, All-from_get_or}
use Rattle.cells.specs.Cell.{no_node, node_at}
use Rattle.cells.specs.StoredCell.{no_junction, junction_at}
use Rattle.cells.proofs.Sequences.Tests.{every_map}
use Rattle.cells.proofs.WritingBack.KeptCells.{InSteps, Kept}
use Rattle.drawn.specs.Made.{FittedNode, FittedJunction, Fitted, StoredNode, StoredJunction, Stored}
use Rattle.drawn.proofs.FittedCells.{all_kept}
use Rattle.drawn.proofs.TidyAsRead.{maps_whole, made_sized, made_alike}
use Prim.Native.Nat.{ℕ, ◌%◌, ◌≤◌}
use native.Mathlib.Omega.{arith}
use mathlib.Core.Path.{◌≡◌, refl, sym, ap, ◌∙◌}
use mathlib.Core.Bool.{true}
use mathlib.Core.List.{List, [], ◌∷◌, map, map-map}
use lib.ListN.{length, take}
use lib.Ieee.{Float, binary32, of_bits, to_bits}
use Rattle.std.specs.Prelude.{Result, Ok, Err}
use Rattle.numbers.specs.Refusals.{Answer}
use Rattle.numbers.specs.declared.refusal.Refusal.{Refusal}
use Rattle.numbers.specs.Steps.{step_of, unstep}
use Rattle.numbers.proofs.StepLaws.{step_in}
use Rattle.numbers.proofs.Refusing.{not_refused}
use Rattle.records.specs.declared.root.Root.{Root}
use Rattle.cells.specs.Lists.{every}
use Rattle.cells.specs.Memory.{Memory}
use Rattle.cells.specs.Read.{read_of}
use Rattle.cells.specs.Cell.{Node, Junction, Cell}
use Rattle.cells.specs.CellOf.{node_with, junction_with, cell_of}
use Rattle.cells.specs.FileCell.{cell_from, file_cell}
use Rattle.cells.specs.Blocks.{refs_block, heights_block, junctions_block, links_block, nodes_block, blocks, root_for}
use Rattle.cells.specs.Blocks.{written}
use Rattle.cells.specs.Write.{held, write_call}
use Rattle.cells.specs.WriteRead.{if_read, if_written, write_read_of}
use Rattle.cells.proofs.Reading.FileRead.{read_cell}
use Rattle.cells.proofs.WritingBack.BlocksBack.{refs_back}
use Rattle.cells.proofs.WritingBack.WrittenBack.{whole, seven_back, Told, whole_of, blocks_back, write_told}
use Rattle.cells.proofs.WritingBack.WrittenBack.{whole_held}
use Rattle.cells.proofs.WritingBack.WrittenBack.{write_read_same}
use Rattle.cells.proofs.WritingBack.WrittenFew.{written_few}
use Rattle.cells.proofs.WritingBack.SectionBack.{stored_root}
use Rattle.cells.proofs.WritingBack.AsRead.{whole_map}
use Rattle.drawn.specs.Settled.{settled_step, settled_node, settled_junction, settled}
use Rattle.drawn.specs.Made.{Made}
use Rattle.drawn.proofs.BlocksSettled.{nodes_settled, junctions_settled}

-- ---- the section that was written, read

module _ (h : Memory) (told : Told h) (t : Fitted (whole_of h))
    (maps : every whole_map (whole_of h).junctions ≡ true) where
  abbrev root : Root
  root = root_for h (map length (blocks h))

  from_blocks : cell_from (stored_root root) (nodes_block h.links h.nodes) (links_block h.links h.nodes)
      (junctions_block h.heights h.junctions) (heights_block h.heights h.junctions) (refs_block h.refs) ≡ settled
      (whole_of h)
  unfolding cell_from root_for settled
  from_blocks =
      λ i. record {
        nodes = (nodes_settled h.links h.nodes told.nodes_told t.nodes ∙ sym
            (map-map settled_node (node_with h.links) h.nodes)) i;
        junctions = (junctions_settled h.heights h.junctions told.junctions_told t.junctions maps ∙ sym
            (map-map settled_junction (junction_with h.heights) h.junctions)) i;
        refs = refs_back h.refs t.refs i;
        vehicles = whole h.ynd.vehicle_node_count t.vehicles i;
        peds = whole h.ynd.ped_node_count t.peds i;
        vft = whole h.ynd.vft t.vft i;
        words = seven_back h.ynd.unknowns t.seven t.words i;
      }

  section_settled : file_cell (written h) [] ≡ settled (whole_of h)
  section_settled = blocks_back h told (written_few h told) ∙ from_blocks

-- ---- the call

-- an accepted write-then-read leaves the cell settled
pub write_read_settles : (m : Memory) → Made m → (s : List ℕ) (n : ℕ) → (write_read_of m s).answer ≡ Ok n → cell_of
    (write_read_of m s).memory ≡ settled (cell_of m)
unfolding write_read_of write_call
write_read_settles m h s n w = go (write_call m s).answer refl w
  where
    t : List ℕ
    t = (write_call m s).section

    back : (k : ℕ) → take k t ≡ written (held m) → Told (held m) → (c : Answer) → (read_of (take k t) [] m).answer ≡ c
        → (if_read k t c (read_of (take k t) [] m).memory m s).answer ≡ Ok n
        → cell_of (if_read k t c (read_of (take k t) [] m).memory m s).memory ≡ settled (cell_of m)
    back k b told (Err x) e u = not_refused u
    back k b told (Ok tt) e u =
        read_cell (take k t) [] m e ∙ ap (λ (x : List ℕ). file_cell x []) b
        ∙ section_settled (held m) told
        (rw (whole_held m) h.fits)
        (ap (λ (c : Cell). every whole_map c.junctions) (whole_held m) ∙ maps_whole m h.tidy)
        ∙ ap settled (whole_held m)

    go : (a : Result ℕ Refusal) → (write_call m s).answer ≡ a → (if_written a t m s).answer ≡ Ok n → cell_of
        (if_written a t m s).memory ≡ settled (cell_of m)
    go (Err x) e u = not_refused u
    go (Ok k) e u = let w = write_told m (made_sized m h) s k e in back k w.bytes w.told (read_of
        (take k t) [] m).answer refl u

-- it is accepted exactly as writing is
pub written_settles : (m : Memory) → Made m → (s : List ℕ) (n : ℕ) → (write_call m s).answer ≡ Ok n
    → ((write_read_of m s).answer ≡ Ok n) × (cell_of (write_read_of m s).memory ≡ settled (cell_of m))
written_settles m h s n e = let a = (made_alike m h s).0 ∙ e in (a, write_read_settles m h s n a)

-- ---- once settled, settled

-- a stored coordinate, stored again
step_twice_law : (k : ℕ) (x : Float) → k ≤ 5 → settled_step k (to_bits binary32 (unstep k (step_of k x)))
    ≡ to_bits binary32 (unstep k (step_of k x))
step_twice_law k x h = step_again k (step_of k x) h (step_in k x)

pub step_stored : (k : ℕ) (x : Float) → k ≤ 5 → InSteps k (to_bits binary32 (unstep k (step_of k x)))
step_stored k x h = step_twice_law k x h

pub step_twice : (k b : ℕ) → k ≤ 5 → settled_step k (settled_step k b) ≡ settled_step k b
step_twice k b h = step_twice_law k (of_bits binary32 b) h

pub two : 2 ≤ 5
two = omega arith

pub five : 5 ≤ 5
five = omega arith

pub settled_stored : (c : Cell) → Stored (settled c)
unfolding settled
settled_stored c = record {
  nodes = All-map StoredNode settled_node c.nodes (All-from_get_or (λ n. StoredNode
      (settled_node n)) c.nodes no_node (λ i lt.
      node (node_at c.nodes i)));
  junctions = All-map StoredJunction settled_junction c.junctions (All-from_get_or (λ j. StoredJunction
      (settled_junction j)) c.junctions no_junction
      (λ i lt. junction (junction_at c.junctions i)));
}
  where
    node : (n : Node) → StoredNode (settled_node n)
    node n = record {
      x = step_twice 2 n.body.position.x two;
      y = step_twice 2 n.body.position.y two;
      z = step_twice 5 n.body.position.z five;
      flags5 = omega arith;
    }

    junction : (j : Junction) → StoredJunction (settled_junction j)
    junction j = record {
      x = step_twice 2 j.x two;
      y = step_twice 2 j.y two;
      low = step_twice 5 j.low five;
      high = step_twice 5 j.high five;
    }

pub settled_fitted : (c : Cell) → Fitted c → Fitted (settled c)
unfolding settled
settled_fitted c f = record {
  nodes = All-map FittedNode settled_node c.nodes (All-weaker FittedNode (λ n. FittedNode (settled_node n)) node
      c.nodes f.nodes);
  junctions = All-map FittedJunction settled_junction c.junctions (All-weaker FittedJunction
      (λ j. FittedJunction (settled_junction j)) junction c.junctions f.junctions);
  refs = f.refs;
  vehicles = f.vehicles;
  peds = f.peds;
  vft = f.vft;
  seven = f.seven;
  words = f.words;
}
  where
    node : (n : Node) → FittedNode n → FittedNode (settled_node n)
    node n h = record {
      area = h.area;
      number = h.number;
      body = record {
        street_name = h.body.street_name;
        flags0 = h.body.flags0;
        flags1 = h.body.flags1;
        flags2 = h.body.flags2;
        flags3 = h.body.flags3;
        flags4 = h.body.flags4;
        flags5 = omega arith;
        unused0 = h.body.unused0;
        unused1 = h.body.unused1;
        unused2 = h.body.unused2;
        unused3 = h.body.unused3;
        unused4 = h.body.unused4;
      };
      links = h.links;
    }

    junction : (j : Junction) → FittedJunction j → FittedJunction (settled_junction j)
    junction j h = record { width = h.width; height = h.height; values = h.values }

pub settled_whole : (c : Cell) → every whole_map c.junctions ≡ true → every whole_map (settled c).junctions ≡ true
unfolding settled
settled_whole c t = every_map whole_map settled_junction whole_map (λ j a. a) c.junctions t

-- storing keeps a settled cell
pub settled_kept : (m : Memory) → Made m → Kept (settled (cell_of m))
settled_kept m h = all_kept (settled (cell_of m)) (settled_fitted (cell_of m) h.fits) (settled_stored (cell_of m))
    (settled_whole (cell_of m) (maps_whole m h.tidy))

pub settled_twice : (c : Cell) → settled (settled c) ≡ settled c
unfolding settled
settled_twice c = λ i. record {
  nodes = (map-map settled_node settled_node c.nodes ∙ each
      (λ n. settled_node (settled_node n)) settled_node node c.nodes) i;
  junctions = (map-map settled_junction settled_junction c.junctions ∙ each
      (λ j. settled_junction (settled_junction j)) settled_junction junction c.junctions) i;
  refs = c.refs;
  vehicles = c.vehicles;
  peds = c.peds;
  vft = c.vft;
  words = c.words;
}
  where
    each : {A B : Type 0} (f g : A → B) → ((x : A) → f x ≡ g x) → (l : List A) → map f l ≡ map g l
    each f g e [] = refl
    each f g e (x ∷ xs) = λ i. e x i ∷ each f g e xs i

    flags : (f : ℕ) → f % 8 % 8 ≡ f % 8
    flags f = omega arith

    node : (n : Node) → settled_node (settled_node n) ≡ settled_node n
    node n = λ i. record n {
      body = record n.body {
        position = record {
          x = step_twice 2 n.body.position.x two i;
          y = step_twice 2 n.body.position.y two i;
          z = step_twice 5 n.body.position.z five i;
        };
        flags5 = flags n.body.flags5 i;
      };
    }

    junction : (j : Junction) → settled_junction (settled_junction j) ≡ settled_junction j
    junction j = λ i. record {
      x = step_twice 2 j.x two i;
      y = step_twice 2 j.y two i;
      low = step_twice 5 j.low five i;
      high = step_twice 5 j.high five i;
      width = j.width;
      height = j.height;
      values = j.values;
    }

-- ---- what was written, by itself

read_back : (m : Memory) (s : List ℕ) (n : ℕ) → (write_call m s).answer ≡ Ok n → (write_read_of m s).answer ≡ Ok n
    → ((read_of (take n (write_call m s).section) [] m).answer ≡ (Ok tt))
    × ((write_read_of m s).memory ≡ (read_of (take n (write_call m s).section) [] m).memory)
unfolding write_read_of
read_back m s n e w = go (read_of (take n t) [] m).answer refl
    (ap (λ (a : Result ℕ Refusal). (if_written a t m s).answer) (sym e) ∙ w)
    (ap (λ (a : Result ℕ Refusal). (if_written a t m s).memory) e)
  where
    t : List ℕ
    t = (write_call m s).section

    go : (c : Answer) → (read_of (take n t) [] m).answer ≡ c
        → (if_read n t c (read_of (take n t) [] m).memory m s).answer ≡ Ok n
        → (if_written (write_call m s).answer t m s).memory
        ≡ (if_read n t c (read_of (take n t) [] m).memory m s).memory
        → ((read_of (take n t) [] m).answer ≡ (Ok tt))
        × ((if_written (write_call m s).answer t m s).memory ≡ (read_of (take n t) [] m).memory)
    go (Ok tt) d u v = (d, v)
    go (Err x) d u v = not_refused u

-- the section that an accepted writing of a made cell leaves is, by document 01, the settled cell: whoever reads it,
-- into whatever memory
pub section_means : (m : Memory) → Made m → (s : List ℕ) (n : ℕ) → (write_call m s).answer ≡ Ok n → file_cell
    (take n (write_call m s).section) [] ≡ settled (cell_of m)
section_means m h s n e =
    let w = written_settles m h s n e in
    let r = read_back m s n e w.0 in
    sym (read_cell (take n (write_call m s).section) [] m r.0) ∙ ap cell_of (sym r.1) ∙ w.1

-- once accepted, no later write-then-read changes the cell
pub write_read_stable : (m : Memory) → Made m → (s : List ℕ) (n : ℕ) → (write_read_of m s).answer ≡ Ok n
    → (t : List ℕ) → cell_of (write_read_of (write_read_of m s).memory t).memory ≡ cell_of (write_read_of m s).memory
write_read_stable m h s n e t = write_read_same (write_read_of m s).memory t
    (rw (write_read_settles m h s n e) (settled_kept m h))
