-- What an accepted reading leaves is as read; renumbering and write-then-read leave what is as read so.
-- Assumes nothing.
use Prim.Native.Nat.{ℕ, suc, ◌*◌}
use native.Mathlib.Omega.{arith}
use mathlib.Core.Path.{◌≡◌, refl, ap, ◌∙◌}
use mathlib.Core.List.{List, [], ◌∷◌, map}
use lib.ListN.{length, take, drop, length-append, length-map}
use borrow.Author.Tests.{eq-eqb}
use Rattle.std.specs.Prelude.{Result, Ok, Err}
use Rattle.std.proofs.lemmas.List.Elements.{All-weaker, All-get_or}
use Rattle.numbers.specs.Refusals.{Answer}
use Rattle.numbers.specs.declared.refusal.Refusal.{Refusal}
use Rattle.records.specs.Put.{joined}
use Rattle.records.specs.Records.{node_at, junction_at}
use Rattle.records.specs.declared.root.Root.{Root}
use Rattle.cells.specs.Lists.{join_to, every}
use Rattle.cells.specs.Order.{Old}
use Rattle.cells.specs.Nodes.{old_of, relinked}
use Rattle.cells.specs.Cell.{Node, Junction, Cell, is_ped_node, number_nodes, ordered, old_nodes, renumber_cell}
use Rattle.cells.specs.CellOf.{cell_of}
use Rattle.cells.specs.StoredCell.{no_junction}
use Rattle.cells.specs.FileCell.{file_node_of, file_junction_of, file_nodes, file_junctions, cell_from}
use Rattle.cells.specs.Checks.{counts_of, links_at, values_at}
use Rattle.cells.specs.Memory.{Memory, over_limit, short}
use Rattle.cells.specs.Read.{links_in, values_in, filled, read_of}
use Rattle.cells.specs.Renumber.{renumber_lists, new_lists, renumber_memory, answer_of, left_by, renumber}
use Rattle.cells.specs.RenumberParts.{Room}
use Rattle.cells.specs.Write.{write_call}
use Rattle.cells.specs.WriteRead.{if_read, if_written, write_read_of}
use Rattle.cells.proofs.Sequences.Tests.{every_all}
use Rattle.cells.proofs.Sequences.JoinedCounts.{count_up_to, count_parted}
use Rattle.cells.proofs.Reading.ReadLaws.{length_up_to, length_join_to, length_links, length_values, Holds}
use Rattle.cells.proofs.Reading.FileRead.{filled_cell, read_all, read_cell}
use Rattle.cells.proofs.Renumbering.NewCell.{new_length, new_junctions}
use Rattle.cells.proofs.Renumbering.CellRenumbered.{accepted, renumber_memory_law, all_relinked_long}
use Rattle.cells.proofs.WritingBack.KeptCells.{KeptJunction, Kept}
use Rattle.cells.proofs.WritingBack.Kept.{read_kept}
use Rattle.cells.proofs.WritingBack.AsRead.{whole_map, SizedMap, links_held, values_held, AsRead}

-- ---- reading

-- the counts and the lists go by the arrays' sizes, the heightmaps by the bytes
filled_as_read : (root : Root) (n l j h r : List ℕ) (m : Memory) → Holds n j r (counts_of n j r)
    → Kept (cell_of (filled root (counts_of n j r) n l j h r m))
    → AsRead (filled root (counts_of n j r) n l j h r m)
unfolding filled cell_from file_nodes file_junctions
filled_as_read root n l j h r m few kept =
    let k = counts_of n j r in
    let node : ℕ → Node = λ i. file_node_of l (node_at n (i * 40)) in
    let junction : ℕ → Junction = λ i. file_junction_of h (junction_at j (i * 12)) in
    let left : Memory = filled root k n l j h r m in
    let same : cell_of left ≡ cell_from root n l j h r = filled_cell root n l j h r m in
    let js : List Junction = (cell_of left).junctions in
    record {
      few_nodes = omega (arith, ap (λ (c : Cell). length c.nodes) same, length_up_to node k.nodes, few.few_nodes);
      few_junctions = omega (
        arith,
        ap (λ (c : Cell). length c.junctions) same,
        length_up_to junction k.junctions,
        few.few_junctions,
      );
      sized = All-weaker KeptJunction SizedMap (λ x t. record { width = t.width; height = t.height }) js
          kept.junctions;
      maps_whole = every_all whole_map no_junction js
          (λ i lt. eq-eqb _ _ (All-get_or KeptJunction js i no_junction lt kept.junctions).full);
      links_fit = omega (
        arith,
        ap links_held same,
        count_up_to (λ (x : Node). x.links) node (links_at n) (λ i. length_up_to _ (links_at n i)) k.nodes,
        length-append (join_to (links_in n l) k.nodes) (drop k.links m.links),
        length_join_to (links_in n l) (links_at n) (length_links n l) k.nodes,
      );
      values_fit = omega (
        arith,
        ap values_held same,
        count_up_to (λ (x : Junction). x.values) junction (values_at j) (λ i. length_up_to _ (values_at j i))
            k.junctions,
        length-append (join_to (values_in j h) k.junctions) (drop k.heights m.heights),
        length_join_to (values_in j h) (values_at j) (length_values j h) k.junctions,
      );
    }

pub read_as_read : (s g : List ℕ) (m : Memory) → (read_of s g m).answer ≡ Ok tt → AsRead (read_of s g m).memory
read_as_read s g m e =
    read_all (λ x. Kept (cell_of x) → AsRead x) s g m
    (λ n l j h r held kept. filled_as_read _ n l j h r m held kept) e
    (rw (read_cell s g m e) (read_kept s g))

-- ---- renumbering

-- each node takes its links with it
number_links : (o : Old) (k : ℕ) (ns : List Node) → length (joined (λ n. n.links) (number_nodes o k ns))
    ≡ length (joined (λ n. n.links) ns)
unfolding number_nodes joined
number_links o k [] = refl
number_links o k (n ∷ ns) =
    omega (
      arith,
      length-map n.links (relinked o),
      number_links o (suc k) ns,
      length-append (map (relinked o) n.links) (joined (λ x. x.links) (number_nodes o (suc k) ns)),
      length-append n.links (joined (λ x. x.links) ns),
    )

links_stay : (c : Cell) → links_held (renumber_cell c) ≡ links_held c
unfolding renumber_cell
links_stay c = number_links (old_nodes c.nodes) 0 (ordered c.nodes)
    ∙ count_parted (λ (n : Node). n.links) is_ped_node c.nodes

module _ (m : Memory) (ps : List ℕ) (s : ℕ) (h : AsRead m) where
  renumbered_as_read : Room m s (length ps) → AsRead (renumber_memory m ps)
  unfolding renumber_memory new_lists renumber_lists
  renumbered_as_read room =
      let same : cell_of (renumber_memory m ps) ≡ renumber_cell (cell_of m) = renumber_memory_law m ps room in
      let js : (cell_of (renumber_memory m ps)).junctions
      ≡ (cell_of m).junctions = ap (λ (c : Cell). c.junctions) same ∙ new_junctions (cell_of m) in
      record {
        few_nodes = omega (arith, ap (λ (c : Cell). length c.nodes) same, new_length (cell_of m), h.few_nodes);
        few_junctions = omega (arith, ap {A = List Junction} length js, h.few_junctions);
        sized = rw js h.sized;
        maps_whole = ap (every whole_map) js ∙ h.maps_whole;
        links_fit = omega (
          arith,
          ap links_held same,
          links_stay (cell_of m),
          h.links_fit,
          all_relinked_long (old_of m.ynd.node_count m.nodes) m.ynd.link_count m.links room.links_fit,
        );
        values_fit = omega (arith, ap (λ (x : List Junction). length (joined (λ j. j.values) x)) js, h.values_fit);
      }

  pub renumber_as_read : AsRead (renumber m s ps).memory
  unfolding renumber
  renumber_as_read = go (answer_of (over_limit m.ynd) m.ynd.node_count (short m) s (length ps)) refl
    where
      go : (a : Answer) → answer_of (over_limit m.ynd) m.ynd.node_count (short m) s (length ps) ≡ a
          → AsRead (left_by a m ps).memory
      go (Ok tt) e = renumbered_as_read (accepted m s (length ps) e)
      go (Err cause) e = h

-- ---- write-then-read

pub write_read_as_read : (m : Memory) (s : List ℕ) → AsRead m → AsRead (write_read_of m s).memory
unfolding write_read_of
write_read_as_read m s h = go (write_call m s).answer
  where
    t : List ℕ
    t = (write_call m s).section

    reading : (n : ℕ) (c : Answer) → (read_of (take n t) [] m).answer ≡ c
        → AsRead (if_read n t c (read_of (take n t) [] m).memory m s).memory
    reading n (Err cause) e = h
    reading n (Ok tt) e = read_as_read (take n t) [] m e

    go : (a : Result ℕ Refusal) → AsRead (if_written a t m s).memory
    go (Err cause) = h
    go (Ok n) = reading n (read_of (take n t) [] m).answer refl
