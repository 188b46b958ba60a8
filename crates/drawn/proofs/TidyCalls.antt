-- A new cell and an accepted reading are tidy; renumbering and write-then-read leave a tidy cell tidy, accepted or
-- refused.
-- Assumes nothing.
use Rattle.cells.proofs.Renumbering.CellRenumbered.{reordered_long}
use Rattle.cells.proofs.Renumbering.Reordered.{number_length}
use Rattle.cells.proofs.Renumbering.Placed.{none_ped}
use Prim.Native.Nat.{ℕ, zero, suc, ◌≤◌, ◌<◌}
use native.Mathlib.Omega.{arith}
use native.Mathlib.Nat.{zero-add}
use mathlib.Core.Path.{◌≡◌, refl, ap, sym, ◌∙◌}
use mathlib.Core.List.{List, [], ◌∷◌, ◌++◌, map}
use lib.Dec.{ltb}
use lib.ListN.{length, get_or, take, drop, length-append, length-map, length-drop, get_or-append}
use lib.Seq.{length-take-le, get_or-take, get_or_at}
use borrow.Author.Tests.{ltb-true, ltb-false}
use Rattle.std.specs.Prelude.{Result, Ok, Err}
use Rattle.numbers.specs.Refusals.{Answer}
use Rattle.numbers.specs.declared.refusal.Refusal.{Refusal}
use Rattle.records.specs.declared.root.Root.{Root}
use Rattle.cells.specs.Lists.{up_to, join_to, sum_to}
use Rattle.cells.specs.Order.{parted, new_place}
use Rattle.cells.proofs.Editing.Conditions.{link_start, link_count, value_start}
use Rattle.cells.specs.Nodes.{value_count, is_ped, numbered, number_from, no_entry, no_map}
use Rattle.cells.specs.Nodes.{reordered, old_of}
use Rattle.cells.specs.Paths.{path_node, path_junction}
use Rattle.cells.specs.Memory.{Memory, memory, over_limit, short}
use Rattle.cells.specs.Nodes.{relinked, rereffed}
use Rattle.cells.specs.NewYnd.{new_ynd}
use Rattle.cells.specs.Checks.{counts_of, links_at, values_at}
use Rattle.cells.specs.Read.{node_in, links_in, junction_in, values_in, ref_in, filled, cell_read, read_of}
use Rattle.cells.specs.Renumber.{renumber_lists, recounted, new_lists, renumber_memory, answer_of, left_by, renumber}
use Rattle.cells.specs.Write.{write_call}
use Rattle.cells.specs.WriteRead.{if_read, if_written, write_read_of}
use Rattle.cells.proofs.Sequences.Tests.{by_test}
use Rattle.cells.specs.RangedParts.{length_up_to, length_links, length_values}
use Rattle.cells.proofs.Reading.ReadLaws.{length_join_to, Holds, links_fit_word, heights_fit_word}
use Rattle.cells.proofs.Reading.FileRead.{read_all}
use Rattle.cells.proofs.Renumbering.Reordered.{number_at}
use Rattle.cells.proofs.Renumbering.CellRenumbered.{parted_length}
use Rattle.cells.proofs.Renumbering.Placed.{new_at}
use Rattle.drawn.specs.Tidy.{LinksApart, Tidy}
use Rattle.drawn.proofs.SeparateLaws.{none, same, moved, summed}
use Rattle.drawn.proofs.Origins.{Origin, origin}
use Rattle.cells.specs.declared.node_entry.NodeEntry.{NodeEntry}
use Rattle.cells.specs.declared.link.PathLink.{PathLink}
use Rattle.cells.specs.declared.junction_entry.JunctionEntry.{JunctionEntry}
use Rattle.records.specs.declared.junction_ref.NodeJunctionRef.{NodeJunctionRef}

-- ---- a new cell

pub new_tidy : (nodes : List NodeEntry) (links : List PathLink) (junctions : List JunctionEntry) (heights : List ℕ)
    (refs : List NodeJunctionRef) → Tidy
    (memory new_ynd nodes links junctions heights refs)
unfolding new_ynd
new_tidy nodes links junctions heights refs = record {
  few_nodes = omega arith;
  few_junctions = omega arith;
  nodes_lie = omega arith;
  links_lie = omega arith;
  junctions_lie = omega arith;
  values_lie = omega arith;
  refs_lie = omega arith;
  links_apart = none _ _ 0;
  values_apart = none _ _ 0;
}

-- ---- reading

up_to_at : {A : Type 0} (f : ℕ → A) (n i : ℕ) (d : A) → i < n → get_or (up_to f n) i d ≡ f i
unfolding up_to
up_to_at f zero i d lt = absurd (omega arith)
up_to_at f (suc n) i d lt = by_test (ltb i n)
    (λ t. let k = ltb-true i n t in get_or-append (up_to f n) (f n ∷ []) d i (omega (arith, length_up_to f n))
    ∙ up_to_at f n i d k)
    (λ t. let e : i ≡ n = omega (arith, ltb-false i n t) in rw e
    (get_or_at (up_to f n) (f n) [] d n (length_up_to f n)))

pub front_at : {A : Type 0} (f : ℕ → A) (n i : ℕ) (d : A) (rest : List A) → i < n → get_or (up_to f n ++ rest) i d
    ≡ f i
front_at f n i d rest lt = get_or-append (up_to f n) rest d i (omega (arith, length_up_to f n)) ∙ up_to_at f n i d lt

start_in : (n : List ℕ) (i : ℕ) → link_start (node_in n i) ≡ sum_to (links_at n) i
unfolding node_in path_node
start_in n i = refl

count_in : (n : List ℕ) (i : ℕ) → link_count (node_in n i) ≡ links_at n i
unfolding node_in path_node
count_in n i = refl

value_start_in : (j : List ℕ) (i : ℕ) → value_start (junction_in j i) ≡ sum_to (values_at j) i
unfolding junction_in path_junction
value_start_in j i = refl

value_count_in : (j : List ℕ) (i : ℕ) → value_count (junction_in j i) ≡ values_at j i
unfolding junction_in path_junction
value_count_in j i = refl

filled_tidy : (root : Root) (n l j h r : List ℕ) (m : Memory) → Holds n j r (counts_of n j r) → Tidy
    (filled root (counts_of n j r) n l j h r m)
unfolding filled cell_read
filled_tidy root n l j h r m held =
    let k = counts_of n j r in
    let nodes = up_to (node_in n) k.nodes ++ drop k.nodes m.nodes in
    let junctions = up_to (junction_in j) k.junctions ++ drop k.junctions m.junctions in
    record {
      few_nodes = held.few_nodes;
      few_junctions = held.few_junctions;
      nodes_lie = omega (
        arith,
        length-append (up_to (node_in n) k.nodes) (drop k.nodes m.nodes),
        length_up_to
            (node_in n) k.nodes,
      );
      links_lie = omega (
        arith,
        length-append (join_to (links_in n l) k.nodes) (drop k.links m.links),
        length_join_to
            (links_in n l) (links_at n) (length_links n l) k.nodes,
      );
      junctions_lie = omega (
        arith,
        length-append (up_to (junction_in j) k.junctions)
            (drop k.junctions m.junctions),
        length_up_to (junction_in j) k.junctions,
      );
      values_lie = omega (
        arith,
        length-append (join_to (values_in j h) k.junctions)
            (drop k.heights m.heights),
        length_join_to (values_in j h) (values_at j) (length_values j h) k.junctions,
      );
      refs_lie = omega (
        arith,
        length-append (up_to (ref_in r) k.refs) (drop k.refs m.refs),
        length_up_to
            (ref_in r) k.refs,
      );
      links_apart = same (sum_to (links_at n)) (links_at n) (λ q. link_start (get_or nodes q no_entry))
          (λ q. link_count (get_or nodes q no_entry)) k.nodes k.links
          (λ q lt. ap link_start (front_at (node_in n) k.nodes q no_entry (drop k.nodes m.nodes) lt) ∙ start_in n q)
          (λ q lt. ap link_count (front_at (node_in n) k.nodes q no_entry (drop k.nodes m.nodes) lt) ∙ count_in n q)
          (summed (links_at n) k.nodes (links_fit_word n j r k held));
      values_apart = same (sum_to (values_at j)) (values_at j) (λ q. value_start (get_or junctions q no_map))
          (λ q. value_count (get_or junctions q no_map)) k.junctions k.heights
          (λ q lt. ap value_start (front_at (junction_in j) k.junctions q no_map (drop k.junctions m.junctions) lt)
          ∙ value_start_in j q)
          (λ q lt. ap value_count (front_at (junction_in j) k.junctions q no_map (drop k.junctions m.junctions) lt)
          ∙ value_count_in j q)
          (summed (values_at j) k.junctions (heights_fit_word n j r k held));
    }

pub read_tidy : (s g : List ℕ) (m : Memory) → (read_of s g m).answer ≡ (Ok tt) → Tidy (read_of s g m).memory
read_tidy s g m e = read_all Tidy s g m (λ n l j h r held. filled_tidy _ n l j h r m held) e

-- ---- renumbering

module _ (n : ℕ) (nodes : List NodeEntry) (fits : n ≤ length nodes) where
  abbrev ns : List NodeEntry
  ns = take n nodes

  long : length ns ≡ n
  long = length-take-le n nodes fits

  from : (q : ℕ) → q < n → Origin is_ped ns q
  from q lt = origin is_ped no_entry none_ped ns q (omega (arith, long))

  -- the entry at a place afterwards
  new_entry : (q : ℕ) (lt : q < n) → get_or (number_from 0 (parted is_ped ns) ++ drop n nodes) q no_entry ≡ numbered q
      (get_or nodes (from q lt).place no_entry)
  new_entry q lt =
      let o = from q lt in
      let in_list : q < length (parted is_ped ns) = omega (arith, parted_length ns, long) in
      get_or-append (number_from 0 (parted is_ped ns)) (drop n nodes) no_entry q
      (omega (arith, number_length 0 (parted is_ped ns)))
      ∙ number_at 0 (parted is_ped ns) q no_entry in_list
      ∙ (λ i. numbered (zero-add q i) (get_or (parted is_ped ns) (sym o.back i) no_entry))
      ∙ ap (numbered q) ((new_at ns o.place o.inside).1 ∙ get_or-take n nodes o.place no_entry
      (omega (arith, o.inside, long)))

  reordered_apart : (l : ℕ) → LinksApart n l nodes → LinksApart n l (number_from 0 (parted is_ped ns) ++ drop n nodes)
  reordered_apart l h =
      let after = number_from 0 (parted is_ped ns) ++ drop n nodes in
      moved (λ q. link_start (get_or nodes q no_entry)) (λ q. link_count (get_or nodes q no_entry))
      (λ q. link_start (get_or after q no_entry)) (λ q. link_count (get_or after q no_entry)) n n l
      (λ q lt. (from q lt).place)
      (λ q lt. omega (arith, (from q lt).inside, long))
      (λ p q hp hq e. sym (from p hp).back ∙ ap (new_place (map is_ped ns)) e ∙ (from q hq).back)
      (λ q lt. ap link_start (new_entry q lt))
      (λ q lt. ap link_count (new_entry q lt))
      h

-- the first n entries of a list changed
mapped_long : {A : Type 0} (f : A → A) (n : ℕ) (l : List A) → n ≤ length l
    → length (map f (take n l) ++ drop n l) ≡ length l
mapped_long f n l h = length-append (map f (take n l)) (drop n l)
    ∙ omega (arith, length-map (take n l) f, length-take-le n l h, length-drop n l)

renumbered_tidy : (m : Memory) (ps : List ℕ) → Tidy m → Tidy (renumber_memory m ps)
unfolding renumber_memory new_lists renumber_lists recounted reordered
renumbered_tidy m ps h =
    let n = m.ynd.node_count in
    let l = m.ynd.link_count in
    let r = m.ynd.ref_count in
    let o = old_of n m.nodes in
    let ws = take n m.nodes in
    record {
      few_nodes = h.few_nodes;
      few_junctions = h.few_junctions;
      nodes_lie = omega (arith, reordered_long n m.nodes h.nodes_lie, h.nodes_lie);
      links_lie = omega (arith, mapped_long (relinked o) l m.links h.links_lie, h.links_lie);
      junctions_lie = h.junctions_lie;
      values_lie = h.values_lie;
      refs_lie = omega (arith, mapped_long (rereffed o) r m.refs h.refs_lie, h.refs_lie);
      links_apart = reordered_apart n m.nodes h.nodes_lie l h.links_apart;
      values_apart = h.values_apart;
    }

pub renumber_tidy : (m : Memory) (s : ℕ) (ps : List ℕ) → Tidy m → Tidy (renumber m s ps).memory
unfolding renumber
renumber_tidy m s ps h = go (answer_of (over_limit m.ynd) m.ynd.node_count (short m) s (length ps))
  where
    go : (a : Answer) → Tidy (left_by a m ps).memory
    go (Ok tt) = renumbered_tidy m ps h
    go (Err cause) = h

-- ---- reading into the memory of a tidy cell; write-then-read

pub write_read_tidy : (m : Memory) (s : List ℕ) → Tidy m → Tidy (write_read_of m s).memory
unfolding write_read_of
write_read_tidy m s h = go (write_call m s).answer
  where
    t : List ℕ
    t = (write_call m s).section

    reading : (n : ℕ) (c : Answer) → (read_of (take n t) [] m).answer ≡ c → Tidy
        (if_read n t c (read_of (take n t) [] m).memory m s).memory
    reading n (Err cause) e = h
    reading n (Ok tt) e = read_tidy (take n t) [] m e

    go : (a : Result ℕ Refusal) → Tidy (if_written a t m s).memory
    go (Err cause) = h
    go (Ok n) = reading n (read_of (take n t) [] m).answer refl
