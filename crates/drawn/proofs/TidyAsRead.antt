-- A made cell is as reading leaves cells, so that write-then-read of it is refused exactly as writing is.
-- Assumes nothing.
use Rattle.cells.proofs.Sequences.Tests.{every_all}
use Rattle.std.specs.List.{All}
use Rattle.std.proofs.lemmas.List.Elements.{All-weaker}
use Rattle.cells.specs.Lists.{every}
use Rattle.cells.specs.Nodes.{no_entry, no_map}
use Rattle.cells.specs.CellOf.{junctions_of}
use Rattle.cells.specs.Write.{held}
use Rattle.cells.specs.WriteCounts.{Sized}
use Rattle.cells.proofs.WritingBack.AsRead.{SizedMap}
use Rattle.drawn.specs.Made.{FittedJunction, Made}
use Rattle.drawn.proofs.BlocksSettled.{fitted_sized}
use Prim.Native.Nat.{ℕ, ◌+◌, ◌*◌, ◌≤◌, ◌<◌}
use native.Mathlib.Omega.{arith}
use mathlib.Core.Path.{◌≡◌, refl, ap, sym, ◌∙◌}
use mathlib.Core.Bool.{true}
use mathlib.Core.List.{List}
use lib.Dec.{ltb}
use lib.ListN.{length, get_or, take, drop, length-take, length-drop}
use lib.Seq.{length-take-le}
use borrow.Author.Tests.{eq-eqb, le-ltb, ltb-true, ltb-false}
use Rattle.cells.specs.Lists.{sum_to}
use Rattle.cells.proofs.Editing.Conditions.{link_start, link_count, value_start}
use Rattle.cells.specs.Nodes.{value_count}
use Rattle.cells.specs.Cell.{Node, Junction, no_node, node_at}
use Rattle.cells.specs.CellOf.{node_with, junction_with, nodes_of, cell_of}
use Rattle.std.specs.Prelude.{Ok}
use Rattle.cells.specs.Memory.{Memory, short, short_of}
use Rattle.cells.specs.Write.{write_call}
use Rattle.cells.specs.WriteRead.{write_read_of}
use Rattle.cells.proofs.Sequences.Tests.{by_test}
use Rattle.cells.proofs.WritingBack.BackCheck.{sum_joined}
use Rattle.cells.proofs.Editing.CellStored.{held_at_law}
use Rattle.cells.proofs.WritingBack.AsRead.{whole_map, AsRead}
use Rattle.cells.proofs.WritingBack.BackAccepted.{as_writing}
use Rattle.drawn.specs.Tidy.{Tidy}
use Rattle.cells.specs.StoredCell.{no_junction}
use Rattle.cells.specs.StoredCell.{junction_at}
use Rattle.drawn.proofs.Packed.{sum_most, packed}
use Rattle.drawn.proofs.EditsMean.{nodes_many, junctions_many, junction_is}

-- a part is no longer than it says, and as long where it lies inside
part_most : {A : Type 0} (s c : ℕ) (l : List A) → length (take c (drop s l)) ≤ c
part_most s c l = omega (arith, length-take c (drop s l))

part_long : {A : Type 0} (s c : ℕ) (l : List A) → (0 < c → s + c ≤ length l) → length (take c (drop s l)) ≡ c
part_long s c l h = by_test (ltb 0 c)
    (λ t. let k = h (ltb-true 0 c t) in length-take-le c (drop s l) (omega (arith, length-drop s l)))
    (λ f. omega (arith, ltb-false 0 c f, part_most s c l))

module _ (m : Memory) (h : Tidy m) where
  abbrev hs : List ℕ
  hs = take m.ynd.heightmap_count m.heights

  node_is : (p : ℕ) → p < m.ynd.node_count → node_at (cell_of m).nodes p ≡ node_with
      (take m.ynd.link_count m.links) (get_or m.nodes p no_entry)
  unfolding cell_of nodes_of
  node_is p lt = held_at_law (node_with
      (take m.ynd.link_count m.links)) m.ynd.node_count m.nodes p no_entry no_node lt h.nodes_lie

  links_few : (i : ℕ) → i < m.ynd.node_count → length (node_at (cell_of m).nodes i).links ≤ link_count
      (get_or m.nodes i no_entry)
  links_few i lt = rw (node_is i lt)
      (part_most (link_start (get_or m.nodes i no_entry)) (link_count (get_or m.nodes i no_entry))
      (take m.ynd.link_count m.links))

  -- a junction's values are as many as its words say
  pub values_all : (i : ℕ) → i < m.ynd.junction_count → length (junction_at (cell_of m).junctions i).values
      ≡ value_count (get_or m.junctions i no_map)
  values_all i lt = rw (← junction_is m h i lt)
      (part_long (value_start (get_or m.junctions i no_map)) (value_count (get_or m.junctions i no_map)) hs
      (λ some. omega (
        arith,
        h.values_apart.inside i lt some,
        length-take-le m.ynd.heightmap_count m.heights
            h.values_lie,
      )))

  pub map_whole : (i : ℕ) → i < m.ynd.junction_count → whole_map (junction_at (cell_of m).junctions i) ≡ true
  map_whole i lt =
      let j = junction_with hs (get_or m.junctions i no_map) in
      ap whole_map (sym (junction_is m h i lt)) ∙ eq-eqb (length j.values) (j.width * j.height)
      (ap (λ (x : Junction). length x.values) (junction_is m h i lt) ∙ values_all i lt)

  pub maps_whole : every whole_map (cell_of m).junctions ≡ true
  maps_whole = every_all whole_map no_junction (cell_of m).junctions
      (λ j lt. map_whole j (omega (arith, junctions_many m h)))

  -- no list is short
  pub never_short : short m ≡ Ok tt
  unfolding short_of
  never_short = rw (
    le-ltb (length m.nodes) m.ynd.node_count h.nodes_lie,
    le-ltb (length m.links) m.ynd.link_count h.links_lie,
    le-ltb (length m.junctions) m.ynd.junction_count h.junctions_lie,
    le-ltb (length m.heights) m.ynd.heightmap_count h.values_lie,
    le-ltb (length m.refs) m.ynd.ref_count h.refs_lie,
  ) refl

module _ (m : Memory) (d : Made m) where
  abbrev h : Tidy m
  h = d.tidy

  pub made_as_read : AsRead m
  made_as_read = record {
    few_nodes = omega (arith, nodes_many m h, h.few_nodes);
    few_junctions = omega (arith, junctions_many m h, h.few_junctions);
    sized = All-weaker FittedJunction SizedMap (λ j k. record { width = k.width; height = k.height })
        (cell_of m).junctions d.fits.junctions;
    maps_whole = maps_whole m h;
    links_fit = omega (
      arith,
      sum_joined (λ (n : Node). n.links) (cell_of m).nodes no_node,
      ap (sum_to (λ i. length (node_at (cell_of m).nodes i).links)) (nodes_many m h),
      sum_most (λ i. length (node_at (cell_of m).nodes i).links)
          (λ i. link_count (get_or m.nodes i no_entry)) m.ynd.node_count (links_few m h),
      packed (λ q. link_start (get_or m.nodes q no_entry))
          (λ q. link_count (get_or m.nodes q no_entry)) m.ynd.node_count m.ynd.link_count h.links_apart,
      h.links_lie,
    );
    values_fit = omega (
      arith,
      sum_joined (λ (j : Junction). j.values) (cell_of m).junctions no_junction,
      ap (sum_to (λ i. length (junction_at (cell_of m).junctions i).values)) (junctions_many m h),
      sum_most (λ i. length (junction_at (cell_of m).junctions i).values)
          (λ i. value_count (get_or m.junctions i no_map)) m.ynd.junction_count (λ i lt. omega
          (arith, values_all m h i lt)),
      packed (λ q. value_start (get_or m.junctions q no_map))
          (λ q. value_count (get_or m.junctions q no_map)) m.ynd.junction_count m.ynd.heightmap_count h.values_apart,
      h.values_lie,
    );
  }

  -- write-then-read answers what writing answers, and leaves the section that writing leaves
  pub made_alike : (s : List ℕ) → ((write_read_of m s).answer ≡ (write_call m s).answer)
      × ((write_read_of m s).section ≡ (write_call m s).section)
  made_alike s = as_writing m made_as_read s

  -- its junctions are sized
  pub made_sized : All Sized (held m).junctions
  unfolding held cell_of junctions_of
  made_sized = fitted_sized (take m.ynd.heightmap_count m.heights) (take m.ynd.junction_count m.junctions)
      d.fits.junctions
