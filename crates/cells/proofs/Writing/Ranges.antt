-- A node's links and a junction's values: ranges that are cut where they leave the list.
use Prim.Native.Nat.{ℕ, ◌-◌, ◌*◌, ◌≤◌, ◌<◌, min}
use native.Mathlib.Omega.{arith}
use native.Mathlib.Nat.{mul-le-mul}
use mathlib.Core.Path.{◌≡◌, ap, ◌∙◌, fun_ext}
use mathlib.Core.List.{List}
use lib.ListN.{length, take, drop, length-take, length-drop}
use Rattle.std.proofs.lemmas.List.{take_min}
use Rattle.records.proofs.RecordBack.{link_length_law}
use Rattle.cells.specs.Nodes.{value_count}
use Rattle.cells.specs.Entries.{links_in, values_in, file_link}
use Rattle.cells.specs.WriteChecks.{links_within, values_within}
use Rattle.cells.specs.Blocks.{link_record, links_records}
use Rattle.records.proofs.Puts.{joined_length}
use Rattle.cells.specs.declared.node_entry.NodeEntry.{NodeEntry}
use Rattle.cells.specs.declared.link.PathLink.{PathLink}
use Rattle.cells.specs.declared.junction_entry.JunctionEntry.{JunctionEntry}

module _ {A : Type 0} where
  -- the first entries, as many as there are of a count
  pub front : (l : List A) (count n : ℕ) → n ≡ min (length l) count → take n l ≡ take count l
  front l count n e =
      let f : n ≡ min count (length l) = omega arith in
      ap (λ (k : ℕ). take k l) f ∙ take_min count l

-- ---- a node's links

pub link_count_law : (links : List PathLink) (n : NodeEntry) → length (links_in links n) ≡ links_within (length links) n
unfolding links_in links_within
link_count_law links n = length-take n.link_count (drop n.link_id links)
    ∙ ap (min n.link_count) (length-drop n.link_id links)

pub links_size : (links : List PathLink) (n : NodeEntry) → length (links_records links n)
    ≡ 8 * length (links_in links n)
links_size links n = joined_length link_record 8 (λ l. link_length_law (file_link l)) (links_in links n)

-- ---- a junction's values

pub value_count_law : (heights : List ℕ) (j : JunctionEntry) → length (values_in heights j)
    ≡ values_within (length heights) j
unfolding values_in values_within
value_count_law heights j = length-take (value_count j) (drop j.heightmap_ptr heights)
    ∙ ap (min (value_count j)) (length-drop j.heightmap_ptr heights)

least_small : (a b : ℕ) → a ≤ 65025 → min a b ≤ 65025
least_small a b h = omega arith

pub value_small : (pool : ℕ) (j : JunctionEntry) → j.width < 256 → j.height < 256 → values_within pool j ≤ 65025
unfolding values_within
value_small pool j w h =
    let x : j.width ≤ 255 = omega arith in
    let y : j.height ≤ 255 = omega arith in
    least_small (value_count j) (pool - j.heightmap_ptr) (mul-le-mul x y)

-- ---- the counts by the list, and by its length

pub node_counts : (links : List PathLink)
    → ◌≡◌ {A = NodeEntry → ℕ} (λ n. length (links_in links n)) (links_within (length links))
node_counts links = fun_ext (λ n. link_count_law links n)

pub junction_counts : (heights : List ℕ)
    → ◌≡◌ {A = JunctionEntry → ℕ} (λ j. length (values_in heights j)) (values_within (length heights))
junction_counts heights = fun_ext (λ j. value_count_law heights j)
