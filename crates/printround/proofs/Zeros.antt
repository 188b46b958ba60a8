-- The memory lent is the definition's, and a vector whose slice was lent holds what was left in the slice.
use Prim.Native.Nat.{ℕ}
use mathlib.Core.Path.{◌≡◌}
use mathlib.Core.List.{List}
use lib.ListN.{replicate}
use Rattle.cells.specs.Memory.{memory}
use Rattle.cells.specs.NewYnd.{new_ynd}
use Rattle.cells.specs.Nodes.{no_entry, no_link, no_map, no_ref}
use Rattle.cells.specs.declared.node_entry.NodeEntry.{NodeEntry}
use Rattle.cells.specs.declared.link.PathLink.{PathLink}
use Rattle.cells.specs.declared.junction_entry.JunctionEntry.{JunctionEntry}
use Rattle.records.specs.declared.junction_ref.NodeJunctionRef.{NodeJunctionRef}
use Rattle.printround.specs.Printed.{lent, choices_lent, visited_lent}

pub visited_lent_law : (xs : List ℕ) → xs ≡ replicate 16384 0 → xs ≡ visited_lent
unfolding visited_lent
visited_lent_law xs h = h

pub choices_lent_law : (xs : List ℕ) → xs ≡ replicate 65536 0 → xs ≡ choices_lent
unfolding choices_lent
choices_lent_law xs h = h

pub memory_lent : (ns : List NodeEntry) (ls : List PathLink) (js : List JunctionEntry) (rs : List NodeJunctionRef)
    (hs : List ℕ) → ns ≡ replicate 1024 no_entry → ls ≡ replicate 8192 no_link → js ≡ replicate 256 no_map
    → hs ≡ replicate 65536 0 → rs ≡ replicate 1024 no_ref → memory new_ynd ns ls js hs rs ≡ lent
unfolding lent
memory_lent ns ls js rs hs n l j h r = λ i. memory new_ynd (n i) (l i) (j i) (h i) (r i)
