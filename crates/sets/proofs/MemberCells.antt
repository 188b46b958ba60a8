-- The nodes of a member's cell, by the lists from where its parts start.
use Rattle.std.proofs.lemmas.List.{take-take}
use Prim.Native.Nat.{ℕ, ◌≤◌, ◌<◌}
use mathlib.Core.Path.{◌≡◌, ap, ◌∙◌}
use mathlib.Core.List.{List, [], map}
use lib.ListN.{length, get_or, take, drop}
use Rattle.cells.specs.Cell.{Cell, numbers}
use Rattle.cells.specs.Memory.{Memory, memory}
use Rattle.cells.specs.CellOf.{node_with, nodes_of, refs_of, cell_of}
use Rattle.cells.specs.Nodes.{number_of}
use Rattle.cells.specs.LookupCall.{numbers_in}
use Rattle.cells.proofs.Lookups.LookupLaws.{numbers_held}
use Rattle.sets.specs.Members.{cell_at}
use Rattle.sets.specs.MemberList.{cells_of}
use Rattle.sets.specs.CellSet.{CellSet, ynd_of, parts_in, member_with, members_of}
use Rattle.sets.specs.Leave.{start_of}
use Rattle.sets.specs.SetParts.{count_of}
use Rattle.sets.proofs.SetMemory.{cell_at_law}
use Rattle.sets.proofs.PartLaws.{part_of}
use Rattle.sets.proofs.CellSetLaws.{member_at_law}
use Rattle.cells.specs.declared.node_entry.NodeEntry.{NodeEntry}

module _ (y : CellSet) (i : ℕ) (lt : i < length y.members) where
  abbrev ws : List (List ℕ)
  ws = y.members

  -- the member, with lists that go on behind its parts
  abbrev pub from_start : Memory
  from_start = memory (ynd_of (get_or ws i [])) (drop (start_of 15 ws i) y.nodes) (drop (start_of 16 ws i) y.links)
      [] []
      []

  abbrev member : Memory
  member = member_with (parts_in y) i (get_or ws i [])

  cell_is : cell_at (cells_of (members_of y)) i ≡ cell_of member
  cell_is = cell_at_law (members_of y) i ∙ ap cell_of (member_at_law y i lt)

  nodes_front : count_of 10 ws i ≤ count_of 15 ws i → take (count_of 10 ws i) member.nodes
      ≡ take (count_of 10 ws i) (drop (start_of 15 ws i) y.nodes)
  unfolding parts_in
  nodes_front h = ap (take (count_of 10 ws i)) (part_of 15 ws y.nodes i lt)
      ∙ take-take (count_of 10 ws i) (count_of 15 ws i) (drop (start_of 15 ws i) y.nodes) h

  links_front : count_of 11 ws i ≤ count_of 16 ws i → take (count_of 11 ws i) member.links
      ≡ take (count_of 11 ws i) (drop (start_of 16 ws i) y.links)
  unfolding parts_in
  links_front h = ap (take (count_of 11 ws i)) (part_of 16 ws y.links i lt)
      ∙ take-take (count_of 11 ws i) (count_of 16 ws i) (drop (start_of 16 ws i) y.links) h

  refs_front : count_of 14 ws i ≤ count_of 19 ws i → take (count_of 14 ws i) member.refs
      ≡ take (count_of 14 ws i) (drop (start_of 19 ws i) y.refs)
  unfolding parts_in
  refs_front h = ap (take (count_of 14 ws i)) (part_of 19 ws y.refs i lt)
      ∙ take-take (count_of 14 ws i) (count_of 19 ws i) (drop (start_of 19 ws i) y.refs) h

  pub refs_at : count_of 14 ws i ≤ count_of 19 ws i → (cell_at (cells_of (members_of y)) i).refs
      ≡ take (count_of 14 ws i) (drop (start_of 19 ws i) y.refs)
  unfolding cell_of refs_of ynd_of
  refs_at h = ap (λ (c : Cell). c.refs) cell_is ∙ refs_front h

  pub numbers_at : count_of 10 ws i ≤ count_of 15 ws i → numbers (cell_at (cells_of (members_of y)) i).nodes
      ≡ numbers_in (count_of 10 ws i) (drop (start_of 15 ws i) y.nodes)
  unfolding cell_of ynd_of numbers_in
  numbers_at h =
      ap (λ (c : Cell). numbers c.nodes) cell_is
      ∙ numbers_held member
      ∙ ap (λ (l : List NodeEntry). map number_of l) (nodes_front h)

  pub nodes_at : count_of 10 ws i ≤ count_of 15 ws i → count_of 11 ws i ≤ count_of 16 ws i
      → (cell_at (cells_of (members_of y)) i).nodes ≡ nodes_of from_start
  unfolding cell_of nodes_of ynd_of
  nodes_at h k =
      ap (λ (c : Cell). c.nodes) cell_is
      ∙ (λ j. map (node_with (links_front k j)) (nodes_front h j))
