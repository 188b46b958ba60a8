-- What the parts of the set's calls go by. Of public functions, the contract of `member_of_area` alone cites some.
use Rattle.std.specs.Prelude.{ℕ, ◌≤◌, ◌<◌, List, [], ◌∷◌, ◌++◌, map, leb}
use Rattle.std.specs.Prelude.{length, get_or, take}
use Rattle.std.proofs.Math.Option.{Option as Found}
use Rattle.numbers.specs.Refusals.{Cause, when}
use Rattle.cells.specs.Memory.{Memory, memory}
use Rattle.cells.specs.Nodes.{first_area}
use Rattle.cells.specs.Lookup.{first_with, is_some}
use Rattle.cells.specs.LookupCall.{place_of}
use Rattle.cells.specs.declared.ynd.Ynd.{Ynd}
use Rattle.sets.specs.Members.{map_from}
use Rattle.sets.specs.MemberList.{over_set}
use Rattle.sets.specs.CellSet.{CellSet, word, ynd_of, words_at, total, parts_of, lack_of}
use Rattle.sets.specs.Leave.{start_of}
use Rattle.sets.specs.Join.{lack_for}
use Rattle.cells.specs.declared.counts.Counts.{Counts}
use Rattle.std.specs.Prelude.{Option}
use Rattle.numbers.specs.declared.refusal.Refusal.TheVariants.{TooShort, AtLimit, AreaTaken}
use Rattle.numbers.specs.declared.refusal.Lent.TheVariants as lent
use Rattle.numbers.specs.declared.refusal.Array.{Array}
use Rattle.numbers.specs.declared.refusal.Array.TheVariants as array
use Rattle.cells.specs.declared.node_entry.NodeEntry.{NodeEntry}

abbrev pub named_of : Found ℕ → Option ℕ
named_of o = place_of o

-- where the parts of the member j start: behind those of the members before it
abbrev pub starts_of : List (List ℕ) → ℕ → Counts
starts_of ws j = record {
  nodes = start_of 15 ws j;
  links = start_of 16 ws j;
  junctions = start_of 17 ws j;
  heights = start_of 18 ws j;
  refs = start_of 19 ws j;
}

-- the word of an entry that says how many the member has in a list
abbrev pub count_word : Array → ℕ
count_word array.Nodes = 10
count_word array.Links = 11
count_word array.Junctions = 12
count_word array.Heightmap = 13
count_word array.Refs = 14

-- the word that says how many its part holds
abbrev pub size_word : Array → ℕ
size_word array.Nodes = 15
size_word array.Links = 16
size_word array.Junctions = 17
size_word array.Heightmap = 18
size_word array.Refs = 19

-- the number for a list
abbrev pub number_in : Array → Counts → ℕ
number_in array.Nodes k = k.nodes
number_in array.Links k = k.links
number_in array.Junctions k = k.junctions
number_in array.Heightmap k = k.heights
number_in array.Refs k = k.refs

-- word k of the member j
abbrev pub count_of : ℕ → List (List ℕ) → ℕ → ℕ
count_of k ws j = word k (get_or ws j [])

-- a list of so many entries holds all members' parts, and each part its member's entries
pub record Holding (k size : ℕ) (ws : List (List ℕ)) (len : ℕ) : Type 0 where
  pub fit : total (words_at size ws) ≤ len
  pub held : (i : ℕ) → i < length ws → count_of k ws i ≤ count_of size ws i

-- the lists hold all members
pub record Holds (y : CellSet) : Type 0 where
  pub nodes_hold : Holding 10 15 y.members (length y.nodes)
  pub links_hold : Holding 11 16 y.members (length y.links)
  pub junctions_hold : Holding 12 17 y.members (length y.junctions)
  pub heights_hold : Holding 13 18 y.members (length y.heights)
  pub refs_hold : Holding 14 19 y.members (length y.refs)

-- the members, by their entries alone
unfoldable pub bare : List (List ℕ) → List Memory
bare ws = map (λ w. memory (ynd_of w) [] [] [] [] []) ws

-- the members' areas, by their nodes
unfoldable pub areas_of : List (List ℕ) → List NodeEntry → List ℕ
areas_of ws nodes =
    map_from (λ i w. first_area (take (word 10 w) (get_or (parts_of (words_at 15 ws) nodes) i []))) 0 ws

abbrev pub bare_cell : Ynd → Memory
bare_cell y = memory y [] [] [] [] []

-- what joining is refused for, by the entries and the lists' lengths
unfoldable pub entry_causes : List (List ℕ) → List NodeEntry → Counts → Counts → Ynd → Counts → ℕ → ℕ → List Cause
entry_causes ws nodes lens haves y sizes area room =
    when (is_some (first_with (areas_of ws nodes) area)) AreaTaken
    ∷ when (over_set (bare ws ++ (bare_cell y ∷ []))) AtLimit
    ∷ (lack_for ws lens haves y sizes ++ (when (leb room (length ws)) (TooShort lent.Members) ∷ []))

-- the causes of a set made by hand, by its entries and the lists' lengths
unfoldable pub list_causes : List (List ℕ) → ℕ → ℕ → ℕ → ℕ → ℕ → List Cause
list_causes ws nodes links junctions heights refs =
    when (over_set (bare ws)) AtLimit ∷ lack_of ws nodes links junctions heights refs
