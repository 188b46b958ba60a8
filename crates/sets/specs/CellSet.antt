-- T-09: a set in six lent lists. One holds an entry for each member, in the order of joining: its `Ynd` as 15 words,
-- and the sizes of its five parts (words 15 to 19). The other five hold all members' nodes, links, junctions,
-- heightmap values and refs, one member's part after the other's. A part may have more entries than the member's
-- count.
use Rattle.std.specs.Prelude.{ℕ, ◌+◌, Bool, not, ◌&&◌, List, [], ◌∷◌, map, leb, length, get_or, take, drop}
use Rattle.numbers.specs.Refusals.{Cause, when}
use Rattle.cells.specs.Lists.{every}
use Rattle.cells.specs.Memory.{Memory, memory}
use Rattle.cells.specs.declared.ynd.Ynd.{Ynd}
use Rattle.sets.specs.Members.{map_from}
use Rattle.cells.specs.Cell.{Cell}
use Rattle.sets.specs.MemberList.{cells_of, over_set}
use Rattle.numbers.specs.declared.refusal.Refusal.TheVariants.{TooShort, AtLimit}
use Rattle.numbers.specs.declared.refusal.Lent.TheVariants as lent
use Rattle.cells.specs.declared.node_entry.NodeEntry.{NodeEntry}
use Rattle.cells.specs.declared.link.PathLink.{PathLink}
use Rattle.cells.specs.declared.junction_entry.JunctionEntry.{JunctionEntry}
use Rattle.records.specs.declared.junction_ref.NodeJunctionRef.{NodeJunctionRef}

pub record CellSet : Type 0 where
  pub members : List (List ℕ)
  pub nodes : List NodeEntry
  pub links : List PathLink
  pub junctions : List JunctionEntry
  pub heights : List ℕ
  pub refs : List NodeJunctionRef

abbrev pub cell_set : List (List ℕ) → List NodeEntry → List PathLink → List JunctionEntry → List ℕ
    → List NodeJunctionRef
    → CellSet
cell_set members nodes links junctions heights refs =
    record { members = members; nodes = nodes; links = links; junctions = junctions; heights = heights; refs = refs }

-- ---- an entry

abbrev pub word : ℕ → List ℕ → ℕ
word k w = get_or w k 0

-- a member's own words: the fields of its `Ynd`, in their order
unfoldable pub ynd_of : List ℕ → Ynd
ynd_of w = record {
  vft = get_or w 0 0;
  vehicle_node_count = get_or w 1 0;
  ped_node_count = get_or w 2 0;
  unknowns =
      get_or w 3 0 ∷ get_or w 4 0 ∷ get_or w 5 0 ∷ get_or w 6 0 ∷ get_or w 7 0 ∷ get_or w 8 0 ∷ get_or w 9 0 ∷ [];
  node_count = get_or w 10 0;
  link_count = get_or w 11 0;
  junction_count = get_or w 12 0;
  heightmap_count = get_or w 13 0;
  ref_count = get_or w 14 0;
}

-- one word of each entry
unfoldable pub words_at : ℕ → List (List ℕ) → List ℕ
words_at k ws = map (word k) ws

-- ---- the parts of a list

unfoldable pub total : List ℕ → ℕ
total [] = 0
total (c ∷ cs) = c + total cs

-- parts of so many entries, one after the other; a list that is too short cuts them
unfoldable pub parts_of : {A : Type 0} → List ℕ → List A → List (List A)
parts_of [] l = []
parts_of (c ∷ cs) l = take c l ∷ parts_of cs (drop c l)

-- the five lists, each in its parts
pub record Parts : Type 0 where
  pub nodes : List (List NodeEntry)
  pub links : List (List PathLink)
  pub junctions : List (List JunctionEntry)
  pub heights : List (List ℕ)
  pub refs : List (List NodeJunctionRef)

unfoldable pub parts_in : CellSet → Parts
parts_in y = record {
  nodes = parts_of (words_at 15 y.members) y.nodes;
  links = parts_of (words_at 16 y.members) y.links;
  junctions = parts_of (words_at 17 y.members) y.junctions;
  heights = parts_of (words_at 18 y.members) y.heights;
  refs = parts_of (words_at 19 y.members) y.refs;
}

-- the member i, whose entry is w
abbrev pub member_with : Parts → ℕ → List ℕ → Memory
member_with p i w =
    memory (ynd_of w) (get_or p.nodes i []) (get_or p.links i []) (get_or p.junctions i []) (get_or p.heights i [])
    (get_or p.refs i [])

-- what the set's calls are said of: each member as a cell's memory of its own
unfoldable pub members_of : CellSet → List Memory
members_of y = map_from (member_with (parts_in y)) 0 y.members

-- and as a cell, in the order of joining
abbrev pub cells_in : CellSet → List Cell
cells_in y = cells_of (members_of y)

-- ---- a set made by hand

-- each part has as many entries as the member's count, word k, says, and all of them lie in a list of `len` entries
abbrev pub room_for : ℕ → ℕ → List ℕ → Bool
room_for k size w = leb (word k w) (word size w)

unfoldable pub holds_list : ℕ → ℕ → List (List ℕ) → ℕ → Bool
holds_list k size ws len = every (room_for k size) ws && leb (total (words_at size ws)) len

-- 7 each of the five lists that doesn't hold the members
unfoldable pub lack_of : List (List ℕ) → ℕ → ℕ → ℕ → ℕ → ℕ → List Cause
lack_of ws nodes links junctions heights refs =
    when (not (holds_list 10 15 ws nodes)) (TooShort lent.Nodes)
    ∷ when (not (holds_list 11 16 ws links)) (TooShort lent.Links)
    ∷ when (not (holds_list 12 17 ws junctions)) (TooShort lent.Junctions)
    ∷ when (not (holds_list 13 18 ws heights)) (TooShort lent.Heightmap)
    ∷ when (not (holds_list 14 19 ws refs)) (TooShort lent.Refs)
    ∷ []

abbrev pub lack : CellSet → List Cause
lack y =
    lack_of y.members (length y.nodes) (length y.links) (length y.junctions) (length y.heights)
    (length y.refs)

-- 14 a set over a limit; 7 a list that doesn't hold its members
unfoldable pub set_causes : CellSet → List Cause
set_causes y = when (over_set (members_of y)) AtLimit ∷ lack y
