-- T-09: a call on one member of a set in six lent lists: what it is refused for before the cell's own causes, and the
-- six lists with another memory in the member's place.
use Rattle.std.specs.Prelude.{ℕ, List, [], ◌∷◌, leb, length, get_or, set}
use Rattle.numbers.specs.Refusals.{Cause, when}
use Rattle.records.specs.Put.{put}
use Rattle.cells.specs.Memory.{Memory}
use Rattle.cells.specs.declared.ynd.Ynd.{Ynd}
use Rattle.sets.specs.MemberList.{member_at}
use Rattle.sets.specs.CellSet.{CellSet, word, members_of, set_causes}
use Rattle.sets.specs.Leave.{start_of}
use Rattle.sets.specs.Join.{entry_of}
use Rattle.cells.specs.Memory.{per_list}
use Rattle.numbers.specs.declared.refusal.Refusal.TheVariants.{NoSuchPlace}

abbrev pub member_in : CellSet → ℕ → Memory
member_in y j = member_at (members_of y) j

-- 13 no such member; 14 and 7 a set made by hand
unfoldable pub ask_causes : CellSet → ℕ → List Cause
ask_causes y j = when (leb (length y.members) j) NoSuchPlace ∷ set_causes y

-- a member's entry with another `Ynd`; the sizes of its parts stay
abbrev pub entry_with : Ynd → List ℕ → List ℕ
entry_with v w = entry_of v (per_list (word 15 w) (word 16 w) (word 17 w) (word 18 w) (word 19 w))

-- The six lists with the memory m for the member j: its `Ynd` in the entry, its lists in the parts. Every call on a
-- cell keeps the lengths of the lists that it was lent, so that m's lists are as long as the parts; all else stays.
unfoldable pub with_member : CellSet → ℕ → Memory → CellSet
with_member y j m = record {
  members = set y.members j (entry_with m.ynd (get_or y.members j []));
  nodes = put y.nodes (start_of 15 y.members j) m.nodes;
  links = put y.links (start_of 16 y.members j) m.links;
  junctions = put y.junctions (start_of 17 y.members j) m.junctions;
  heights = put y.heights (start_of 18 y.members j) m.heights;
  refs = put y.refs (start_of 19 y.members j) m.refs;
}
