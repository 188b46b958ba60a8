-- T-09: a cell handed back before it leaves the set: its nodes, links, junctions, heightmap values and refs copied
-- into lists that the caller lends.
use Rattle.std.specs.Prelude.{ℕ, length, take}
use Rattle.std.proofs.Math.Option.{Option, none, some}
use Rattle.numbers.specs.Refusals.{Answer, decided, unless}
use Rattle.cells.specs.Memory.{Memory, memory, Left, short_of}
use Rattle.cells.specs.Memory.{unless as kept_unless}
use Rattle.cells.specs.Add.{done}
use Rattle.sets.specs.MemberList.{no_memory}
use Rattle.sets.specs.CellSet.{CellSet}
use Rattle.sets.specs.Leave.{first_of_area, leave_causes}
use Rattle.sets.specs.Join.{stored}
use Rattle.sets.specs.SetStored.{member_in}

-- the memory m with what the counts of `from` say of its lists; entries behind stay
unfoldable pub copied : Memory → Memory → Memory
copied from m =
    memory from.ynd (stored 0 (take from.ynd.node_count from.nodes) m.nodes)
    (stored 0 (take from.ynd.link_count from.links) m.links)
    (stored 0 (take from.ynd.junction_count from.junctions) m.junctions)
    (stored 0 (take from.ynd.heightmap_count from.heights) m.heights)
    (stored 0 (take from.ynd.ref_count from.refs) m.refs)

-- the member that leaves by its area
abbrev pub leaver_of : Option ℕ → CellSet → Memory
leaver_of (some j) y = member_in y j
leaver_of none y = no_memory

unfoldable pub leaver : CellSet → ℕ → Memory
leaver y area = leaver_of (first_of_area y area) y

-- 7 the first of m's lists that is shorter than the count of `from`
abbrev pub lack_of_back : Memory → Memory → Answer
lack_of_back from m = short_of from.ynd (length m.nodes) (length m.links) (length m.junctions) (length m.heights)
    (length m.refs)

-- as leaving; then 7 the first of the lists lent that is too short for the cell
unfoldable pub hand_causes : CellSet → ℕ → Memory → Answer
hand_causes y area m = unless (decided (leave_causes y area)) (lack_of_back (leaver y area) m)

-- A refusal leaves the memory lent as it was. The set stays as it is.
unfoldable pub hand_back : CellSet → ℕ → Memory → Left
hand_back y area m = kept_unless (hand_causes y area m) m (done (copied (leaver y area) m))
