-- T-09: "a cell joins .. the set by a call". "A tenth member, or nodes beyond the total, is 14"; "It refuses with 18,
-- checked before 14, when the area is already in the set."
use Rattle.std.specs.Prelude.{ℕ, ◌+◌, ◌-◌, Bool, not, ◌&&◌, List, [], ◌∷◌, ◌++◌, ltb, leb, length, get_or, set}
use Rattle.std.specs.Prelude.{take, drop}
use Rattle.numbers.specs.Refusals.{Cause, when, decided}
use Rattle.cells.specs.Memory.{Memory, memory}
use Rattle.cells.specs.CellOf.{cell_of}
use Rattle.cells.specs.Lookup.{is_some}
use Rattle.cells.specs.RenumberParts.{lengths_of}
use Rattle.cells.specs.declared.ynd.Ynd.{Ynd}
use Rattle.sets.specs.Members.{area_of}
use Rattle.sets.specs.MemberList.{over_set, unless}
use Rattle.sets.specs.CellSet.{CellSet, words_at, total, members_of, holds_list}
use Rattle.sets.specs.Leave.{SetLeft, set_left, used, first_of_area}
use Rattle.cells.specs.declared.counts.Counts.{Counts}
use Rattle.std.specs.Prelude.{Ok, Err}
use Rattle.numbers.specs.declared.refusal.Refusal.TheVariants.{TooShort, AtLimit, AreaTaken}
use Rattle.numbers.specs.declared.refusal.Lent.TheVariants as lent

-- the entry of a cell whose parts have these sizes
abbrev pub entry_of : Ynd → Counts → List ℕ
entry_of y sizes =
    y.vft ∷ y.vehicle_node_count ∷ y.ped_node_count ∷ get_or y.unknowns 0 0 ∷ get_or y.unknowns 1 0
    ∷ get_or y.unknowns 2 0 ∷ get_or y.unknowns 3 0 ∷ get_or y.unknowns 4 0 ∷ get_or y.unknowns 5 0
    ∷ get_or y.unknowns 6 0 ∷ y.node_count ∷ y.link_count ∷ y.junction_count ∷ y.heightmap_count
    ∷ y.ref_count ∷ sizes.nodes ∷ sizes.links ∷ sizes.junctions ∷ sizes.heights ∷ sizes.refs ∷ []

-- entries stored from `at` on; later ones stay
unfoldable pub stored : {A : Type 0} → ℕ → List A → List A → List A
stored at new l = take at l ++ (new ++ drop (at + length new) l)

-- A list of `len` entries holds the members' parts and has room behind them for one of `room` entries, which has place
-- for the first `count` entries of a list of `have`.
unfoldable pub part_fits : ℕ → ℕ → List (List ℕ) → ℕ → ℕ → ℕ → ℕ → Bool
part_fits k size ws len have count room =
    holds_list k size ws len
    && (leb count have && (leb count room && (ltb room 4294967296 && leb (total (words_at size ws) + room) len)))

-- 7 each of the five lists that doesn't; the lists have these lengths, and the cell's those
unfoldable pub lack_for : List (List ℕ) → Counts → Counts → Ynd → Counts → List Cause
lack_for ws lens haves y sizes =
    when (not (part_fits 10 15 ws lens.nodes haves.nodes y.node_count sizes.nodes)) (TooShort lent.Nodes)
    ∷ when (not (part_fits 11 16 ws lens.links haves.links y.link_count sizes.links)) (TooShort lent.Links)
    ∷ when (not (part_fits 12 17 ws lens.junctions haves.junctions y.junction_count sizes.junctions))
    (TooShort lent.Junctions)
    ∷ when (not (part_fits 13 18 ws lens.heights haves.heights y.heightmap_count sizes.heights))
    (TooShort lent.Heightmap)
    ∷ when (not (part_fits 14 19 ws lens.refs haves.refs y.ref_count sizes.refs)) (TooShort lent.Refs)
    ∷ []

abbrev pub set_lengths : CellSet → Counts
set_lengths y = lengths_of y.nodes y.links y.junctions y.heights y.refs

abbrev pub cell_lengths : Memory → Counts
cell_lengths m = lengths_of m.nodes m.links m.junctions m.heights m.refs

-- 18 the area is in the set; 14 the set with the cell is over a limit; 7 the first of the five lists that is too
-- short for it; 7 at 10 a list of `room` entries for the members that is full
unfoldable pub join_causes : CellSet → ℕ → Memory → Counts → List Cause
join_causes y room m sizes =
    when (is_some (first_of_area y (area_of (cell_of m)))) AreaTaken
    ∷ when (over_set (members_of y ++ (m ∷ []))) AtLimit
    ∷ (lack_for y.members (set_lengths y) (cell_lengths m) m.ynd sizes
    ++ (when (leb room (length y.members)) (TooShort lent.Members) ∷ []))

-- the six lists y, whose set is z, after the cell joined: what its counts say is copied behind the others' parts
unfoldable pub with_cell : CellSet → CellSet → Memory → Counts → CellSet
with_cell y z m sizes = record {
  members = set y.members (length z.members) (entry_of m.ynd sizes);
  nodes = stored (total (words_at 15 z.members)) (take m.ynd.node_count m.nodes) y.nodes;
  links = stored (total (words_at 16 z.members)) (take m.ynd.link_count m.links) y.links;
  junctions = stored (total (words_at 17 z.members)) (take m.ynd.junction_count m.junctions) y.junctions;
  heights = stored (total (words_at 18 z.members)) (take m.ynd.heightmap_count m.heights) y.heights;
  refs = stored (total (words_at 19 z.members)) (take m.ynd.ref_count m.refs) y.refs;
}

-- The set's entries are the first `count` of the members' list. A refusal leaves all six lists as they were.
unfoldable pub join_cell : ℕ → CellSet → Memory → Counts → SetLeft
join_cell count y m sizes =
    unless (decided (join_causes (used count y) (length y.members) m sizes))
    (λ cause. set_left (Err cause) (length (used count y).members) y)
    (set_left (Ok tt) (length (used count y).members + 1) (with_cell y (used count y) m sizes))

-- ---- for the laws

-- a part of `size` entries from `at` on, whose first n are those of the cell's list: the others are what stood there
unfoldable pub part_of_cell : {A : Type 0} → ℕ → ℕ → ℕ → List A → List A → List A
part_of_cell at size n new l = take n new ++ take (size - n) (drop (at + n) l)

-- the member that a cell is after it joined the members ws of the lists y
abbrev pub joined_member : List (List ℕ) → CellSet → Memory → Counts → Memory
joined_member ws y m sizes =
    memory m.ynd
    (part_of_cell (total (words_at 15 ws)) sizes.nodes m.ynd.node_count m.nodes y.nodes)
    (part_of_cell (total (words_at 16 ws)) sizes.links m.ynd.link_count m.links y.links)
    (part_of_cell (total (words_at 17 ws)) sizes.junctions m.ynd.junction_count m.junctions y.junctions)
    (part_of_cell (total (words_at 18 ws)) sizes.heights m.ynd.heightmap_count m.heights y.heights)
    (part_of_cell (total (words_at 19 ws)) sizes.refs m.ynd.ref_count m.refs y.refs)
