-- A cell with the memory lent to it, and what a call leaves of both.
use Rattle.cells.specs.declared.counts.Counts.{Counts}
use Rattle.std.specs.Prelude.{ℕ, Bool, ◌||◌, List, [], ◌∷◌, ltb, length}
use Rattle.numbers.specs.Refusals.{Cause, answered, decided, when}
use Rattle.cells.specs.declared.ynd.Ynd.{Ynd}
use Rattle.std.specs.Prelude.{Result, Ok, Err}
use Rattle.numbers.specs.declared.refusal.Lent.TheVariants as lent
use Rattle.numbers.specs.declared.refusal.Refusal.TheVariants.{AtLimit, TooShort}
use Rattle.numbers.specs.Refusals.{Answer}
use Rattle.numbers.specs.declared.refusal.Refusal.{Refusal}
use Rattle.cells.specs.declared.node_entry.NodeEntry.{NodeEntry}
use Rattle.cells.specs.declared.link.PathLink.{PathLink}
use Rattle.cells.specs.declared.junction_entry.JunctionEntry.{JunctionEntry}
use Rattle.records.specs.declared.junction_ref.NodeJunctionRef.{NodeJunctionRef}

pub record Memory : Type 0 where
  pub ynd : Ynd
  pub nodes : List NodeEntry
  pub links : List PathLink
  pub junctions : List JunctionEntry
  pub heights : List ℕ
  pub refs : List NodeJunctionRef

abbrev pub memory : Ynd → List NodeEntry → List PathLink → List JunctionEntry → List ℕ → List NodeJunctionRef → Memory
memory y nodes links junctions heights refs =
    record { ynd = y; nodes = nodes; links = links; junctions = junctions; heights = heights; refs = refs }

-- a number for each of the five lists
abbrev pub per_list : ℕ → ℕ → ℕ → ℕ → ℕ → Counts
per_list nodes links junctions heights refs = record {
  nodes = nodes;
  links = links;
  junctions = junctions;
  heights = heights;
  refs = refs;
}

-- a call's answer, and the memory after it
pub record Left : Type 0 where
  pub answer : Answer
  pub memory : Memory

-- the struct after a call, which a refusal leaves as it was
abbrev pub ynd_after : Ynd → Result Ynd Refusal → Ynd
ynd_after y (Ok next) = next
ynd_after y (Err r) = y

abbrev pub left : Ynd → Result Ynd Refusal → List NodeEntry → List PathLink → List JunctionEntry → List ℕ
    → List NodeJunctionRef → Left
left y r nodes links junctions heights refs =
    record { answer = answered r; memory = memory (ynd_after y r) nodes links junctions heights refs }

-- a refusal leaves the memory as it was
abbrev pub refuse : Refusal → Memory → Left
refuse cause m = record { answer = Err cause; memory = m }

abbrev pub unless : Answer → Memory → Left → Left
unless (Ok _) m next = next
unless (Err cause) m next = refuse cause m

-- Section 4's limits: 65,536 nodes, 4,096 junctions. A struct that is over one of them was made by hand: 14, in every
-- call
unfoldable pub over_limit : Ynd → Bool
over_limit y = ltb 65536 y.node_count || ltb 4096 y.junction_count

-- what a call asks first that goes by the nodes: a limit, and whether as many are lent as the cell has
unfoldable pub nodes_causes : Ynd → ℕ → List Cause
nodes_causes y nodes = when (over_limit y) AtLimit ∷ when (ltb nodes y.node_count) (TooShort lent.Nodes) ∷ []

-- 7: lists of these lengths have as many entries as k says; the first that is shorter is named
abbrev pub room_causes : Counts → ℕ → ℕ → ℕ → ℕ → ℕ → List Cause
room_causes k nodes links junctions heights refs =
    when (ltb nodes k.nodes) (TooShort lent.Nodes)
    ∷ when (ltb links k.links) (TooShort lent.Links)
    ∷ when (ltb junctions k.junctions) (TooShort lent.Junctions)
    ∷ when (ltb heights k.heights) (TooShort lent.Heightmap)
    ∷ when (ltb refs k.refs) (TooShort lent.Refs)
    ∷ []

-- how many entries of each list a cell has
abbrev pub counts_of : Ynd → Counts
counts_of y = per_list y.node_count y.link_count y.junction_count y.heightmap_count y.ref_count

-- the lists have as many
abbrev pub short_causes : Ynd → ℕ → ℕ → ℕ → ℕ → ℕ → List Cause
short_causes y = room_causes (counts_of y)

unfoldable pub short_of : Ynd → ℕ → ℕ → ℕ → ℕ → ℕ → Answer
short_of y nodes links junctions heights refs = decided (short_causes y nodes links junctions heights refs)

abbrev pub short : Memory → Answer
short m = short_of m.ynd (length m.nodes) (length m.links) (length m.junctions) (length m.heights) (length m.refs)
