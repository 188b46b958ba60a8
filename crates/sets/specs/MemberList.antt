-- T-09: the members in memory, each with lists of its own, and the limits of a set.
use Rattle.std.specs.Prelude.{ℕ, ◌+◌, Bool, false, ◌||◌, List, [], ◌∷◌, map, leb, ltb, length, get_or}
use Rattle.numbers.specs.Refusals.{Cause, when, Answer}
use Rattle.cells.specs.Memory.{Memory, memory, over_limit}
use Rattle.cells.specs.Cell.{Cell}
use Rattle.cells.specs.CellOf.{cell_of}
use Rattle.numbers.specs.declared.refusal.Refusal.{Refusal}
use Rattle.numbers.specs.declared.refusal.Refusal.TheVariants.{NoSuchPlace, AtLimit}
use Rattle.std.specs.Prelude.{Ok, Err}

-- what stands at a number that no member has
unfoldable pub no_memory : Memory
no_memory = memory (record {
  vft = 0;
  vehicle_node_count = 0;
  ped_node_count = 0;
  unknowns = [];
  node_count = 0;
  link_count = 0;
  junction_count = 0;
  heightmap_count = 0;
  ref_count = 0;
}) [] [] [] [] []

abbrev pub member_at : List Memory → ℕ → Memory
member_at ms i = get_or ms i no_memory

abbrev pub cells_of : List Memory → List Cell
cells_of ms = map cell_of ms

-- ---- "up to nine cells .. together at most 65,536 nodes"

abbrev pub node_count : Memory → ℕ
node_count m = m.ynd.node_count

unfoldable pub nodes_together : List Memory → ℕ
nodes_together [] = 0
nodes_together (m ∷ ms) = node_count m + nodes_together ms

unfoldable pub any_over : List Memory → Bool
any_over [] = false
any_over (m ∷ ms) = over_limit m.ynd || any_over ms

-- A set that is over a limit, its own or one of a member's cell. It was made by hand: 14, in every call.
unfoldable pub over_set : List Memory → Bool
over_set ms = ltb 9 (length ms) || (ltb 65536 (nodes_together ms) || any_over ms)

-- The causes that a call on the member j has before the cell's own: 13 no such member, 14 a set over a limit.
unfoldable pub member_causes : List Memory → ℕ → List Cause
member_causes ms j = when (leb (length ms) j) NoSuchPlace ∷ when (over_set ms) AtLimit ∷ []

-- what a refusal leaves, or else what follows
abbrev pub unless : {A : Type 0} → Answer → (Refusal → A) → A → A
unless (Ok _) refused next = next
unless (Err cause) refused next = refused cause
