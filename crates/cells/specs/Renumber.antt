-- Section 4, renumbering: what the call answers, and what it leaves of the cell and of the lists lent to it.
-- The scratch is not part of the state (`scratch_left`). Junctions and heightmaps are lent to be counted and stay.
use Rattle.std.specs.Prelude.{ℕ, ◌≡◌, Bool, List, [], ◌∷◌, ◌++◌, map, ltb, length, take, drop}
use Rattle.numbers.specs.Refusals.{when, decided, refuse_if, unless, answered}
use Rattle.cells.specs.Order.{keep, new_places}
use Rattle.cells.specs.Nodes.{is_ped, is_vehicle, reordered, old_of, relinked, rereffed}
use Rattle.cells.specs.Memory.{Memory, memory, ynd_after, over_limit, short}
use Rattle.cells.specs.declared.ynd.Ynd.{Ynd}
use Rattle.std.specs.Prelude.{Result, Ok, Err}
use Rattle.numbers.specs.Refusals.{Answer}
use Rattle.numbers.specs.declared.refusal.Refusal.{Refusal}
use Rattle.numbers.specs.declared.refusal.Refusal.TheVariants.{TooShort, AtLimit}
use Rattle.numbers.specs.declared.refusal.Lent.TheVariants as lent
use Rattle.cells.specs.declared.node_entry.NodeEntry.{NodeEntry}
use Rattle.cells.specs.declared.link.PathLink.{PathLink}
use Rattle.cells.specs.declared.junction_entry.JunctionEntry.{JunctionEntry}
use Rattle.records.specs.declared.junction_ref.NodeJunctionRef.{NodeJunctionRef}

-- a call's answer, and the memory and the list of new places after it
pub record Renumbered : Type 0 where
  pub answer : Answer
  pub memory : Memory
  pub places : List ℕ

abbrev pub renumbered_by : Ynd → Result Ynd Refusal → List NodeEntry → List PathLink → List JunctionEntry → List ℕ
    → List NodeJunctionRef → List ℕ → Renumbered
renumbered_by y r nodes links junctions heights refs places =
    record { answer = answered r; memory = memory (ynd_after y r) nodes links junctions heights refs; places = places }

-- the lists that renumbering changes
pub record Lists : Type 0 where
  pub nodes : List NodeEntry
  pub links : List PathLink
  pub refs : List NodeJunctionRef
  pub places : List ℕ

abbrev pub lists : List NodeEntry → List PathLink → List NodeJunctionRef → List ℕ → Lists
lists nodes links refs places = record { nodes = nodes; links = links; refs = refs; places = places }

-- the first n entries, each changed; the later ones stay
abbrev pub over : {A : Type 0} → (List A → List A) → ℕ → List A → List A
over f n l = f (take n l) ++ drop n l

-- how many of the first n nodes are no ped nodes, and how many are
unfoldable pub vehicles : ℕ → List NodeEntry → ℕ
vehicles n nodes = length (keep is_vehicle (take n nodes))

unfoldable pub peds : ℕ → List NodeEntry → ℕ
peds n nodes = length (keep is_ped (take n nodes))

-- n nodes, l links and r refs renumbered
unfoldable pub renumber_lists : ℕ → ℕ → ℕ → Lists → Lists
renumber_lists n l r m = record {
  nodes = over reordered n m.nodes;
  links = over (map (relinked (old_of n m.nodes))) l m.links;
  refs = over (map (rereffed (old_of n m.nodes))) r m.refs;
  places = over (λ _. new_places (map is_ped (take n m.nodes))) n m.places;
}

unfoldable pub recounted : Ynd → ℕ → ℕ → Ynd
recounted y v p = record y { vehicle_node_count = v; ped_node_count = p }

-- over a limit (14); a list shorter than its count (7, its place); scratch and new places too short (7, places 6 and
-- 7)
unfoldable pub answer_of : Bool → ℕ → Answer → ℕ → ℕ → Answer
answer_of over n lack scratch places =
    refuse_if over AtLimit
    (unless lack
    (decided
    (when (ltb scratch 65536) (TooShort lent.Scratch)
    ∷ when (ltb places n) (TooShort lent.NewPlaces)
    ∷ [])))

-- the lists of the cell m, with a list of new places, renumbered
unfoldable pub new_lists : Memory → List ℕ → Lists
new_lists m places =
    renumber_lists m.ynd.node_count m.ynd.link_count m.ynd.ref_count (lists m.nodes m.links m.refs places)

-- the memory of an accepted call
unfoldable pub renumber_memory : Memory → List ℕ → Memory
renumber_memory m places =
    memory (recounted m.ynd (vehicles m.ynd.node_count m.nodes) (peds m.ynd.node_count m.nodes))
    (new_lists m places).nodes (new_lists m places).links m.junctions m.heights (new_lists m places).refs

-- a refusal leaves all as it was
abbrev pub left_by : Answer → Memory → List ℕ → Renumbered
left_by (Ok _) m places = record {
  answer = Ok tt;
  memory = renumber_memory m places;
  places = (new_lists m places).places;
}
left_by (Err cause) m places = record { answer = Err cause; memory = m; places = places }

-- the whole call, with a scratch of this many entries and a list for the new places
unfoldable pub renumber : Memory → ℕ → List ℕ → Renumbered
renumber m scratch places =
    left_by (answer_of (over_limit m.ynd) m.ynd.node_count (short m) scratch (length places)) m places

-- The scratch: a refused call leaves it as it was. After an accepted one it is free (section 4, "Contracts and their
-- sham rivals"): it is as long as it was, and may hold anything.
abbrev pub scratch_left : {A : Type 0} → Result A Refusal → List ℕ → List ℕ → Type 0
scratch_left (Ok _) before after = length after ≡ length before
scratch_left (Err cause) before after = after ≡ before
