-- Section 4, each public field's store: a junction's heightmap, of any size, as the Rust's `heightmap` is assigned.
-- Causes of refusal, in their order: 13, 14 over a limit or at one, 12 values not width × height, 7.
use Rattle.std.specs.Prelude.{◌≡◌, ℕ, ◌*◌, ◌<◌, ◌≤◌, Bool, not, List, [], ◌∷◌, eqb, ltb}
use Rattle.std.specs.Prelude.{leb, length, get_or, set}
use Rattle.numbers.specs.Refusals.{Cause, when, decided}
use Rattle.records.specs.Put.{put}
use Rattle.cells.specs.Memory.{Memory, memory, Left, unless, over_limit}
use Rattle.cells.specs.Edit.{value_range, held_in}
use Rattle.cells.specs.Add.{with_counts, done}
use Rattle.cells.specs.Replace.{place_for, pool_after}
use Rattle.cells.specs.declared.ynd.Ynd.{Ynd}
use Rattle.numbers.specs.Refusals.{Answer}
use Rattle.numbers.specs.declared.refusal.Refusal.TheVariants.{TooShort, WrongSize, NoSuchPlace, AtLimit}
use Rattle.numbers.specs.declared.refusal.Lent.TheVariants as lent
use Rattle.cells.specs.declared.junction_entry.JunctionEntry.{JunctionEntry}
use Rattle.cells.specs.Nodes.{no_map}

-- for n junctions, a place p, c values of a map of this size, `after` values in all, which is a number of 32 bits
abbrev pub map_causes : Bool → ℕ → ℕ → ℕ → ℕ → ℕ → ℕ → ℕ → List Cause
map_causes over n p c size after junctions heights =
    when (leb n p) NoSuchPlace
    ∷ when over AtLimit
    ∷ when (ltb 4294967295 after) AtLimit
    ∷ when (not (eqb c size)) WrongSize
    ∷ when (ltb junctions n) (TooShort lent.Junctions)
    ∷ when (ltb heights after) (TooShort lent.Heightmap)
    ∷ []

unfoldable pub room_for_map : Bool → ℕ → ℕ → ℕ → ℕ → ℕ → ℕ → ℕ → Answer
room_for_map over n p c size after junctions heights = decided (map_causes over n p c size after junctions heights)

-- how many values the junction at p really has
abbrev pub values_held : Memory → ℕ → ℕ
values_held m p = held_in (value_range m.junctions p) m.ynd.heightmap_count

-- where c new values of the junction at p start, and how many values there are afterwards
abbrev pub map_start : Memory → ℕ → ℕ → ℕ
map_start m p c = place_for (get_or m.junctions p no_map).heightmap_ptr (values_held m p) c m.ynd.heightmap_count

abbrev pub values_after : Memory → ℕ → ℕ → ℕ
values_after m p c = pool_after (values_held m p) c m.ynd.heightmap_count

abbrev pub with_value_count : Ynd → ℕ → Ynd
with_value_count y h = with_counts y y.node_count y.link_count y.junction_count h y.ref_count

-- the junction, with a map of this size from s on
abbrev pub mapped : ℕ → ℕ → ℕ → JunctionEntry → JunctionEntry
mapped width height s j = record j { width = width; height = height; heightmap_ptr = s }

abbrev pub map_call : Memory → ℕ → ℕ → ℕ → Answer
map_call m p c size =
    room_for_map (over_limit m.ynd) m.ynd.junction_count p c size (values_after m p c) (length m.junctions)
    (length m.heights)

-- the memory with `values` as the map of the junction at p
abbrev pub map_stored : Memory → ℕ → ℕ → ℕ → List ℕ → Memory
map_stored m p width height values =
    memory (with_value_count m.ynd (values_after m p (length values))) m.nodes m.links
    (set m.junctions p (mapped width height (map_start m p (length values)) (get_or m.junctions p no_map)))
    (put m.heights (map_start m p (length values)) values)
    m.refs

unfoldable pub put_heightmap : Memory → ℕ → ℕ → ℕ → List ℕ → Left
put_heightmap m p width height values =
    unless (map_call m p (length values) (width * height)) m (done (map_stored m p width height values))

-- the room that an accepted call has; no public function's contract cites this
pub record MapRoom (n p c size after junctions heights : ℕ) : Type 0 where
  pub place : p < n
  pub all_few : after ≤ 4294967295
  pub sized : c ≡ size
  pub junctions_fit : n ≤ junctions
  pub heights_fit : after ≤ heights
