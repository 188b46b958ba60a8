-- Section 4, other calls: adding nodes, refs and junctions. Causes of refusal, in their order: 14 the cell is at a
-- limit, or its struct over one, 12, 7 a list has no room.
-- Lists that a call is not lent stay as they are.
use Rattle.std.specs.Prelude.{◌≡◌, ℕ, ◌+◌, ◌*◌, ◌<◌, ◌≤◌, Bool, not, List, [], ◌∷◌, eqb, ltb, leb, length, set}
use Rattle.numbers.specs.Refusals.{when, decided}
use Rattle.numbers.specs.Positions.{quantised, dequantised}
use Rattle.numbers.specs.declared.math.Vec3.{Vec3}
use Rattle.records.specs.Put.{put}
use Rattle.records.specs.declared.junction_ref.NodeJunctionRef.{NodeJunctionRef}
use Rattle.cells.specs.NodeAccess.{new_node}
use Rattle.cells.specs.EntryForms.{node_as_entry, junction_as_entry}
use Rattle.cells.specs.Memory.{Memory, memory, Left, unless, over_limit}
use Rattle.cells.specs.Edit.{start_at}
use Rattle.cells.specs.declared.ynd.Ynd.{Ynd}
use Rattle.cells.specs.declared.junction.PathJunction.{PathJunction}
use Rattle.std.specs.Prelude.{Ok}
use Rattle.numbers.specs.Refusals.{Answer}
use Rattle.numbers.specs.declared.refusal.Refusal.TheVariants.{TooShort, WrongSize, AtLimit}
use Rattle.numbers.specs.declared.refusal.Lent.{Lent}
use Rattle.numbers.specs.declared.refusal.Lent.TheVariants as lent

-- the struct with other counts
unfoldable pub with_counts : Ynd → ℕ → ℕ → ℕ → ℕ → ℕ → Ynd
with_counts y nodes links junctions heights refs = record y {
  node_count = nodes;
  link_count = links;
  junction_count = junctions;
  heightmap_count = heights;
  ref_count = refs;
}

abbrev pub more_nodes : Ynd → Ynd
more_nodes y = with_counts y (y.node_count + 1) y.link_count y.junction_count y.heightmap_count y.ref_count

abbrev pub more_links : Ynd → Ynd
more_links y = with_counts y y.node_count (y.link_count + 1) y.junction_count y.heightmap_count y.ref_count

abbrev pub more_junctions : Ynd → ℕ → Ynd
more_junctions y values =
    with_counts y y.node_count y.link_count (y.junction_count + 1) (y.heightmap_count + values) y.ref_count

abbrev pub more_refs : Ynd → Ynd
more_refs y = with_counts y y.node_count y.link_count y.junction_count y.heightmap_count (y.ref_count + 1)

abbrev pub done : Memory → Left
done m = record { answer = Ok tt; memory = m }

-- one more entry behind n of a list of this length, whose own place is `list`
unfoldable pub room_for : Bool → ℕ → ℕ → ℕ → Lent → Answer
room_for over limit n len list =
    decided (when over AtLimit ∷ when (leb limit n) AtLimit ∷ when (leb len n) (TooShort list) ∷ [])

-- its number is its place
unfoldable pub add_node : Memory → ℕ → Vec3 → Left
add_node m area at =
    unless (room_for (over_limit m.ynd) 65536 m.ynd.node_count (length m.nodes) lent.Nodes) m
    (done (memory (more_nodes m.ynd)
    (set m.nodes m.ynd.node_count (node_as_entry (new_node area m.ynd.node_count (dequantised (quantised at)))))
    m.links m.junctions m.heights m.refs))

-- section 4 has no limit on refs; the count is a number of 32 bits
unfoldable pub add_ref : Memory → NodeJunctionRef → Left
add_ref m r =
    unless (room_for (over_limit m.ynd) 4294967295 m.ynd.ref_count (length m.refs) lent.Refs) m
    (done (memory (more_refs m.ynd) m.nodes m.links m.junctions m.heights (set m.refs m.ynd.ref_count r)))

-- one more junction of this size behind n, with v values behind h
unfoldable pub room_for_junction : Bool → ℕ → ℕ → ℕ → ℕ → ℕ → ℕ → Answer
room_for_junction over n h size v junctions heights =
    decided
    (when over AtLimit
    ∷ when (leb 4096 n) AtLimit
    ∷ when (ltb 4294967295 (h + v)) AtLimit
    ∷ when (not (eqb v size)) WrongSize
    ∷ when (leb junctions n) (TooShort lent.Junctions)
    ∷ when (ltb heights (h + v)) (TooShort lent.Heightmap)
    ∷ [])

-- its values stand behind all others
unfoldable pub add_junction : Memory → PathJunction → List ℕ → Left
add_junction m j values =
    unless (room_for_junction (over_limit m.ynd) m.ynd.junction_count m.ynd.heightmap_count (j.width * j.height)
    (length values) (length m.junctions) (length m.heights)) m
    (done (memory (more_junctions m.ynd (length values)) m.nodes m.links
    (set m.junctions m.ynd.junction_count (start_at (junction_as_entry j) m.ynd.heightmap_count))
    (put m.heights m.ynd.heightmap_count values)
    m.refs))

-- the room that an accepted call has; no public function's contract cites this
pub record JunctionRoom (n h size v junctions heights : ℕ) : Type 0 where
  pub few : n < 4096
  pub values_few : h + v ≤ 4294967295
  pub sized : v ≡ size
  pub junctions_fit : n < junctions
  pub heights_fit : h + v ≤ heights
