-- Section 4, other calls: entries taken out and stored by place. Causes of refusal, in their order: 13 no such place,
-- 14 a struct over a limit, 12, 7 a list shorter than its count. What needs an entry is asked of one that is lent.
use Rattle.std.specs.Prelude.{ℕ, ◌+◌, ◌-◌, ◌*◌, min, Bool, not, ◌&&◌, List, [], ◌∷◌, eqb, ltb, leb, length}
use Rattle.std.specs.Prelude.{get_or, set}
use Rattle.numbers.specs.Refusals.{when, decided, unless}
use Rattle.cells.specs.Nodes.{no_entry, no_link, no_map, no_ref, value_count}
use Rattle.cells.specs.EntryForms.{moved_to, node_as_entry, junction_as_entry, with_range}
use Rattle.cells.specs.declared.node.PathNode.{PathNode}
use Rattle.cells.specs.declared.junction.PathJunction.{PathJunction}
use Rattle.cells.specs.Memory.{over_limit, Memory, memory, Left}
use Rattle.numbers.specs.Positions.{quantised, dequantised}
use Rattle.numbers.specs.declared.math.Vec3.{Vec3}
use Rattle.records.specs.declared.junction_ref.NodeJunctionRef.{NodeJunctionRef}
use Rattle.cells.specs.declared.ynd.Ynd.{Ynd}
use Rattle.cells.specs.declared.node_entry.NodeEntry.{NodeEntry}
use Rattle.cells.specs.declared.link.PathLink.{PathLink}
use Rattle.cells.specs.declared.junction_entry.JunctionEntry.{JunctionEntry}
use Rattle.cells.specs.declared.range.Range.{Range}
use Rattle.std.specs.Prelude.{Result, Ok, Err}
use Rattle.numbers.specs.Refusals.{Answer}
use Rattle.numbers.specs.declared.refusal.Refusal.{Refusal}
use Rattle.numbers.specs.declared.refusal.Refusal.TheVariants.{TooShort, WrongSize, NoSuchPlace, AtLimit}
use Rattle.numbers.specs.declared.refusal.Lent.{Lent}
use Rattle.numbers.specs.declared.refusal.Lent.TheVariants as lent

-- ---- the entry that a place names

-- the entry at the place p of n, in a list of this length, whose own place is `list`; `over` says that a limit is
-- passed
unfoldable pub entry_at : Bool → ℕ → ℕ → Lent → ℕ → Result ℕ Refusal
entry_at over n len list p =
    unless (decided (when (leb n p) NoSuchPlace ∷ when over AtLimit ∷ when (ltb len n) (TooShort list) ∷ [])) (Ok p)

-- Section 4: a node's range of links, a junction's range of values; none at a place that the list has not
abbrev pub link_range : List NodeEntry → ℕ → Range
link_range nodes p = record { start = (get_or nodes p no_entry).link_id; count = (get_or nodes p no_entry).link_count }

abbrev pub value_range : List JunctionEntry → ℕ → Range
value_range junctions p = record {
  start = (get_or junctions p no_map).heightmap_ptr;
  count = value_count (get_or junctions p no_map);
}

-- how many of a range are among the first l: a range that leaves the list is cut
unfoldable pub held_in : Range → ℕ → ℕ
held_in r l = min r.count (l - r.start)

-- entry k of the range r, which belongs to the place p of n and lies among l entries of a pool; both lists' lengths,
-- and their own places a and b
unfoldable pub range_entry : Bool → ℕ → ℕ → Lent → ℕ → ℕ → Lent → ℕ → Range → ℕ → Result ℕ Refusal
range_entry over n len a l pool b p r k =
    unless
    (decided
    (when (leb n p) NoSuchPlace
    ∷ when (ltb p len && leb (held_in r l) k) NoSuchPlace
    ∷ when over AtLimit
    ∷ when (ltb len n) (TooShort a)
    ∷ when (ltb pool l) (TooShort b)
    ∷ [])) (Ok (r.start + k))

unfoldable pub node_entry : Ynd → List NodeEntry → ℕ → Result ℕ Refusal
node_entry y nodes p = entry_at (over_limit y) y.node_count (length nodes) lent.Nodes p

unfoldable pub link_entry : Ynd → List NodeEntry → ℕ → ℕ → ℕ → Result ℕ Refusal
link_entry y nodes links p k =
    range_entry (over_limit y) y.node_count (length nodes) lent.Nodes y.link_count links lent.Links p
    (link_range nodes p) k

unfoldable pub ref_entry : Ynd → List NodeJunctionRef → ℕ → Result ℕ Refusal
ref_entry y refs p = entry_at (over_limit y) y.ref_count (length refs) lent.Refs p

unfoldable pub junction_entry : Ynd → List JunctionEntry → ℕ → Result ℕ Refusal
junction_entry y junctions p = entry_at (over_limit y) y.junction_count (length junctions) lent.Junctions p

unfoldable pub height_entry : Ynd → List JunctionEntry → ℕ → ℕ → ℕ → Result ℕ Refusal
height_entry y junctions heights p k =
    range_entry (over_limit y) y.junction_count (length junctions) lent.Junctions y.heightmap_count heights
    lent.Heightmap p (value_range junctions p) k

-- ---- taken out

-- the entry of a list in the form that the call returns, d where the list ends before it
abbrev pub got_as : {A B : Type 0} → (A → B) → A → Result ℕ Refusal → List A → Result B Refusal
got_as f d (Ok i) l = Ok (f (get_or l i d))
got_as f d (Err cause) l = Err cause

abbrev pub got : {A : Type 0} → A → Result ℕ Refusal → List A → Result A Refusal
got d r l = got_as (λ e. e) d r l

-- ---- stored

-- a call's answer, and the lent list after it
pub record Stored (A : Type 0) : Type 0 where
  pub answer : Answer
  pub list : List A

abbrev pub stored : {A : Type 0} → Answer → List A → Stored A
stored a l = record { answer = a; list = l }

-- a call that lends one list: its answer, and the memory with the list after it
abbrev pub nodes_left : Memory → Stored NodeEntry → Left
nodes_left m s = record { answer = s.answer; memory = record m { nodes = s.list } }

abbrev pub links_left : Memory → Stored PathLink → Left
links_left m s = record { answer = s.answer; memory = record m { links = s.list } }

abbrev pub junctions_left : Memory → Stored JunctionEntry → Left
junctions_left m s = record { answer = s.answer; memory = record m { junctions = s.list } }

abbrev pub heights_left : Memory → Stored ℕ → Left
heights_left m s = record { answer = s.answer; memory = record m { heights = s.list } }

abbrev pub refs_left : Memory → Stored NodeJunctionRef → Left
refs_left m s = record { answer = s.answer; memory = record m { refs = s.list } }

-- an entry changed; a refusal leaves the list as it was
abbrev pub change_at : {A : Type 0} → Result ℕ Refusal → (A → A) → A → List A → Stored A
change_at (Ok i) f d l = stored (Ok tt) (set l i (f (get_or l i d)))
change_at (Err cause) f d l = stored (Err cause) l

-- a node with the range of links that its entry has
unfoldable pub range_kept : NodeEntry → NodeEntry → NodeEntry
range_kept n old = with_range n old.link_id old.link_count

unfoldable pub put_node : Ynd → List NodeEntry → ℕ → PathNode → Stored NodeEntry
put_node y nodes p n = change_at (node_entry y nodes p) (range_kept (node_as_entry n)) no_entry nodes

-- as `PathNode::set_position`: section 3's stored position
unfoldable pub set_position : Ynd → List NodeEntry → ℕ → Vec3 → Stored NodeEntry
set_position y nodes p at = change_at (node_entry y nodes p)
    (moved_to (dequantised (quantised at))) no_entry nodes

unfoldable pub put_link : Ynd → List NodeEntry → List PathLink → ℕ → ℕ → PathLink → Stored PathLink
put_link y nodes links p k l = change_at (link_entry y nodes (length links) p k) (λ old. l) no_link links

unfoldable pub put_ref : Ynd → List NodeJunctionRef → ℕ → NodeJunctionRef → Stored NodeJunctionRef
put_ref y refs p r = change_at (ref_entry y refs p) (λ old. r) no_ref refs

-- a junction whose heightmap starts at a place
abbrev pub start_at : JunctionEntry → ℕ → JunctionEntry
start_at j start = record j { heightmap_ptr = start }

-- 12: the values stay as many
unfoldable pub sized_entry : Bool → ℕ → ℕ → ℕ → ℕ → ℕ → Result ℕ Refusal
sized_entry over n len p values held =
    unless
    (decided
    (when (leb n p) NoSuchPlace
    ∷ when over AtLimit
    ∷ when (ltb p len && not (eqb values held)) WrongSize
    ∷ when (ltb len n) (TooShort lent.Junctions)
    ∷ [])) (Ok p)

unfoldable pub put_junction : Ynd → List JunctionEntry → ℕ → PathJunction → Stored JunctionEntry
put_junction y junctions p j =
    change_at (sized_entry (over_limit y) y.junction_count (length junctions) p (j.width * j.height)
    (value_range junctions p).count)
    (λ old. start_at (junction_as_entry j) old.heightmap_ptr) no_map junctions

unfoldable pub put_height : Ynd → List JunctionEntry → List ℕ → ℕ → ℕ → ℕ → Stored ℕ
put_height y junctions heights p k v = change_at (height_entry y junctions (length heights) p k) (λ x. v) 0 heights
