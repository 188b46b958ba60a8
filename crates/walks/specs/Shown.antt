-- Section 5: what a walk shows, as calls over the lent lists: of a node, of a junction with its heightmap values, of
-- the link chosen. Causes of refusal: 13 no such place; 14 a struct over a limit; 7 at 0 to 4 a list shorter than its
-- count.
use Rattle.std.specs.Prelude.{ℕ, cond, List, [], ◌∷◌, leb, ltb, length}
use Rattle.numbers.specs.Refusals.{when, decided, unless, and_then}
use Rattle.std.proofs.Math.Option.{Option as Found, none, some}
use Rattle.std.proofs.Math.ListN.{get_elem?}
use Rattle.records.specs.Put.{put}
use Rattle.cells.specs.Edit.{junction_entry}
use Rattle.cells.specs.Memory.{Memory, over_limit}
use Rattle.cells.specs.declared.node_entry.NodeEntry.{NodeEntry}
use Rattle.cells.specs.Cell.{Junction, Cell, node_at, first_of}
use Rattle.cells.specs.CellOf.{cell_of}
use Rattle.cells.specs.Lookup.{ref_of}
use Rattle.cells.specs.LookupCall.{place_of}
use Rattle.walks.specs.Walk.{link_at, see, shown_of}
use Rattle.walks.specs.declared.shown.SeenNode.{SeenNode}
use Rattle.walks.specs.declared.shown.SeenJunction.{SeenJunction}
use Rattle.walks.specs.declared.shown.SeenLink.{SeenLink}
use Rattle.std.specs.Prelude.{Option, Result, Ok, Err, Some, None}
use Rattle.numbers.specs.declared.refusal.Refusal.{Refusal}
use Rattle.numbers.specs.declared.refusal.Refusal.TheVariants.{TooShort, NoSuchPlace, AtLimit}
use Rattle.numbers.specs.declared.refusal.Lent.TheVariants as lent

-- ---- a node

abbrev pub inside : ℕ → Found ℕ → Found ℕ
inside count (some j) = cond (ltb j count) (some j) none
inside count none = none

-- The place of the junction that `junction_of` gives to a node of the area a with the number k. Law `junction_shown`:
-- it is the junction that the walk shows.
unfoldable pub junction_place : Cell → ℕ → ℕ → Found ℕ
junction_place c a k = inside (length c.junctions) (ref_of (first_of c.nodes) c.refs a k)

-- what is shown of a node of this area and body, with so many links and its junction at a place
abbrev pub seen_by : ℕ → NodeEntry → ℕ → Option ℕ → SeenNode
seen_by area b count junction = record {
  node = record b { area_id = area };
  link_count = count;
  junction = junction;
}

-- what the walk shows of the node at place p, with the place of its junction
unfoldable pub seen_node : Cell → ℕ → SeenNode
seen_node c p = seen_by (see c p).area (see c p).body (see c p).count
    (place_of (junction_place c (see c p).area (node_at c.nodes p).number))

unfoldable pub shown_node : Memory → ℕ → Result SeenNode Refusal
shown_node m p =
    cond (leb m.ynd.node_count p) (Err NoSuchPlace)
    (cond (over_limit m.ynd) (Err AtLimit)
    (cond (ltb (length m.nodes) m.ynd.node_count) (Err (TooShort lent.Nodes))
    (cond (ltb (length m.links) m.ynd.link_count) (Err (TooShort lent.Links))
    (cond (ltb (length m.junctions) m.ynd.junction_count) (Err (TooShort lent.Junctions))
    (cond (ltb (length m.refs) m.ynd.ref_count) (Err (TooShort lent.Refs))
    (Ok (seen_node (cell_of m) p)))))))

-- ---- a junction: corner and heights by their bits, width and height; and its heightmap values

abbrev pub seen_junction : Junction → SeenJunction
seen_junction j = record {
  x = j.x;
  y = j.y;
  min_z = j.low;
  max_z = j.high;
  width = j.width;
  height = j.height;
}

abbrev pub or_none : Found Junction → Result SeenJunction Refusal
or_none (some j) = Ok (seen_junction j)
or_none none = Err NoSuchPlace

-- 13, 14 and 7, as where a junction is taken out
unfoldable pub shown_junction : Memory → ℕ → Result SeenJunction Refusal
shown_junction m p =
    and_then (junction_entry m.ynd m.junctions p) λ i. or_none (get_elem? (cell_of m).junctions i)

abbrev pub values_of : Found Junction → List ℕ
values_of (some j) = j.values
values_of none = []

-- of the junction at place p, none where the cell has no such junction
unfoldable pub values_at : Memory → ℕ → List ℕ
values_at m p = values_of (get_elem? (cell_of m).junctions p)

-- what the call answers, and the list lent for the values after it
pub record ValuesLeft : Type 0 where
  pub answer : Result ℕ Refusal
  pub values : List ℕ

abbrev pub values_left : Result ℕ Refusal → List ℕ → ValuesLeft
values_left a v = record { answer = a; values = v }

-- copied to the front of a lent list: how many they are; a refusal leaves it as it was
abbrev pub copied : List ℕ → Result (List ℕ) Refusal → ValuesLeft
copied old (Ok v) = values_left (Ok (length v)) (put old 0 v)
copied old (Err cause) = values_left (Err cause) old

-- the same causes, and then 7 at 3 where the heights lent, or that list, are too short
unfoldable pub shown_values : Memory → ℕ → List ℕ → ValuesLeft
shown_values m p old =
    copied old (and_then (junction_entry m.ynd m.junctions p) λ i.
    unless
    (decided
    (when (ltb (length m.heights) m.ynd.heightmap_count) (TooShort lent.Heightmap)
    ∷ when (ltb (length old) (length (values_at m i))) (TooShort lent.Heightmap)
    ∷ [])) (Ok (values_at m i)))

-- ---- the link chosen by the byte b at place p

abbrev pub or_no_link : Found SeenLink → Result (Option SeenLink) Refusal
or_no_link (some l) = Ok (Some l)
or_no_link none = Ok None

unfoldable pub shown_link : Memory → ℕ → ℕ → Result (Option SeenLink) Refusal
shown_link m p b =
    cond (leb m.ynd.node_count p) (Err NoSuchPlace)
    (cond (over_limit m.ynd) (Err AtLimit)
    (cond (ltb (length m.nodes) m.ynd.node_count) (Err (TooShort lent.Nodes))
    (cond (ltb (length m.links) m.ynd.link_count) (Err (TooShort lent.Links))
    (or_no_link (shown_of (link_at (cell_of m).nodes p b))))))
