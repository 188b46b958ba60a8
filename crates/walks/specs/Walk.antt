-- Section 5: walks.
use Rattle.std.specs.Prelude.{ℕ, cond, List, [], ◌∷◌, length}
use Rattle.std.proofs.Math.Option.{Option, none, some}
use Rattle.std.proofs.Math.ListN.{get_elem?}
use Rattle.cells.specs.Area.{belongs}
use Rattle.cells.specs.declared.link.PathLink.{PathLink}
use Rattle.walks.specs.declared.shown.SeenLink.{SeenLink}
use Rattle.cells.specs.declared.node_entry.NodeEntry.{NodeEntry}
use Rattle.cells.specs.Cell.{Node, Junction, Cell, node_at, numbers, first_of}
use Rattle.cells.specs.Lookup.{find, junction_of}
use Rattle.walks.specs.declared.walk.End.{End}
use Rattle.walks.specs.declared.walk.End.TheVariants.{Done, NoLink, Left, NoNode}

-- ---- one link

-- Where a choice leads: on to a place, or the walk ends.
pub data Next (L : Type 0) : Type 0 where
  to : L → Next L
  stop : End → Next L

-- Section 5: a byte chooses a link by its place among the node's links.
abbrev pub link_at : List Node → ℕ → ℕ → Option PathLink
link_at ns p b = get_elem? (node_at ns p).links b

-- Section 5: *no-node* if the number isn't there.
abbrev pub arrive : Option ℕ → Next ℕ
arrive (some q) = to q
arrive none = stop NoNode

-- Section 5: a link of the own area leads to what `node` finds; *left* at another area.
abbrev pub leads : List Node → PathLink → Next ℕ
leads ns l = cond (belongs (first_of ns) l.area_id) (arrive (find (numbers ns) l.node_id)) (stop
    (Left l.area_id l.node_id))

-- Section 5: *no-link* for a choice beyond the links.
abbrev pub take_link : List Node → Option PathLink → Next ℕ
take_link ns (some l) = leads ns l
take_link ns none = stop NoLink

unfoldable pub next : List Node → ℕ → ℕ → Next ℕ
next ns p b = take_link ns (link_at ns p b)

-- ---- what a walk shows

-- Section 5: of a node its area, its body (street, position bits, flags0 to flags5 and, T-10, the five unused
-- fields), its link count and its junction, whole.
pub record Seen : Type 0 where
  pub area : ℕ
  pub body : NodeEntry
  pub count : ℕ
  pub junction : Option Junction

unfoldable pub see : Cell → ℕ → Seen
see c p = record {
  area = (node_at c.nodes p).area;
  body = (node_at c.nodes p).body;
  count = length (node_at c.nodes p).links;
  junction = junction_of c (node_at c.nodes p).area (node_at c.nodes p).number;
}

-- Section 5: of the link chosen its three flags and length.
abbrev pub seen_link : PathLink → SeenLink
seen_link l = record { flags0 = l.flags0; flags1 = l.flags1; flags2 = l.flags2; length = l.length }

abbrev pub shown_of : Option PathLink → Option SeenLink
shown_of (some l) = some (seen_link l)
shown_of none = none

-- ---- the whole walk, over places of any kind

-- All that a walk asks for: where a choice leads, and what is shown of a place and of the link chosen there.
pub record World (L : Type 0) : Type 0 where
  pub next : L → ℕ → Next L
  pub see : L → Seen
  pub link : L → ℕ → Option SeenLink

-- A place visited, with what is shown there. There is no link where no choice was left, or where it was beyond the
-- links.
pub record Visit (L : Type 0) : Type 0 where
  pub place : L
  pub seen : Seen
  pub link : Option SeenLink

-- How the walk ended, and the places visited in order, the start first.
pub record Trail (L : Type 0) : Type 0 where
  pub ending : End
  pub visits : List (Visit L)

abbrev pub go_on : {L : Type 0} → Visit L → (L → Trail L) → Next L → Trail L
go_on v on (to q) = record { ending = (on q).ending; visits = v ∷ (on q).visits }
go_on v on (stop e) = record { ending = e; visits = v ∷ [] }

-- Section 5: *done* when choices are used up.
unfoldable pub walk_in : {L : Type 0} → World L → List ℕ → L → Trail L
walk_in w [] p = record { ending = Done; visits = record { place = p; seen = w.see p; link = none } ∷ [] }
walk_in w (b ∷ bs) p = go_on (record { place = p; seen = w.see p; link = w.link p b }) (walk_in w bs) (w.next p b)

abbrev pub world_of : Cell → World ℕ
world_of c = record { next = next c.nodes; see = see c; link = λ p b. shown_of (link_at c.nodes p b) }

-- Section 5: the walk in a cell, over a list of choices, from a start place.
unfoldable pub walk : Cell → List ℕ → ℕ → Trail ℕ
walk c = walk_in (world_of c)
