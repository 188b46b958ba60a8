-- Section 4, renumbering: what it reads and writes of a node, a link and a ref; and what stands at a place that no
-- entry has: never shown.
use Rattle.std.specs.Prelude.{ℕ, suc, ◌*◌, ◌/◌, Bool, ◌||◌, not, List, [], ◌∷◌, map, eqb, take, get_or}
use Rattle.cells.specs.Area.{own_area}
use Rattle.cells.specs.Order.{Old, parted, renamed}
use Rattle.cells.specs.declared.node_entry.NodeEntry.{NodeEntry}
use Rattle.cells.specs.declared.link.PathLink.{PathLink}
use Rattle.cells.specs.declared.junction_entry.JunctionEntry.{JunctionEntry}
use Rattle.records.specs.declared.junction_ref.NodeJunctionRef.{NodeJunctionRef}

abbrev pub no_entry : NodeEntry
no_entry = record {
  area_id = 0;
  node_id = 0;
  street_name = 0;
  position = record { x = 0; y = 0; z = 0 };
  flags0 = 0;
  flags1 = 0;
  flags2 = 0;
  flags3 = 0;
  flags4 = 0;
  flags5 = 0;
  link_count = 0;
  zero = 0;
  link_id = 0;
  unused0 = 0;
  unused1 = 0;
  unused2 = 0;
  unused3 = 0;
  unused4 = 0;
  zeros = 0;
}

abbrev pub no_link : PathLink
no_link = record { area_id = 0; node_id = 0; flags0 = 0; flags1 = 0; flags2 = 0; length = 0 }

abbrev pub no_map : JunctionEntry
no_map = record {
  x = 0;
  y = 0;
  min_z = 0;
  max_z = 0;
  width = 0;
  height = 0;
  zero = 0;
  heightmap_ptr = 0;
}

abbrev pub no_ref : NodeJunctionRef
no_ref = record { area_id = 0; node_id = 0; junction_id = 0; unk0 = 0 }

-- which values are a junction's own
abbrev pub value_count : JunctionEntry → ℕ
value_count j = j.width * j.height

abbrev pub area_of : NodeEntry → ℕ
area_of n = n.area_id

abbrev pub number_of : NodeEntry → ℕ
number_of n = n.node_id

-- of the node at a place
abbrev pub number_at : List NodeEntry → ℕ → ℕ
number_at nodes p = number_of (get_or nodes p no_entry)

abbrev pub ped_kind : ℕ → Bool
ped_kind k = eqb k 10 || eqb k 14 || eqb k 18

unfoldable pub is_ped : NodeEntry → Bool
is_ped n = ped_kind (n.flags1 / 8)

abbrev pub is_vehicle : NodeEntry → Bool
is_vehicle n = not (is_ped n)

abbrev pub numbered : ℕ → NodeEntry → NodeEntry
numbered k n = record n { node_id = k }

-- the nodes, numbered k, k + 1, ..
unfoldable pub number_from : ℕ → List NodeEntry → List NodeEntry
number_from k [] = []
number_from k (n ∷ ns) = numbered k n ∷ number_from (suc k) ns

-- the nodes in their new order, numbered by place
unfoldable pub reordered : List NodeEntry → List NodeEntry
reordered ns = number_from 0 (parted is_ped ns)

-- the own area of a cell with these nodes
unfoldable pub first_area : List NodeEntry → ℕ
first_area ns = own_area area_of ns

-- what renumbering goes by, of the first n nodes
unfoldable pub old_of : ℕ → List NodeEntry → Old
old_of n nodes = record {
  area = first_area (take n nodes);
  numbers = map number_of (take n nodes);
  peds = map is_ped (take n nodes);
}

-- a link and a ref, as they are after renumbering
abbrev pub relinked : Old → PathLink → PathLink
relinked o l = record l { node_id = renamed o l.area_id l.node_id }

abbrev pub rereffed : Old → NodeJunctionRef → NodeJunctionRef
rereffed o r = record r { node_id = renamed o r.area_id r.node_id }
