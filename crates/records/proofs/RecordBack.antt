-- Reading a record where its bytes stand gives the record: the law of shapes, for each of the four kinds.
use Prim.Native.Nat.{ℕ, ◌+◌, ◌<◌}
use mathlib.Core.Path.{◌≡◌, refl, ap, ◌∙◌}
use mathlib.Core.List.{List, [], ◌∷◌}
use lib.ListN.{length, get_or}
use lib.Signed.{mag}
use Rattle.records.specs.Bytes.{number_bytes, signed16, bits16}
use Rattle.records.specs.Records.{node_at, node_bytes, link_at, link_bytes, junction_at, junction_bytes, ref_at}
use Rattle.records.specs.Records.{ref_bytes, node_size, link_size, junction_size, ref_size}
use Rattle.records.specs.declared.node.Node.{Node}
use Rattle.records.specs.declared.link.NodeLink.{NodeLink}
use Rattle.records.specs.declared.junction.NodeJunction.{NodeJunction}
use Rattle.records.specs.declared.junction_ref.NodeJunctionRef.{NodeJunctionRef}
use Rattle.records.proofs.LittleEndian.{Stands, byte_below, number_below, bits_below, signed_back, signed_small}
use Rattle.records.proofs.Shape.{field_bytes, fields_at, Fit, none, field, fields_back}

-- ---- nodes

pub record NodeFits (n : Node) : Type 0 where
  pub unused0 : n.unused0 < 4294967296
  pub unused1 : n.unused1 < 4294967296
  pub unused2 : n.unused2 < 4294967296
  pub unused3 : n.unused3 < 4294967296
  pub area_id : n.area_id < 65536
  pub node_id : n.node_id < 65536
  pub street_name : n.street_name < 4294967296
  pub unused4 : n.unused4 < 65536
  pub link_id : n.link_id < 65536
  pub position_x : mag n.position_x < 32768
  pub position_y : mag n.position_y < 32768
  pub flags0 : n.flags0 < 256
  pub flags1 : n.flags1 < 256
  pub position_z : mag n.position_z < 32768
  pub flags2 : n.flags2 < 256
  pub link_count_flags : n.link_count_flags < 256
  pub flags3 : n.flags3 < 256
  pub flags4 : n.flags4 < 256

node_widths : List ℕ
node_widths = 4 ∷ 4 ∷ 4 ∷ 4 ∷ 2 ∷ 2 ∷ 4 ∷ 2 ∷ 2 ∷ 2 ∷ 2 ∷ 1 ∷ 1 ∷ 2 ∷ 1 ∷ 1 ∷ 1 ∷ 1 ∷ []

node_values : Node → List ℕ
node_values n = n.unused0 ∷ n.unused1 ∷ n.unused2 ∷ n.unused3 ∷ n.area_id ∷ n.node_id ∷ n.street_name ∷ n.unused4
    ∷ n.link_id ∷ bits16 n.position_x ∷ bits16 n.position_y ∷ n.flags0 ∷ n.flags1 ∷ bits16 n.position_z ∷ n.flags2
    ∷ n.link_count_flags ∷ n.flags3 ∷ n.flags4 ∷ []

node_of : List ℕ → Node
node_of vs = record {
  unused0 = get_or vs 0 0;
  unused1 = get_or vs 1 0;
  unused2 = get_or vs 2 0;
  unused3 = get_or vs 3 0;
  area_id = get_or vs 4 0;
  node_id = get_or vs 5 0;
  street_name = get_or vs 6 0;
  unused4 = get_or vs 7 0;
  link_id = get_or vs 8 0;
  position_x = signed16 (get_or vs 9 0);
  position_y = signed16 (get_or vs 10 0);
  flags0 = get_or vs 11 0;
  flags1 = get_or vs 12 0;
  position_z = signed16 (get_or vs 13 0);
  flags2 = get_or vs 14 0;
  link_count_flags = get_or vs 15 0;
  flags3 = get_or vs 16 0;
  flags4 = get_or vs 17 0;
}

node_fit : (n : Node) → NodeFits n → Fit node_widths (node_values n)
unfolding node_widths node_values
node_fit n h = field h.unused0 (field h.unused1 (field h.unused2
    (field h.unused3 (field h.area_id (field h.node_id (field h.street_name
    (field h.unused4 (field h.link_id (field (bits_below n.position_x h.position_x)
    (field (bits_below n.position_y h.position_y)
    (field h.flags0 (field h.flags1 (field (bits_below n.position_z h.position_z)
    (field h.flags2 (field h.link_count_flags (field h.flags3 (field h.flags4 none)))))))))))))))))

node_own : (n : Node) → NodeFits n → node_of (node_values n) ≡ n
unfolding node_of node_values
node_own n h = rw (
  signed_back n.position_x h.position_x,
  signed_back n.position_y h.position_y,
  signed_back
      n.position_z h.position_z,
)

pub node_back : (n : Node) → NodeFits n → (s : List ℕ) (at : ℕ) → Stands s at (node_bytes n) → node_at s at ≡ n
unfolding node_at node_bytes number_bytes node_of node_widths node_values fields_at field_bytes
node_back n h s at there = ap node_of (fields_back s at 0 (node_fit n h) there) ∙ node_own n h

-- what is read fits
pub node_fits_law : (s : List ℕ) (at : ℕ) → NodeFits (node_at s at)
unfolding node_at
node_fits_law s at = record {
  unused0 = number_below 4 s at;
  unused1 = number_below 4 s (at + 4);
  unused2 = number_below 4 s (at + 8);
  unused3 = number_below 4 s (at + 12);
  area_id = number_below 2 s (at + 16);
  node_id = number_below 2 s (at + 18);
  street_name = number_below 4 s (at + 20);
  unused4 = number_below 2 s (at + 24);
  link_id = number_below 2 s (at + 26);
  position_x = signed_small _ (number_below 2 s (at + 28));
  position_y = signed_small _ (number_below 2 s (at + 30));
  flags0 = byte_below s (at + 32);
  flags1 = byte_below s (at + 33);
  position_z = signed_small _ (number_below 2 s (at + 34));
  flags2 = byte_below s (at + 36);
  link_count_flags = byte_below s (at + 37);
  flags3 = byte_below s (at + 38);
  flags4 = byte_below s (at + 39);
}

pub node_length : (n : Node) → length (node_bytes n) ≡ node_size
unfolding node_bytes number_bytes
node_length n = refl

-- ---- links

pub record LinkFits (l : NodeLink) : Type 0 where
  pub area_id : l.area_id < 65536
  pub node_id : l.node_id < 65536
  pub flags0 : l.flags0 < 256
  pub flags1 : l.flags1 < 256
  pub flags2 : l.flags2 < 256
  pub link_length : l.link_length < 256

link_widths : List ℕ
link_widths = 2 ∷ 2 ∷ 1 ∷ 1 ∷ 1 ∷ 1 ∷ []

link_values : NodeLink → List ℕ
link_values l = l.area_id ∷ l.node_id ∷ l.flags0 ∷ l.flags1 ∷ l.flags2 ∷ l.link_length ∷ []

link_of : List ℕ → NodeLink
link_of vs = record {
  area_id = get_or vs 0 0;
  node_id = get_or vs 1 0;
  flags0 = get_or vs 2 0;
  flags1 = get_or vs 3 0;
  flags2 = get_or vs 4 0;
  link_length = get_or vs 5 0;
}

link_fit : (l : NodeLink) → LinkFits l → Fit link_widths (link_values l)
unfolding link_widths link_values
link_fit l h = field h.area_id (field h.node_id (field h.flags0
    (field h.flags1 (field h.flags2 (field h.link_length none)))))

link_own : (l : NodeLink) → LinkFits l → link_of (link_values l) ≡ l
unfolding link_of link_values
link_own l h = refl

pub link_back : (l : NodeLink) → LinkFits l → (s : List ℕ) (at : ℕ) → Stands s at (link_bytes l) → link_at s at ≡ l
unfolding link_at link_bytes number_bytes link_of link_widths link_values fields_at field_bytes
link_back l h s at there = ap link_of (fields_back s at 0 (link_fit l h) there) ∙ link_own l h

-- what is read fits
pub link_fits : (s : List ℕ) (at : ℕ) → LinkFits (link_at s at)
unfolding link_at
link_fits s at = record {
  area_id = number_below 2 s at;
  node_id = number_below 2 s (at + 2);
  flags0 = byte_below s (at + 4);
  flags1 = byte_below s (at + 5);
  flags2 = byte_below s (at + 6);
  link_length = byte_below s (at + 7);
}

pub link_length_law : (l : NodeLink) → length (link_bytes l) ≡ link_size
unfolding link_bytes number_bytes
link_length_law l = refl

-- ---- junctions

pub record JunctionFits (j : NodeJunction) : Type 0 where
  pub max_z : mag j.max_z < 32768
  pub position_x : mag j.position_x < 32768
  pub position_y : mag j.position_y < 32768
  pub min_z : mag j.min_z < 32768
  pub heightmap_ptr : j.heightmap_ptr < 65536
  pub heightmap_dim_x : j.heightmap_dim_x < 256
  pub heightmap_dim_y : j.heightmap_dim_y < 256

junction_widths : List ℕ
junction_widths = 2 ∷ 2 ∷ 2 ∷ 2 ∷ 2 ∷ 1 ∷ 1 ∷ []

junction_values : NodeJunction → List ℕ
junction_values j = bits16 j.max_z ∷ bits16 j.position_x ∷ bits16 j.position_y ∷ bits16 j.min_z ∷ j.heightmap_ptr
    ∷ j.heightmap_dim_x ∷ j.heightmap_dim_y ∷ []

junction_of : List ℕ → NodeJunction
junction_of vs = record {
  max_z = signed16 (get_or vs 0 0);
  position_x = signed16 (get_or vs 1 0);
  position_y = signed16 (get_or vs 2 0);
  min_z = signed16 (get_or vs 3 0);
  heightmap_ptr = get_or vs 4 0;
  heightmap_dim_x = get_or vs 5 0;
  heightmap_dim_y = get_or vs 6 0;
}

junction_fit : (j : NodeJunction) → JunctionFits j → Fit junction_widths (junction_values j)
unfolding junction_widths junction_values
junction_fit j h = field (bits_below j.max_z h.max_z)
    (field (bits_below j.position_x h.position_x)
    (field (bits_below j.position_y h.position_y)
    (field (bits_below j.min_z h.min_z)
    (field h.heightmap_ptr (field h.heightmap_dim_x (field h.heightmap_dim_y none))))))

junction_own : (j : NodeJunction) → JunctionFits j → junction_of (junction_values j) ≡ j
unfolding junction_of junction_values
junction_own j h =
    rw (
      signed_back j.max_z h.max_z,
      signed_back j.position_x h.position_x,
      signed_back j.position_y h.position_y,
      signed_back j.min_z h.min_z,
    )

pub junction_back : (j : NodeJunction) → JunctionFits j → (s : List ℕ) (at : ℕ) → Stands s at (junction_bytes j)
    → junction_at s at ≡ j
unfolding junction_at junction_bytes number_bytes junction_of junction_widths junction_values fields_at field_bytes
junction_back j h s at there = ap junction_of (fields_back s at 0 (junction_fit j h) there) ∙ junction_own j h

-- what is read fits
pub junction_fits : (s : List ℕ) (at : ℕ) → JunctionFits (junction_at s at)
unfolding junction_at
junction_fits s at = record {
  max_z = signed_small _ (number_below 2 s at);
  position_x = signed_small _ (number_below 2 s (at + 2));
  position_y = signed_small _ (number_below 2 s (at + 4));
  min_z = signed_small _ (number_below 2 s (at + 6));
  heightmap_ptr = number_below 2 s (at + 8);
  heightmap_dim_x = byte_below s (at + 10);
  heightmap_dim_y = byte_below s (at + 11);
}

pub junction_length : (j : NodeJunction) → length (junction_bytes j) ≡ junction_size
unfolding junction_bytes number_bytes
junction_length j = refl

-- ---- refs

pub record RefFits (r : NodeJunctionRef) : Type 0 where
  pub area_id : r.area_id < 65536
  pub node_id : r.node_id < 65536
  pub junction_id : r.junction_id < 65536
  pub unk0 : r.unk0 < 65536

ref_widths : List ℕ
ref_widths = 2 ∷ 2 ∷ 2 ∷ 2 ∷ []

ref_values : NodeJunctionRef → List ℕ
ref_values r = r.area_id ∷ r.node_id ∷ r.junction_id ∷ r.unk0 ∷ []

ref_of : List ℕ → NodeJunctionRef
ref_of vs = record {
  area_id = get_or vs 0 0;
  node_id = get_or vs 1 0;
  junction_id = get_or vs 2 0;
  unk0 = get_or vs 3 0;
}

ref_fit : (r : NodeJunctionRef) → RefFits r → Fit ref_widths (ref_values r)
unfolding ref_widths ref_values
ref_fit r h = field h.area_id (field h.node_id (field h.junction_id (field h.unk0 none)))

ref_own : (r : NodeJunctionRef) → RefFits r → ref_of (ref_values r) ≡ r
unfolding ref_of ref_values
ref_own r h = refl

pub ref_back : (r : NodeJunctionRef) → RefFits r → (s : List ℕ) (at : ℕ) → Stands s at (ref_bytes r) → ref_at s at ≡ r
unfolding ref_at ref_bytes number_bytes ref_of ref_widths ref_values fields_at field_bytes
ref_back r h s at there = ap ref_of (fields_back s at 0 (ref_fit r h) there) ∙ ref_own r h

-- what is read fits
pub ref_fits_law : (s : List ℕ) (at : ℕ) → RefFits (ref_at s at)
unfolding ref_at
ref_fits_law s at = record {
  area_id = number_below 2 s at;
  node_id = number_below 2 s (at + 2);
  junction_id = number_below 2 s (at + 4);
  unk0 = number_below 2 s (at + 6);
}

pub ref_length : (r : NodeJunctionRef) → length (ref_bytes r) ≡ ref_size
unfolding ref_bytes number_bytes
ref_length r = refl
