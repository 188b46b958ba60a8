-- Closed cases over the definitions, by computing them.
use Prim.Native.Nat.{ℕ, zero, suc, ◌+◌, ◌*◌}
use mathlib.Core.Path.{◌≡◌, refl}
use mathlib.Core.List.{List, [], ◌∷◌}
use lib.IntN.{pos}
use Rattle.records.specs.Bytes.{number_at, number_bytes, bits16}
use Rattle.records.specs.Root.{unknowns_of, root_of}
use Rattle.records.specs.Records.{junction_bytes}
use Rattle.records.specs.Sections.{empty_part, located}
use Rattle.records.specs.Layout.{gap_for, padded, lay, start_of, offset, total, address, sizes, places_of}
use Rattle.records.specs.declared.section.Section.TheVariants.{Graphics}
use Rattle.std.specs.Prelude.{Some, None}

-- ---- section 1, in a system section of 112 bytes and a graphics section of 16

-- 0x70000000 is no address of the graphics section
seven : located 0x7000_0000 1 8 112 16 ≡ None
unfolding located
seven = refl

six : located 0x6000_0008 1 8 112 16 ≡ Some (record { section = Graphics; offset = 8; len = 8 })
unfolding located
six = refl

-- one byte too far
over : located 0x6000_0009 1 8 112 16 ≡ None
unfolding located
over = refl

-- bits 32 to 63
high : located 0x1_5000_0000 1 8 112 16 ≡ None
unfolding located
high = refl

-- an empty array before any other check
null : located 0 4294967295 40 112 16 ≡ Some empty_part
unfolding located
null = refl

no_entries : located 0x7000_0000 0 40 112 16 ≡ Some empty_part
unfolding located
no_entries = refl

-- ---- section 4: one node without links

bare_length : (places_of (sizes 0 0 0 0 1)).total ≡ 1192
unfolding places_of total gap_for
bare_length = refl

bare_address : (places_of (sizes 0 0 0 0 1)).nodes ≡ 0x5000_0480
unfolding places_of offset start_of gap_for address
bare_address = refl

-- a heightmap of one value, 77, and one byte, 9, as the next block: fifteen zeros stand between them
gap_zeros : lay 1152 ((77 ∷ []) ∷ (9 ∷ []) ∷ [])
    ≡ 77 ∷ 0 ∷ 0 ∷ 0 ∷ 0 ∷ 0 ∷ 0 ∷ 0 ∷ 0 ∷ 0 ∷ 0 ∷ 0 ∷ 0 ∷ 0 ∷ 0 ∷ 0 ∷ 9 ∷ []
unfolding lay padded gap_for
gap_zeros = refl

-- ---- section 2: the root's offsets, over the bytes 0, 1, .. 111

counting : ℕ → ℕ → List ℕ
counting k zero = []
counting k (suc n) = k ∷ counting (suc k) n

-- the number of 16, 32 or 64 bits at an offset of them
abbrev at16 : ℕ → ℕ
at16 o = o + (o + 1) * 256

abbrev at32 : ℕ → ℕ
at32 o = at16 o + at16 (o + 2) * 65536

abbrev at64 : ℕ → ℕ
at64 o = at32 o + at32 (o + 4) * 4294967296

root_offsets : root_of (counting 0 112)
    ≡ record {
      vft = at32 0;
      nodes = at64 16;
      node_count = at32 24;
      vehicle_node_count = at32 28;
      ped_node_count = at32 32;
      links = at64 40;
      link_count = at32 48;
      junctions = at64 56;
      heightmap = at64 64;
      refs = at64 80;
      ref_count = at16 90;
      junction_count = at32 96;
      heightmap_count = at32 100;
      unknowns = at32 36 ∷ at32 52 ∷ at32 72 ∷ at32 76 ∷ at32 92 ∷ at32 104 ∷ at32 108 ∷ [];
    }
unfolding root_of unknowns_of number_at counting
root_offsets = refl

-- a junction's fields, in the file's order
junction_fields : junction_bytes (record {
  max_z = pos 1;
  position_x = pos 2;
  position_y = pos 3;
  min_z = pos 4;
  heightmap_ptr = 5;
  heightmap_dim_x = 6;
  heightmap_dim_y = 7;
}) ≡ 1 ∷ 0 ∷ 2 ∷ 0 ∷ 3 ∷ 0 ∷ 4 ∷ 0 ∷ 5 ∷ 0 ∷ 6 ∷ 7 ∷ []
unfolding junction_bytes number_bytes bits16
junction_fields = refl
