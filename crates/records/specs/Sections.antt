-- Section 1: which part of which section an address names.
use Rattle.std.specs.Prelude.{ℕ, ◌+◌, ◌*◌, ◌%◌, Bool, true, false, cond, List, [], length, take, drop, leb, eqb}
use Rattle.std.specs.Int.Bits.{bit_and}
use Rattle.records.specs.declared.section.Section.{Section}
use Rattle.records.specs.declared.section.Section.TheVariants.{System, Graphics}
use Rattle.records.specs.declared.section.Part.{Part}
use Rattle.std.specs.Prelude.{Option}
use Rattle.std.specs.Prelude.{Some, None}

abbrev pub pick : Bool → Option Part → Option Part → Option Part
pick true a b = a
pick false a b = b

-- Section 1: the part from offset to offset + len of a section of n bytes, when it ends inside.
abbrev pub inside_of : Section → ℕ → ℕ → ℕ → Option Part
inside_of section offset len n =
    pick (leb (offset + len) n) (Some (record { section = section; offset = offset; len = len })) None

abbrev pub empty_part : Part
empty_part = record { section = System; offset = 0; len = 0 }

-- Section 1: an array of `count` entries of `width` bytes at an address; the sections have s and g bytes.
-- Address 0 or count 0 is the empty array before any other check. Bits 32 to 63 must be zero. Masked by 0xF0000000,
-- 0x50000000 means system and 0x60000000 graphics; the rest is the offset.
unfoldable pub located : ℕ → ℕ → ℕ → ℕ → ℕ → Option Part
located address count width s g =
    pick (eqb address 0) (Some empty_part)
    (pick (eqb count 0) (Some empty_part)
    (pick (leb 0x1_0000_0000 address) None
    (pick (eqb (bit_and address 0xF000_0000) 0x5000_0000) (inside_of System (address % 0x1000_0000) (count * width) s)
    (pick (eqb (bit_and address 0xF000_0000) 0x6000_0000)
    (inside_of Graphics (address % 0x1000_0000) (count * width) g)
    None))))

-- Section 1: the part of a list from offset to offset + len, nothing where it doesn't end inside.
unfoldable pub extent : ℕ → ℕ → List ℕ → List ℕ
extent offset len l = cond (leb (offset + len) (length l)) (take len (drop offset l)) []

abbrev pub section_of : Section → List ℕ → List ℕ → List ℕ
section_of System s g = s
section_of Graphics s g = g

-- Section 1: the bytes of a part of whichever section it names.
unfoldable pub bytes_of : Part → List ℕ → List ℕ → List ℕ
unfolding extent
bytes_of p s g = extent p.offset p.len (section_of p.section s g)

abbrev pub part_bytes : Option Part → List ℕ → List ℕ → List ℕ
part_bytes (Some p) s g = bytes_of p s g
part_bytes None s g = []

-- Section 1: an array's bytes, none where its address or extent is bad.
unfoldable pub array_at : ℕ → ℕ → ℕ → List ℕ → List ℕ → List ℕ
array_at address count width s g = part_bytes (located address count width (length s) (length g)) s g
