-- Section 4: where the blocks of a written section lie.
use Rattle.std.specs.Prelude.{ℕ, zero, suc, ◌+◌, ◌-◌, ◌*◌, ◌%◌, cond, List, [], ◌∷◌, ◌++◌, eqb, length, replicate}
use Rattle.records.specs.Records.{node_size, link_size, junction_size, ref_size}
use Rattle.records.specs.Root.{root_bytes}
use Rattle.records.specs.declared.root.Root.{Root}
use Rattle.records.specs.declared.layout.Places.{Places}

-- Section 4: the page block, 1,040 bytes, zero but for 128 at its offset 8.
unfoldable pub pages : List ℕ
pages = replicate 8 0 ++ (128 ∷ []) ++ replicate 1031 0

-- Section 4: the root's 112 bytes and the page block; the arrays come after them.
abbrev pub header_size : ℕ
header_size = 1152

unfoldable pub header_bytes : Root → List ℕ
header_bytes r = root_bytes r ++ pages

-- Section 4: the zero bytes between n and the next multiple of 16, where a block of that size starts. An empty one
-- has none.
unfoldable pub gap_for : ℕ → ℕ → ℕ
gap_for n size = cond (eqb size 0) 0 ((16 - n % 16) % 16)

unfoldable pub padded : ℕ → List ℕ → List ℕ
padded n b = replicate (gap_for n (length b)) 0 ++ b

-- where a block of that size starts, and where it ends, when the one before ends at n
unfoldable pub start_of : ℕ → ℕ → ℕ
start_of n size = cond (eqb size 0) 0 (n + gap_for n size)

abbrev pub end_of : ℕ → ℕ → ℕ
end_of n size = n + gap_for n size + size

-- Section 4: the blocks from the offset n on, each at the next multiple of 16.
unfoldable pub lay : ℕ → List (List ℕ) → List ℕ
lay n [] = []
lay n (b ∷ bs) = padded n b ++ lay (end_of n (length b)) bs

-- where block i starts, by the blocks' sizes; 0 for an empty one
unfoldable pub offset : ℕ → List ℕ → ℕ → ℕ
offset n [] i = 0
offset n (s ∷ ss) zero = start_of n s
offset n (s ∷ ss) (suc i) = offset (end_of n s) ss i

-- Section 4: the length ends with the last block.
unfoldable pub total : ℕ → List ℕ → ℕ
total n [] = n
total n (s ∷ ss) = total (end_of n s) ss

-- Section 4: an empty array has address 0.
unfoldable pub address : ℕ → ℕ
address o = cond (eqb o 0) 0 (0x50000000 + o)

-- Section 4: the order of the blocks: refs, heightmap bytes, junctions, links, nodes.
abbrev pub sizes : ℕ → ℕ → ℕ → ℕ → ℕ → List ℕ
sizes refs heightmap junctions links nodes =
    refs * ref_size ∷ heightmap ∷ junctions * junction_size ∷ links * link_size ∷ nodes * node_size ∷ []

-- the addresses and the length that sizes give, in that order
unfoldable pub places_of : List ℕ → Places
places_of ss = record {
  refs = address (offset header_size ss 0);
  heightmap = address (offset header_size ss 1);
  junctions = address (offset header_size ss 2);
  links = address (offset header_size ss 3);
  nodes = address (offset header_size ss 4);
  total = total header_size ss;
}

-- Section 4: the section with that root and these arrays.
unfoldable pub section_bytes : Root → List (List ℕ) → List ℕ
section_bytes r bs = header_bytes r ++ lay header_size bs
