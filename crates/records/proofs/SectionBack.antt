-- Reading a written section: each array is found at its address, and the root at its start.
use Prim.Native.Nat.{ℕ, zero, suc, ◌+◌, ◌*◌, ◌/◌, ◌%◌, ◌≤◌}
use native.Mathlib.Omega.{arith}
use mathlib.Core.Path.{◌≡◌, refl, sym, ap, ◌∙◌}
use mathlib.Core.List.{List, [], ◌++◌, map, append_assoc, append-nil}
use lib.Bits.{bit_and, and_high}
use lib.ListN.{length, get_or, take, drop, get_or-map}
use borrow.Author.Tests.{eq-eqb, ne_eqb, le-leb, lt-leb}
use Rattle.records.specs.Sections.{located, extent, bytes_of, part_bytes, array_at}
use Rattle.records.specs.Root.{root_of, root_bytes}
use Rattle.records.specs.Layout.{pages, header_size, header_bytes, lay, offset, address, section_bytes}
use Rattle.records.specs.declared.root.Root.{Root}
use Rattle.records.specs.declared.section.Section.TheVariants.{System}
use Rattle.records.specs.declared.section.Part.{Part}
use Rattle.std.specs.Prelude.{Option}
use Rattle.std.specs.Prelude.{Some}
use Rattle.records.proofs.Laid.{past, none_at, within, section_length, found_in}
use Rattle.records.proofs.RootBack.{RootFits, root_back}

abbrev pub system_part : ℕ → ℕ → Part
system_part offset len = record { section = System; offset = offset; len = len }

-- an address of the system section, for an array that ends inside
pub located_here : (o count width n g : ℕ) → o + count * width ≤ n → n ≤ 0x1000_0000 → (count * width ≡ 0 → ⊥)
    → located (0x50000000 + o) count width n g ≡ Some (system_part o (count * width))
unfolding located
located_here o count width n g inside small some =
    let a = 0x50000000 + o in
    let five : a / 0x1000_0000 ≡ 5 = omega arith in
    let base : bit_and a 0xF000_0000 ≡ 0x5000_0000 = and_high a 4 28 ∙ ap (λ (k : ℕ). k % 16 * 0x1000_0000) five in
    let rest : a % 0x1000_0000 ≡ o = omega arith in
    rw (
      ne_eqb a 0 (λ e. omega arith),
      ne_eqb count 0 (λ e. some (ap (λ (k : ℕ). k * width) e ∙ omega arith)),
      lt-leb 0x1_0000_0000 a (omega arith),
      eq-eqb (bit_and a 0xF000_0000) 0x5000_0000 base,
      le-leb (a % 0x1000_0000 + count * width) n (omega arith),
    )
    (ap (λ (k : ℕ). Some (system_part k (count * width))) rest)

module _ (r : Root) (bs : List (List ℕ)) (small : length (section_bytes r bs) ≤ 0x1000_0000) where
  -- where block i lies
  abbrev pub block_part : ℕ → Part
  block_part i = system_part (offset header_size (map length bs) i) (length (get_or bs i []))

  size : (i : ℕ) → get_or (map length bs) i 0 ≡ length (get_or bs i [])
  size i = get_or-map length bs i []

  pub block_inside : (i : ℕ) → offset header_size (map length bs) i + length (get_or bs i [])
      ≤ length (section_bytes r bs)
  block_inside i = omega (arith, within header_size (map length bs) i, section_length r bs, size i)

  -- its address names that part
  pub located_back : (i count width g : ℕ) → length (get_or bs i []) ≡ count * width
      → located (address (offset header_size (map length bs) i)) count width (length (section_bytes r bs)) g
      ≡ Some (block_part i)
  unfolding address located
  located_back i count width g long = go (length (get_or bs i [])) refl
    where
      go : (n : ℕ) → length (get_or bs i []) ≡ n
          → located (address (offset header_size (map length bs) i)) count width (length (section_bytes r bs)) g
          ≡ Some (block_part i)
      go zero e =
          let none : offset header_size (map length bs) i ≡ 0 = none_at header_size (map length bs) i (size i ∙ e) in
          (λ k. located (address (none k)) count width (length (section_bytes r bs)) g)
          ∙ (λ k. Some (system_part (sym none k) (sym e k)))
      go (suc n) e =
          let o = offset header_size (map length bs) i in
          let far : header_size ≤ o = past header_size (map length bs) i (λ z. omega (arith, size i)) in
          rw (ne_eqb o 0 (λ z. omega arith))
          (located_here o count width (length (section_bytes r bs)) g (omega (arith, block_inside i)) small
          (λ z. omega arith) ∙ ap (λ (k : ℕ). Some (system_part o k)) (sym long))

  -- and that part is the block
  pub bytes_back : (i : ℕ) (g : List ℕ) → bytes_of (block_part i) (section_bytes r bs) g ≡ get_or bs i []
  unfolding bytes_of extent
  bytes_back i g =
      rw (le-leb (offset header_size (map length bs) i + length (get_or bs i [])) (length (section_bytes r bs))
      (block_inside i))
      (ap (λ (l : List ℕ). take (length (get_or bs i [])) (drop (offset header_size (map length bs) i) l))
      (sym (append-nil (section_bytes r bs))) ∙ found_in r bs [] i)

  pub array_back : (i count width : ℕ) (g : List ℕ) → length (get_or bs i []) ≡ count * width
      → array_at (address (offset header_size (map length bs) i)) count width (section_bytes r bs) g ≡ get_or bs i []
  unfolding array_at
  array_back i count width g long = ap (λ (l : Option Part). part_bytes l (section_bytes r bs) g)
      (located_back i count width (length g) long) ∙ bytes_back i g

-- the root is read back from the section
pub root_in : (r : Root) (bs : List (List ℕ)) (rest : List ℕ) → RootFits r → root_of (section_bytes r bs ++ rest) ≡ r
unfolding section_bytes header_bytes
root_in r bs rest h =
    ap root_of (append_assoc (root_bytes r ++ pages) (lay header_size bs) rest
    ∙ append_assoc (root_bytes r) pages (lay header_size bs ++ rest))
    ∙ root_back r h (pages ++ (lay header_size bs ++ rest))
