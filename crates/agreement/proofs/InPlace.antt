-- What the bytes of an array are: those of its section from its offset on.
-- Assumes nothing.
use Prim.Native.Nat.{ℕ, ◌+◌, ◌*◌, ◌/◌, ◌%◌, ◌≤◌, ◌<◌}
use native.Mathlib.Omega.{arith}
use mathlib.Core.Path.{◌≡◌, refl, sym, ap, ◌∙◌, subst}
use mathlib.Core.Bool.{Bool, true, false, cond}
use mathlib.Core.List.{List, []}
use lib.Bits.{bit_and}
use lib.Dec.{leb, eqb}
use lib.ListN.{length, take, drop, length-take, length-drop}
use lib.Seq.{get_or-take, get_or-drop}
use borrow.Author.Tests.{leb-true, le-leb}
use Rattle.records.specs.Bytes.{byte_at}
use Rattle.records.specs.Sections.{pick, inside_of, empty_part, located, extent, section_of, bytes_of, part_bytes}
use Rattle.records.specs.Sections.{array_at}
use Rattle.records.specs.declared.section.Section.{Section}
use Rattle.records.specs.declared.section.Section.TheVariants.{System, Graphics}
use Rattle.records.specs.declared.section.Part.{Part}
use Rattle.cells.specs.Checks.{root_read}
use Rattle.cells.proofs.Reading.Undrawn.{root_drawn}
use Rattle.records.specs.declared.root.Root.{Root}
use Rattle.agreement.specs.Agree.{left_out, InSomeNode, InSomeJunction, SameArrays, Agree}
use Rattle.cells.specs.FileCauses.{Arrays, arrays_of}
use Rattle.agreement.proofs.SameBytes.{anywhere}
use Rattle.agreement.proofs.SameRoots.{root_same}
use Rattle.agreement.proofs.Agreed.{Places, places_by}
use Rattle.std.specs.Prelude.{Option, Some, None}

abbrev size_of : Section → ℕ → ℕ → ℕ
size_of System s g = s
size_of Graphics s g = g

-- a part that ends inside its section
abbrev Inside : ℕ → ℕ → Part → Type 0
Inside s g p = p.offset + p.len ≤ size_of p.section s g

-- so is whatever part l is, if any
abbrev Only : ℕ → ℕ → Option Part → Type 0
Only s g l = (p : Part) → l ≡ Some p → Inside s g p

same_part : (p q : Part) → Some p ≡ Some q → p ≡ q
same_part p q e = cc

at_only : (s g : ℕ) (p : Part) → Inside s g p → Only s g (Some p)
at_only s g p h q e = subst (Inside s g) (same_part p q e) h

bad_only : (s g : ℕ) → Only s g None
bad_only s g p e = let z : ◌≡◌ {A = ℕ} 0 1 = cc in absurd (omega arith)

pick_only : (s g : ℕ) (b : Bool) (x y : Option Part) → Only s g x → Only s g y → Only s g (pick b x y)
pick_only s g true x y hx hy = hx
pick_only s g false x y hx hy = hy

inside_only : (s g : ℕ) (k : Section) (offset len : ℕ) → Only s g (inside_of k offset len (size_of k s g))
inside_only s g k offset len = go (leb (offset + len) (size_of k s g)) refl
  where
    go : (b : Bool) → leb (offset + len) (size_of k s g) ≡ b
        → Only s g (pick b (Some (record { section = k; offset = offset; len = len })) None)
    go true e = at_only s g (record { section = k; offset = offset; len = len })
        (leb-true (offset + len) (size_of k s g) e)
    go false e = bad_only s g

empty_only : (s g : ℕ) → Only s g (Some empty_part)
empty_only s g = at_only s g empty_part (omega arith)

pub located_inside : (address count width s g : ℕ) → Only s g (located address count width s g)
unfolding located
located_inside address count width s g =
    let o = address % 0x1000_0000 in
    let n = count * width in
    let inGraphics = pick (eqb (bit_and address 0xF000_0000) 0x6000_0000) (inside_of Graphics o n g) None in
    let inSystem = pick (eqb (bit_and address 0xF000_0000) 0x5000_0000) (inside_of System o n s) inGraphics in
    let high = pick (leb 0x1_0000_0000 address) None inSystem in
    pick_only s g (eqb address 0) (Some empty_part) (pick (eqb count 0) (Some empty_part) high) (empty_only s g)
    (pick_only s g (eqb count 0) (Some empty_part) high (empty_only s g)
    (pick_only s g (leb 0x1_0000_0000 address) None inSystem (bad_only s g)
    (pick_only s g (eqb (bit_and address 0xF000_0000) 0x5000_0000) (inside_of System o n s) inGraphics
    (inside_only s g System o n)
    (pick_only s g (eqb (bit_and address 0xF000_0000) 0x6000_0000) (inside_of Graphics o n g) None
    (inside_only s g Graphics o n) (bad_only s g)))))

section_long : (k : Section) (s g : List ℕ) → length (section_of k s g) ≡ size_of k (length s) (length g)
section_long System s g = refl
section_long Graphics s g = refl

module _ (address count width : ℕ) (s g : List ℕ) (p : Part)
    (here : located address count width (length s) (length g) ≡ Some p) where
  inside : p.offset + p.len ≤ length (section_of p.section s g)
  inside = omega (arith, located_inside address count width (length s) (length g) p here, section_long p.section s g)

  -- the array: so many bytes of the section from the offset on
  pub array_is : array_at address count width s g ≡ take p.len (drop p.offset (section_of p.section s g))
  unfolding array_at bytes_of extent
  array_is =
      (λ i. part_bytes (here i) s g)
      ∙ ap (λ (b : Bool). cond b (take p.len (drop p.offset (section_of p.section s g))) [])
      (le-leb (p.offset + p.len) (length (section_of p.section s g)) inside)

  pub array_long : length (array_at address count width s g) ≡ p.len
  array_long =
      ap length array_is
      ∙ omega (
        arith,
        inside,
        length-take p.len (drop p.offset (section_of p.section s g)),
        length-drop p.offset
            (section_of p.section s g),
      )

  pub array_byte : (k : ℕ) → k < p.len → byte_at (array_at address count width s g) k
      ≡ byte_at (section_of p.section s g) (p.offset + k)
  array_byte k h =
      ap (λ (l : List ℕ). byte_at l k) array_is
      ∙ ap (λ (x : ℕ). x % 256) (get_or-take p.len (drop p.offset (section_of p.section s g)) k 0 h
      ∙ get_or-drop p.offset (section_of p.section s g) k 0)

-- a bad array has no bytes
pub array_bad : (address count width : ℕ) (s g : List ℕ) → located address count width (length s) (length g) ≡ None
    → array_at address count width s g ≡ []
unfolding array_at
array_bad address count width s g e = λ i. part_bytes (e i) s g

-- ---- agreement, asked of the sections' own bytes

-- where an array lies, the bytes that count are the same in both sections
abbrev pub SameAt : Option Part → (ℕ → Type 0) → List ℕ → List ℕ → List ℕ → List ℕ → Type 0
SameAt l counts s g s' g' =
    (p : Part) → l ≡ Some p → (k : ℕ) → k < p.len → counts k → byte_at (section_of p.section s g) (p.offset + k)
    ≡ byte_at (section_of p.section s' g') (p.offset + k)

pub record SamePlaces (s g s' g' : List ℕ) (p : Places) (a : Arrays) : Type 0 where
  pub nodes : SameAt p.nodes (λ k. Unit {0}) s g s' g'
  pub links : SameAt p.links (λ k. InSomeNode a.nodes (k / 8)) s g s' g'
  pub junctions : SameAt p.junctions (λ k. Unit {0}) s g s' g'
  pub heights : SameAt p.heights (λ k. InSomeJunction a.junctions k) s g s' g'
  pub refs : SameAt p.refs (λ k. Unit {0}) s g s' g'

module _ (s g s' g' : List ℕ) (es : length s ≡ length s') (eg : length g ≡ length g') where
  array_agrees : (address count width : ℕ) (counts : ℕ → Type 0)
      → SameAt (located address count width (length s) (length g)) counts s g s' g'
      → (k : ℕ) → k < length (array_at address count width s g) → counts k
      → byte_at (array_at address count width s g) k ≡ byte_at (array_at address count width s' g') k
  array_agrees address count width counts same k h c = go (located address count width (length s) (length g)) refl
    where
      go : (l : Option Part) → located address count width (length s) (length g) ≡ l
          → byte_at (array_at address count width s g) k ≡ byte_at (array_at address count width s' g') k
      go None e = absurd (omega (arith, ap length (array_bad address count width s g e)))
      go (Some p) e =
          let e' : located address count width (length s') (length g')
          ≡ Some p = (λ i. located address count width (sym es i) (sym eg i)) ∙ e in
          let lt : k < p.len = omega (arith, array_long address count width s g p e) in
          array_byte address count width s g p e k lt ∙ same p e k lt c
          ∙ sym (array_byte address count width s' g' p e' k lt)

  -- equal lengths, the same root bytes, and the same bytes where the arrays lie: the sections agree
  pub agree_in_place : 0 < length s → ((k : ℕ) → k < 112 → k < length s → left_out k ≡ false → byte_at s k
      ≡ byte_at s' k)
      → SamePlaces s g s' g' (places_by (root_read s) (length s) (length g)) (arrays_of s g) → Agree s g s' g'
  unfolding arrays_of
  agree_in_place some root same = record {
    same_system = es;
    same_graphics = eg;
    not_empty = some;
    same_root = root;
    same_arrays = λ h. subst (SameArrays (arrays_of s g)) (λ i. arrays_by (roots i)) arrays;
  }
    where
      roots : root_read s ≡ root_read s'
      roots =
          root_drawn s some
          ∙ root_same s s' (λ k low counts. anywhere s s' es k (λ inside. root k low inside counts))
          ∙ sym (root_drawn s' (omega (arith, some, es)))

      arrays_by : Root → Arrays
      arrays_by r = record {
        nodes = array_at r.nodes r.node_count 40 s' g';
        links = array_at r.links r.link_count 8 s' g';
        junctions = array_at r.junctions r.junction_count 12 s' g';
        heights = array_at r.heightmap r.heightmap_count 1 s' g';
        refs = array_at r.refs r.ref_count 8 s' g';
      }

      arrays : SameArrays (arrays_of s g) (arrays_by (root_read s))
      arrays =
          let r = root_read s in
          record {
            nodes = λ k h. array_agrees r.nodes r.node_count 40 (λ q. Unit {0}) same.nodes k h tt;
            links = λ k h c. array_agrees r.links r.link_count 8 (λ q. InSomeNode (arrays_of s g).nodes (q / 8))
                same.links k h c;
            junctions = λ k h. array_agrees r.junctions r.junction_count 12 (λ q. Unit {0}) same.junctions k h tt;
            heights = λ k h c. array_agrees r.heightmap r.heightmap_count 1
                (λ q. InSomeJunction (arrays_of s g).junctions q) same.heights k h c;
            refs = λ k h. array_agrees r.refs r.ref_count 8 (λ q. Unit {0}) same.refs k h tt;
          }
