-- Numbers and records read from bytes that are the same.
-- Assumes nothing.
use Prim.Native.Nat.{ℕ, zero, suc, ◌+◌, ◌*◌, ◌%◌, ◌≤◌, ◌<◌}
use native.Mathlib.Omega.{arith}
use mathlib.Core.Path.{◌≡◌, refl, sym, ap, ◌∙◌}
use mathlib.Core.Bool.{Bool, true, false, cond}
use mathlib.Core.List.{List, []}
use lib.Dec.{leb, ltb}
use lib.ListN.{length, take, drop, length-take, length-drop, get_or-eq_default}
use borrow.Author.Tests.{ltb-true, ltb-false}
use Rattle.records.specs.Bytes.{byte_at, number_at, signed16}
use Rattle.records.specs.Sections.{extent, section_of, bytes_of}
use Rattle.records.specs.Records.{node_at, link_at, junction_at, ref_at}
use Rattle.records.specs.declared.section.Section.{Section}
use Rattle.records.specs.declared.section.Section.TheVariants.{System, Graphics}
use Rattle.records.specs.declared.section.Part.{Part}

-- two lists of equal length agree at a place if they do where it is one of them: past the end both are 0
pub anywhere : (a b : List ℕ) → length a ≡ length b → (k : ℕ) → (k < length a → byte_at a k ≡ byte_at b k)
    → byte_at a k ≡ byte_at b k
anywhere a b e k h = go (ltb k (length a)) refl
  where
    go : (t : Bool) → ltb k (length a) ≡ t → byte_at a k ≡ byte_at b k
    go true q = h (ltb-true k (length a) q)
    go false q =
        let past : length a ≤ k = ltb-false k (length a) q in
        let past' : length b ≤ k = omega arith in
        ap (λ (x : ℕ). x % 256) (get_or-eq_default a 0 {n = k} past ∙ sym (get_or-eq_default b 0 {n = k} past'))

-- a number of so many bytes
pub number_same : (width : ℕ) (a b : List ℕ) (at : ℕ)
    → ((k : ℕ) → at ≤ k → k < at + width → byte_at a k ≡ byte_at b k) → number_at width a at ≡ number_at width b at
unfolding number_at
number_same zero a b at h = refl
number_same (suc w) a b at h =
    λ i. h at (omega arith) (omega arith) i
    + 256 * number_same w a b (at + 1) (λ k low high. h k (omega arith) (omega arith)) i

-- a record
pub link_same : (a b : List ℕ) (at : ℕ) → ((k : ℕ) → at ≤ k → k < at + 8 → byte_at a k ≡ byte_at b k) → link_at a at
    ≡ link_at b at
unfolding link_at
link_same a b at h = λ i. record {
  area_id = number_same 2 a b at (λ k low high. h k (omega arith) (omega arith)) i;
  node_id = number_same 2 a b (at + 2) (λ k low high. h k (omega arith) (omega arith)) i;
  flags0 = h (at + 4) (omega arith) (omega arith) i;
  flags1 = h (at + 5) (omega arith) (omega arith) i;
  flags2 = h (at + 6) (omega arith) (omega arith) i;
  link_length = h (at + 7) (omega arith) (omega arith) i;
}

module _ (a b : List ℕ) (h : (k : ℕ) → byte_at a k ≡ byte_at b k) where
  number : (width at : ℕ) → number_at width a at ≡ number_at width b at
  number width at = number_same width a b at (λ k low high. h k)

  pub node_same : (at : ℕ) → node_at a at ≡ node_at b at
  unfolding node_at
  node_same at = λ i. record {
    unused0 = number 4 at i;
    unused1 = number 4 (at + 4) i;
    unused2 = number 4 (at + 8) i;
    unused3 = number 4 (at + 12) i;
    area_id = number 2 (at + 16) i;
    node_id = number 2 (at + 18) i;
    street_name = number 4 (at + 20) i;
    unused4 = number 2 (at + 24) i;
    link_id = number 2 (at + 26) i;
    position_x = signed16 (number 2 (at + 28) i);
    position_y = signed16 (number 2 (at + 30) i);
    flags0 = h (at + 32) i;
    flags1 = h (at + 33) i;
    position_z = signed16 (number 2 (at + 34) i);
    flags2 = h (at + 36) i;
    link_count_flags = h (at + 37) i;
    flags3 = h (at + 38) i;
    flags4 = h (at + 39) i;
  }

  pub junction_same : (at : ℕ) → junction_at a at ≡ junction_at b at
  unfolding junction_at
  junction_same at = λ i. record {
    max_z = signed16 (number 2 at i);
    position_x = signed16 (number 2 (at + 2) i);
    position_y = signed16 (number 2 (at + 4) i);
    min_z = signed16 (number 2 (at + 6) i);
    heightmap_ptr = number 2 (at + 8) i;
    heightmap_dim_x = h (at + 10) i;
    heightmap_dim_y = h (at + 11) i;
  }

  pub ref_same : (at : ℕ) → ref_at a at ≡ ref_at b at
  unfolding ref_at
  ref_same at = λ i. record {
    area_id = number 2 at i;
    node_id = number 2 (at + 2) i;
    junction_id = number 2
        (at + 4) i;
    unk0 = number 2 (at + 6) i;
  }

-- ---- a part of two sections of equal length is equally long

extent_long : (o n : ℕ) (a b : List ℕ) → length a ≡ length b → length (extent o n a) ≡ length (extent o n b)
unfolding extent
extent_long o n a b e = go (leb (o + n) (length a))
    ∙ ap (λ (k : ℕ). length (cond (leb (o + n) k) (take n (drop o b)) [])) e
  where
    go : (t : Bool) → length (cond t (take n (drop o a)) []) ≡ length (cond t (take n (drop o b)) [])
    go true = omega (arith, length-take n (drop o a), length-take n (drop o b), length-drop o a, length-drop o b)
    go false = refl

pub part_long : (p : Part) (s g s' g' : List ℕ) → length s ≡ length s' → length g ≡ length g'
    → length (bytes_of p s g) ≡ length (bytes_of p s' g')
unfolding bytes_of
part_long p s g s' g' es eg = go p.section
  where
    go : (k : Section) → length (extent p.offset p.len (section_of k s g))
        ≡ length (extent p.offset p.len (section_of k s' g'))
    go System = extent_long p.offset p.len s s' es
    go Graphics = extent_long p.offset p.len g g' eg
