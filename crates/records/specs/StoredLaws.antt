-- Laws of what a section stores: those of the trait `Stored`.
use Rattle.std.specs.Prelude.{◌≡◌, ℕ, zero, suc, ◌+◌, ◌*◌, ◌/◌, ◌≤◌, List, length, refl}
use Rattle.std.proofs.Common.{ap, ◌∙◌, add-zero, arith}
use Rattle.records.specs.Bytes.{byte_at, number_at, number_bytes, le16, le32, le64, signed16, Window}
use Rattle.records.specs.Records.{node_at, node_bytes, link_at, link_bytes}
use Rattle.records.specs.Records.{junction_at, junction_bytes, ref_at, ref_bytes}
use Rattle.records.specs.declared.node.Node.{Node}
use Rattle.records.specs.declared.link.NodeLink.{NodeLink}
use Rattle.records.specs.declared.junction.NodeJunction.{NodeJunction}
use Rattle.records.specs.declared.junction_ref.NodeJunctionRef.{NodeJunctionRef}

-- ---- the bytes of a value

pub bytes_long : (w n : ℕ) → length (number_bytes w n) ≡ w
unfolding number_bytes
bytes_long zero n = refl
bytes_long (suc w) n = ap suc (bytes_long w (n / 256))

pub node_long : (n : Node) → length (node_bytes n) ≡ 40
unfolding node_bytes number_bytes
node_long n = refl

pub link_long : (l : NodeLink) → length (link_bytes l) ≡ 8
unfolding link_bytes number_bytes
link_long l = refl

pub junction_long : (j : NodeJunction) → length (junction_bytes j) ≡ 12
unfolding junction_bytes number_bytes
junction_long j = refl

pub ref_long : (r : NodeJunctionRef) → length (ref_bytes r) ≡ 8
unfolding ref_bytes number_bytes
ref_long r = refl

-- ---- in 40 bytes of a list a value is what it is in the list

module _ (s : List ℕ) (at : ℕ) (b : List ℕ) (same : Window s at b) where
  number_same : (w o : ℕ) → o + w ≤ 40 → number_at w b o ≡ number_at w s (at + o)
  unfolding number_at
  number_same zero o h = refl
  number_same (suc w) o h =
      let here : byte_at b o ≡ byte_at s (at + o) = same o (omega arith) in
      let next : at + (o + 1) ≡ at + o + 1 = omega arith in
      let rest : number_at w b (o + 1) ≡ number_at w s (at + o + 1)
      = number_same w (o + 1) (omega arith) ∙ ap (number_at w s) next in
      λ i. here i + 256 * rest i

  first_same : (w : ℕ) → w ≤ 40 → number_at w b 0 ≡ number_at w s at
  first_same w h = number_same w 0 (omega arith) ∙ ap (number_at w s) (add-zero at)

  pub byte_same : byte_at b 0 ≡ byte_at s at
  byte_same = same 0 (omega arith) ∙ ap (byte_at s) (add-zero at)

  pub le16_same : le16 b 0 ≡ le16 s at
  le16_same = first_same 2 (omega arith)

  pub le32_same : le32 b 0 ≡ le32 s at
  le32_same = first_same 4 (omega arith)

  pub le64_same : le64 b 0 ≡ le64 s at
  le64_same = first_same 8 (omega arith)

  pub signed_same : signed16 (le16 b 0) ≡ signed16 (le16 s at)
  signed_same = ap signed16 le16_same

  pub node_same : node_at b 0 ≡ node_at s at
  unfolding node_at
  node_same = λ i. record {
    unused0 = first_same 4 (omega arith) i;
    unused1 = number_same 4 4 (omega arith) i;
    unused2 = number_same 4 8 (omega arith) i;
    unused3 = number_same 4 12 (omega arith) i;
    area_id = number_same 2 16 (omega arith) i;
    node_id = number_same 2 18 (omega arith) i;
    street_name = number_same 4 20 (omega arith) i;
    unused4 = number_same 2 24 (omega arith) i;
    link_id = number_same 2 26 (omega arith) i;
    position_x = signed16 (number_same 2 28 (omega arith) i);
    position_y = signed16 (number_same 2 30 (omega arith) i);
    flags0 = same 32 (omega arith) i;
    flags1 = same 33 (omega arith) i;
    position_z = signed16 (number_same 2 34 (omega arith) i);
    flags2 = same 36 (omega arith) i;
    link_count_flags = same 37 (omega arith) i;
    flags3 = same 38 (omega arith) i;
    flags4 = same 39 (omega arith) i;
  }

  pub link_same : link_at b 0 ≡ link_at s at
  unfolding link_at
  link_same = λ i. record {
    area_id = first_same 2 (omega arith) i;
    node_id = number_same 2 2 (omega arith) i;
    flags0 = same 4 (omega arith) i;
    flags1 = same 5 (omega arith) i;
    flags2 = same 6 (omega arith) i;
    link_length = same 7 (omega arith) i;
  }

  pub junction_same : junction_at b 0 ≡ junction_at s at
  unfolding junction_at
  junction_same = λ i. record {
    max_z = signed16 (first_same 2 (omega arith) i);
    position_x = signed16 (number_same 2 2 (omega arith) i);
    position_y = signed16 (number_same 2 4 (omega arith) i);
    min_z = signed16 (number_same 2 6 (omega arith) i);
    heightmap_ptr = number_same 2 8 (omega arith) i;
    heightmap_dim_x = same 10 (omega arith) i;
    heightmap_dim_y = same 11 (omega arith) i;
  }

  pub ref_same : ref_at b 0 ≡ ref_at s at
  unfolding ref_at
  ref_same = λ i. record {
    area_id = first_same 2 (omega arith) i;
    node_id = number_same 2 2 (omega arith) i;
    junction_id = number_same 2 4 (omega arith) i;
    unk0 = number_same 2 6 (omega arith) i;
  }
