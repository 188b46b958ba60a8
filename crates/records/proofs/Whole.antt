-- A record that stands whole in an array is read from its own bytes alone.
use Prim.Native.Nat.{ℕ, zero, suc, ◌+◌, ◌*◌, ◌%◌, ◌≤◌, ◌<◌}
use native.Mathlib.Omega.{arith}
use mathlib.Core.Path.{◌≡◌, refl, ap, ◌∙◌}
use mathlib.Core.List.{List}
use lib.ListN.{take, drop}
use Rattle.std.proofs.Common.{add-zero}
use Rattle.std.proofs.lemmas.List.{get_or-take, get_or-drop}
use Rattle.records.specs.Bytes.{byte_at, number_at, signed16}
use Rattle.records.specs.Records.{node_at, link_at, junction_at, ref_at}
use Rattle.records.specs.StoredLaws.{node_same}

module _ (s : List ℕ) (at w : ℕ) where
  abbrev own : List ℕ
  own = take w (drop at s)

  byte_own : (k : ℕ) → k < w → byte_at own k ≡ byte_at s (at + k)
  byte_own k h = ap (λ (n : ℕ). n % 256) (get_or-take w (drop at s) k 0 h ∙ get_or-drop at s k 0)

  number_own : (n o : ℕ) → o + n ≤ w → number_at n own o ≡ number_at n s (at + o)
  unfolding number_at
  number_own zero o h = refl
  number_own (suc n) o h =
      let here = byte_own o (omega arith) in
      let next : at + (o + 1) ≡ at + o + 1 = omega arith in
      let rest : number_at n own (o + 1) ≡ number_at n s (at + o + 1)
      = number_own n (o + 1) (omega arith) ∙ ap (number_at n s) next in
      λ i. here i + 256 * rest i

  first_own : (n : ℕ) → n ≤ w → number_at n own 0 ≡ number_at n s at
  first_own n h = number_own n 0 (omega arith) ∙ ap (number_at n s) (add-zero at)

pub node_whole : (s : List ℕ) (at : ℕ) → node_at (take 40 (drop at s)) 0 ≡ node_at s at
node_whole s at = node_same s at (take 40 (drop at s)) (byte_own s at 40)

pub link_whole : (s : List ℕ) (at : ℕ) → link_at (take 8 (drop at s)) 0 ≡ link_at s at
unfolding link_at
link_whole s at = λ i. record {
  area_id = first_own s at 8 2 (omega arith) i;
  node_id = number_own s at 8 2 2 (omega arith) i;
  flags0 = byte_own s at 8 4 (omega arith) i;
  flags1 = byte_own s at 8 5 (omega arith) i;
  flags2 = byte_own s at 8 6 (omega arith) i;
  link_length = byte_own s at 8 7 (omega arith) i;
}

pub junction_whole : (s : List ℕ) (at : ℕ) → junction_at (take 12 (drop at s)) 0 ≡ junction_at s at
unfolding junction_at
junction_whole s at = λ i. record {
  max_z = signed16 (first_own s at 12 2 (omega arith) i);
  position_x = signed16 (number_own s at 12 2 2 (omega arith) i);
  position_y = signed16 (number_own s at 12 2 4 (omega arith) i);
  min_z = signed16 (number_own s at 12 2 6 (omega arith) i);
  heightmap_ptr = number_own s at 12 2 8 (omega arith) i;
  heightmap_dim_x = byte_own s at 12 10 (omega arith) i;
  heightmap_dim_y = byte_own s at 12 11 (omega arith) i;
}

pub ref_whole : (s : List ℕ) (at : ℕ) → ref_at (take 8 (drop at s)) 0 ≡ ref_at s at
unfolding ref_at
ref_whole s at = λ i. record {
  area_id = first_own s at 8 2 (omega arith) i;
  node_id = number_own s at 8 2 2 (omega arith) i;
  junction_id = number_own s at 8 2 4 (omega arith) i;
  unk0 = number_own s at 8 2 6 (omega arith) i;
}
