-- The root is the same where all of its bytes but those at 4 to 15, 88 and 89 are.
-- Assumes nothing.
use Prim.Native.Nat.{ℕ, ◌+◌, ◌-◌, ◌≤◌, ◌<◌}
use native.Mathlib.Omega.{arith}
use mathlib.Core.Path.{◌≡◌, refl, subst}
use mathlib.Core.Bool.{true, false}
use mathlib.Core.List.{List, [], ◌∷◌}
use Rattle.std.proofs.lemmas.Bool.{agree_below, agree_below_at}
use Rattle.records.specs.Bytes.{byte_at, number_at}
use Rattle.records.specs.Root.{root_of, unknowns_of}
use Rattle.agreement.specs.Agree.{left_out}
use Rattle.agreement.proofs.SameBytes.{number_same}

-- the offsets that count, by one test for each run of them
counts_from : (first n : ℕ) → agree_below (λ k. left_out (first + k)) (λ _. false) n ≡ true → (k : ℕ) → first ≤ k
    → k < first + n → left_out k ≡ false
counts_from first n t k low high =
    let e : first + (k - first) ≡ k = omega arith in
    subst (λ (x : ℕ). left_out x ≡ false) e
    (agree_below_at (λ q. left_out (first + q)) (λ _. false) n (k - first) t (omega arith))

start_counts : (k : ℕ) → k < 4 → left_out k ≡ false
start_counts k h = counts_from 0 4 refl k (omega arith) (omega arith)

middle_counts : (k : ℕ) → 16 ≤ k → k < 88 → left_out k ≡ false
middle_counts k low high = counts_from 16 72 refl k low (omega arith)

end_counts : (k : ℕ) → 90 ≤ k → k < 112 → left_out k ≡ false
end_counts k low high = counts_from 90 22 refl k low (omega arith)

module _ (s s' : List ℕ) (h : (k : ℕ) → k < 112 → left_out k ≡ false → byte_at s k ≡ byte_at s' k) where
  middle : (width at : ℕ) → 16 ≤ at → at + width ≤ 88 → number_at width s at ≡ number_at width s' at
  middle width at low high = number_same width s s' at
      (λ k p q. h k (omega arith) (middle_counts k (omega arith) (omega arith)))

  last : (width at : ℕ) → 90 ≤ at → at + width ≤ 112 → number_at width s at ≡ number_at width s' at
  last width at low high = number_same width s s' at
      (λ k p q. h k (omega arith) (end_counts k (omega arith) (omega arith)))

  pub root_same : root_of s ≡ root_of s'
  unfolding root_of unknowns_of
  root_same = λ i. record {
    vft = number_same 4 s s' 0 (λ k p q. h k (omega arith) (start_counts k (omega arith))) i;
    nodes = middle 8 16 (omega arith) (omega arith) i;
    node_count = middle 4 24 (omega arith) (omega arith) i;
    vehicle_node_count = middle 4 28 (omega arith) (omega arith) i;
    ped_node_count = middle 4 32 (omega arith) (omega arith) i;
    links = middle 8 40 (omega arith) (omega arith) i;
    link_count = middle 4 48 (omega arith) (omega arith) i;
    junctions = middle 8 56 (omega arith) (omega arith) i;
    heightmap = middle 8 64 (omega arith) (omega arith) i;
    refs = middle 8 80 (omega arith) (omega arith) i;
    ref_count = last 2 90 (omega arith) (omega arith) i;
    junction_count = last 4 96 (omega arith) (omega arith) i;
    heightmap_count = last 4 100 (omega arith) (omega arith) i;
    unknowns =
        middle 4 36 (omega arith) (omega arith) i ∷ middle 4 52 (omega arith) (omega arith) i
        ∷ middle 4 72 (omega arith) (omega arith) i ∷ middle 4 76 (omega arith) (omega arith) i
        ∷ last 4 92 (omega arith) (omega arith) i ∷ last 4 104 (omega arith) (omega arith) i
        ∷ last 4 108 (omega arith) (omega arith) i ∷ [];
  }
