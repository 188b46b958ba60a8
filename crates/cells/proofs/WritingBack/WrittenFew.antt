-- What an accepted writing writes is short enough to be read: 2 never comes on reading it back.
use Prim.Native.Nat.{ℕ, ◌+◌, ◌≤◌}
use native.Mathlib.Omega.{arith}
use mathlib.Core.Path.{◌≡◌, refl, sym}
use mathlib.Core.Bool.{true}
use mathlib.Core.List.{List, [], ◌∷◌, map}
use lib.Dec.{ltb}
use lib.ListN.{length, length-append}
use borrow.Author.Tests.{ltb-false}
use Rattle.std.specs.List.{All}
use Rattle.std.proofs.lemmas.List.Elements.{All-head, All-tail}
use Rattle.cells.specs.WriteCounts.{Sized}
use Rattle.cells.specs.declared.node_entry.NodeEntry.{NodeEntry}
use Rattle.records.specs.Put.{joined}
use Rattle.records.specs.Layout.{header_size, end_of, total}
use Rattle.records.proofs.Laid.{gap_small, section_length}
use Rattle.cells.specs.Memory.{Memory}
use Rattle.cells.specs.Entries.{links_in, values_in}
use Rattle.cells.specs.WriteChecks.{accepted, check_nodes, check_junctions}
use Rattle.cells.specs.Blocks.{refs_block, heights_block, junctions_block, links_block, nodes_block, arrays, blocks}
use Rattle.cells.specs.Blocks.{root_for, written}
use Rattle.cells.proofs.Sequences.Tests.{by_test, true_false}
use Rattle.cells.proofs.Writing.Ranges.{value_count_law, value_small}
use Rattle.cells.proofs.Writing.BlockLaws.{nodes_length, links_length, junctions_length, refs_length}
use Rattle.cells.proofs.Writing.WriteTotals.{nodes_total}
use Rattle.cells.proofs.WritingBack.WrittenBack.{Told}
use Rattle.std.specs.Prelude.{Result, Ok, Err}
use Rattle.numbers.specs.declared.refusal.Refusal.{Refusal}
use Rattle.cells.specs.declared.link.PathLink.{PathLink}
use Rattle.cells.specs.declared.junction_entry.JunctionEntry.{JunctionEntry}

total_most : (n a b c d e : ℕ) → total n (a ∷ b ∷ c ∷ d ∷ e ∷ []) ≤ n + a + b + c + d + e + 75
unfolding total
total_most n a b c d e =
    let n₁ = end_of n a in
    let n₂ = end_of n₁ b in
    let n₃ = end_of n₂ c in
    let n₄ = end_of n₃ d in
    omega (arith, gap_small n a, gap_small n₁ b, gap_small n₂ c, gap_small n₃ d, gap_small n₄ e)

links_most : (links : List PathLink) (nodes : List NodeEntry)
    → accepted (check_nodes (λ n. length (links_in links n)) 0 0 nodes)
    ≡ true → length (joined (links_in links) nodes) ≤ 65566
links_most links nodes t = go (check_nodes (λ n. length (links_in links n)) 0 0 nodes) refl t
  where
    go : (c : Result ℕ Refusal) → check_nodes (λ n. length (links_in links n)) 0 0 nodes ≡ c → accepted c ≡ true
        → length (joined (links_in links) nodes) ≤ 65566
    go (Err cause) e u = true_false (sym u)
    go (Ok n) e u = let r = nodes_total (links_in links) (λ n. length (links_in links n)) (λ x. refl) 0 0 nodes n
        (omega arith) e in omega (arith, r.0, r.1)

-- so many values stand behind 65,535 at most
module _ (heights : List ℕ) where
  abbrev count : JunctionEntry → ℕ
  count j = length (values_in heights j)

  values_from : (place before : ℕ) (js : List JunctionEntry) → All Sized js
      → accepted (check_junctions count place before js) ≡ true → before ≤ 130560
      → before + length (joined (values_in heights) js) ≤ 130560
  unfolding check_junctions joined
  values_from place before [] s t h = omega arith
  values_from place before (j ∷ js) s t h =
      by_test (ltb 65535 before) (λ b. true_false (sym (rw b at t))) (λ b.
      let low = ltb-false 65535 before b in
      let own = All-head Sized j js s in
      let few : count j ≤ 65025 = omega (
        arith,
        value_count_law heights j,
        value_small (length heights) j own.width
            own.height,
      ) in
      let rest = values_from (place + 1) (before + count j) js (All-tail Sized j js s) (rw b at t) (omega arith) in
      omega (arith, rest, length-append (values_in heights j) (joined (values_in heights) js)))

  values_most : (js : List JunctionEntry) → All Sized js → accepted (check_junctions count 0 0 js) ≡ true
      → length (joined (values_in heights) js) ≤ 130560
  values_most js s t = omega (arith, values_from 0 0 js s t (omega arith))

pub written_few : (h : Memory) → Told h → length (written h) ≤ 16777216
unfolding written arrays
written_few h told =
    let n = length (nodes_block h.links h.nodes) in
    let l = length (links_block h.links h.nodes) in
    let j = length (junctions_block h.heights h.junctions) in
    let v = length (heights_block h.heights h.junctions) in
    let r = length (refs_block h.refs) in
    omega (
      arith,
      section_length (root_for h (map length (blocks h))) (blocks h),
      total_most header_size r v j l n,
      nodes_length h.links h.nodes,
      links_length h.links h.nodes,
      junctions_length h.heights h.junctions,
      refs_length h.refs,
      links_most h.links h.nodes told.nodes_told,
      values_most h.heights h.junctions told.sized told.junctions_told,
      told.refs_told,
      told.nodes_few,
      told.junctions_few,
    )
