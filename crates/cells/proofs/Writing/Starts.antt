-- Where a node's links start in the file, and which starts are 9 (T-05). Assumes nothing.
use Prim.Native.Nat.{ℕ, ◌+◌, ◌≤◌, ◌<◌}
use native.Mathlib.Omega.{arith}
use mathlib.Core.Path.{◌≡◌, refl, sym, ap, ◌∙◌}
use mathlib.Core.Bool.{true, false}
use mathlib.Core.List.{List, [], ◌∷◌}
use lib.Dec.{eqb}
use lib.ListN.{length, take, drop}
use borrow.Author.Tests.{eqb-true, eqb-false, ne_eqb, lt-ltb, le-ltb, ltb-true}
use Rattle.records.specs.Bytes.{number_bytes, bytes16}
use Rattle.records.specs.Records.{node_bytes}
use Rattle.cells.specs.Entries.{links_in, stored_start, file_node}
use Rattle.cells.specs.WriteChecks.{start_over}
use Rattle.cells.specs.Blocks.{node_record}
use Rattle.cells.proofs.Sequences.Tests.{by_test, true_false}
use Rattle.cells.specs.declared.node_entry.NodeEntry.{NodeEntry}
use Rattle.cells.specs.declared.link.PathLink.{PathLink}

module _ (before : ℕ) where
  -- T-05: a node without links stores start 0
  pub start_none : stored_start before 0 ≡ 0
  start_none = refl

module _ (before count : ℕ) where
  -- a node with links: behind those of the nodes before it
  pub start_some : 0 < count → stored_start before count ≡ before
  start_some h = rw (ne_eqb count 0 (λ e. omega arith))

  pub start_most : stored_start before count ≤ before
  start_most = by_test (eqb count 0) (λ t. rw t (omega arith)) (λ f. rw f (omega arith))

  -- a node without links adds none, so that no more than 31 come behind 65,535
  pub start_sum : stored_start before count ≤ 65535 → count ≤ 31 → before ≤ 65566 → before + count ≤ 65566
  start_sum low few most = by_test (eqb count 0)
      (λ t. let e = eqb-true count 0 t in omega arith)
      (λ f. let q : before ≤ 65535 = rw f at low in omega arith)

  -- 9 is for a node with links behind more than 65,535, and for no other
  pub over_some : start_over before count ≡ true → (0 < count) × (65535 < before)
  over_some t = by_test (eqb count 0)
      (λ z. true_false (sym t ∙ rw z))
      (λ f. (omega (arith, eqb-false count 0 f), ltb-true 65535 before (rw f at t)))

  pub over_behind : 0 < count → 65535 < before → start_over before count ≡ true
  over_behind h late = rw (start_some h, lt-ltb 65535 before late)

  pub not_over : (0 < count → before ≤ 65535) → start_over before count ≡ false
  not_over h = by_test (eqb count 0)
      (λ t. rw t)
      (λ f. rw f (le-ltb 65535 before (h (omega (arith, eqb-false count 0 f)))))

-- the two bytes at 26 of a node's record are its start
module _ (links : List PathLink) (before : ℕ) (n : NodeEntry) where
  pub start_bytes : take 2 (drop 26 (node_record links before n))
      ≡ bytes16 (stored_start before (length (links_in links n)))
  unfolding file_node node_bytes number_bytes
  start_bytes = refl

  -- T-05: zeros, for a node without links
  pub post_bytes : length (links_in links n) ≡ 0 → take 2 (drop 26 (node_record links before n)) ≡ 0 ∷ 0 ∷ []
  unfolding number_bytes
  post_bytes e = start_bytes ∙ ap (λ (c : ℕ). bytes16 (stored_start before c)) e
