-- One turn of a loop over nodes or junctions that puts what each makes, or checks it.
use Prim.Native.Nat.{ℕ, ◌+◌, ◌-◌, ◌≤◌, ◌<◌}
use mathlib.Core.Path.{◌≡◌}
use mathlib.Core.Bool.{true}
use mathlib.Core.List.{List}
use lib.ListN.{length, get_or, drop}
use borrow.Rule.Slice.PartMut.{put_mid}
use Rattle.records.specs.Put.{put, joined}
use Rattle.cells.specs.Nodes.{no_entry, no_map}
use Rattle.cells.specs.Entries.{stored_start}
use Rattle.cells.specs.WriteChecks.{accepted, check_nodes, check_junctions}
use Rattle.cells.specs.Blocks.{laid}
use Rattle.cells.proofs.Sequences.Turns as turns
use Rattle.cells.proofs.Writing.CheckTurns as checks
use Rattle.cells.specs.declared.node_entry.NodeEntry.{NodeEntry}
use Rattle.cells.specs.declared.junction_entry.JunctionEntry.{JunctionEntry}

module _ {B : Type 0} (f : NodeEntry → List B) (xs : List NodeEntry) (i : ℕ) where
  pub node_room : i < length xs → length (joined f (drop i xs)) ≡ length (f (get_or xs i no_entry))
      + length (joined f (drop (i + 1) xs))
  node_room = turns.joined_room no_entry f xs i

  pub node_behind : (l x : List B) (p q : ℕ) → i < length xs → x ≡ f (get_or xs i no_entry) → q ≡ p + length x → p
      ≤ length l → put (put l p x) q (joined f (drop (i + 1) xs)) ≡ put l p (joined f (drop i xs))
  node_behind = turns.joined_behind no_entry f xs i

  pub node_put : (l own : List B) (p n : ℕ) → i < length xs → own ≡ f (get_or xs i no_entry) → n ≡ length own → p
      ≤ length l
      → put (put_mid p (p + n - p) l own) (p + n) (joined f (drop (i + 1) xs)) ≡ put l p (joined f (drop i xs))
  node_put = turns.joined_put no_entry f xs i

module _ {B C : Type 0} (f : NodeEntry → List B) (g : ℕ → NodeEntry → List C) (xs : List NodeEntry) (i k : ℕ) where
  pub node_laid : (l own : List C) (p n k' : ℕ) → i < length xs → own ≡ g k (get_or xs i no_entry) → n ≡ length own → k'
      ≡ k + length (f (get_or xs i no_entry))
      → p ≤ length l → put (put_mid p (p + n - p) l own) (p + n) (laid f g k' (drop (i + 1) xs))
      ≡ put l p (laid f g k (drop i xs))
  node_laid = turns.laid_put no_entry f g xs i k

module _ {B : Type 0} (f : JunctionEntry → List B) (xs : List JunctionEntry) (i : ℕ) where
  pub map_room : i < length xs → length (joined f (drop i xs)) ≡ length (f (get_or xs i no_map))
      + length (joined f (drop (i + 1) xs))
  map_room = turns.joined_room no_map f xs i

  pub map_behind : (l x : List B) (p q : ℕ) → i < length xs → x ≡ f (get_or xs i no_map) → q ≡ p + length x → p
      ≤ length l → put (put l p x) q (joined f (drop (i + 1) xs)) ≡ put l p (joined f (drop i xs))
  map_behind = turns.joined_behind no_map f xs i

  pub map_put : (l own : List B) (p n : ℕ) → i < length xs → own ≡ f (get_or xs i no_map) → n ≡ length own → p
      ≤ length l
      → put (put_mid p (p + n - p) l own) (p + n) (joined f (drop (i + 1) xs)) ≡ put l p (joined f (drop i xs))
  map_put = turns.joined_put no_map f xs i

module _ {B C : Type 0} (f : JunctionEntry → List B) (g : ℕ → JunctionEntry
    → List C) (xs : List JunctionEntry) (i k : ℕ) where
  pub map_laid : (l own : List C) (p n k' : ℕ) → i < length xs → own ≡ g k (get_or xs i no_map) → n ≡ length own → k'
      ≡ k + length (f (get_or xs i no_map))
      → p ≤ length l → put (put_mid p (p + n - p) l own) (p + n) (laid f g k' (drop (i + 1) xs))
      ≡ put l p (laid f g k (drop i xs))
  map_laid = turns.laid_put no_map f g xs i k

module _ (place before i : ℕ) where
  pub node_inside : (count : NodeEntry → ℕ) (ns : List NodeEntry) → i < length ns
      → accepted (check_nodes count place before (drop i ns)) ≡ true
      → (accepted (check_nodes count place before (drop i ns))
      ≡ accepted (check_nodes count (place + 1) (before + count (get_or ns i no_entry)) (drop (i + 1) ns)))
      × (count (get_or ns i no_entry) ≤ 31) × (stored_start before (count (get_or ns i no_entry)) ≤ 65535)
  node_inside count ns h e = checks.nodes_inside no_entry count ns place before i h e

  pub map_inside : (count : JunctionEntry → ℕ) (js : List JunctionEntry) → i < length js
      → accepted (check_junctions count place before (drop i js)) ≡ true
      → (accepted (check_junctions count place before (drop i js))
      ≡ accepted (check_junctions count (place + 1) (before + count (get_or js i no_map)) (drop (i + 1) js)))
      × (before ≤ 65535)
  map_inside count js h e = checks.junctions_inside no_map count js place before i h e
