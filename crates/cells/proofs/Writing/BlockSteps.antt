-- The arrays put one behind the other: zeros, then the array, then the others.
-- Assumes nothing.
use Prim.Native.Nat.{ℕ, ◌+◌, ◌≤◌}
use native.Mathlib.Omega.{arith}
use mathlib.Core.Path.{◌≡◌, refl, sym}
use mathlib.Core.List.{List, ◌∷◌}
use lib.ListN.{length, length-append, replicate}
use Rattle.records.specs.Put.{put}
use Rattle.records.specs.Layout.{gap_for, padded, end_of, lay}
use Rattle.records.proofs.Laid.{padded_length, padded_put, lay_turn}

module _ (at : ℕ) (b : List ℕ) (bs : List (List ℕ)) where
  pub array_room : length (lay at (b ∷ bs)) ≡ gap_for at (length b) + length b + length (lay (end_of at (length b)) bs)
  unfolding lay
  array_room = omega (arith, length-append (padded at b) (lay (end_of at (length b)) bs), padded_length at b)

  pub array_put : (s : List ℕ) → at + length (lay at (b ∷ bs)) ≤ length s
      → put s at (lay at (b ∷ bs))
      ≡ put (put (put s at (replicate (gap_for at (length b)) 0)) (at + gap_for at (length b)) b)
      (end_of at (length b)) (lay (end_of at (length b)) bs)
  array_put s room =
      sym (lay_turn s _ at (end_of at (length b)) b bs
      (padded_put s _ _ at (gap_for at (length b)) b refl refl refl (omega (arith, room)))
      (omega (arith, padded_length at b)) (omega (arith, room)))
