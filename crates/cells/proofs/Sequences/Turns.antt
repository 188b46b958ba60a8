-- One turn of a loop that puts what each entry makes: what is left to put before it, put, is what is left after it.
-- Assumes nothing.
use Prim.Native.Nat.{ℕ, ◌+◌, ◌-◌, ◌≤◌, ◌<◌}
use native.Mathlib.Omega.{arith}
use mathlib.Core.Path.{◌≡◌, refl, sym, ap, ◌∙◌}
use mathlib.Core.List.{List, [], ◌++◌}
use lib.ListN.{length, get_or, drop, length-append, drop_of_length-le}
use borrow.Rule.Slice.PartMut.{put_mid}
use Rattle.records.specs.Put.{put, joined}
use Rattle.records.proofs.Puts.{turn, ended, split, joined_split, put_part}
use Rattle.cells.specs.Blocks.{laid}

-- a part of a slice that was written over, and what is put behind it
part_turn : {A : Type 0} (l own : List A) (p n : ℕ) (x rest : List A) → own ≡ x → n ≡ length own → p ≤ length l
    → put (put_mid p (p + n - p) l own) (p + n) rest ≡ put l p (x ++ rest)
part_turn l own p n x rest e m room =
    let k : p + n ≡ p + length x = omega (arith, m, ap length e) in
    turn l l _ p p (p + n) x rest _ refl (put_part l p (p + n) x own e k) k room

pub joined_none : {A B : Type 0} (f : A → List B) (xs : List A) (i : ℕ) → length xs ≤ i → joined f (drop i xs) ≡ []
unfolding joined
joined_none f xs i h = ap (joined f) (drop_of_length-le xs h)

module _ {A B : Type 0} (z : A) (f : A → List B) (xs : List A) (i : ℕ) where
  -- the length of what is left: one entry, and what is behind it
  pub joined_room : i < length xs → length (joined f (drop i xs)) ≡ length (f (get_or xs i z))
      + length (joined f (drop (i + 1) xs))
  joined_room h = ap length (joined_split f xs i z h)
      ∙ length-append (f (get_or xs i z)) (joined f (drop (i + 1) xs))

  pub joined_behind : (l x : List B) (p q : ℕ) → i < length xs → x ≡ f (get_or xs i z) → q ≡ p + length x → p
      ≤ length l
      → put (put l p x) q (joined f (drop (i + 1) xs)) ≡ put l p (joined f (drop i xs))
  joined_behind l x p q h e m room = turn l l _ p p q x _ _
      (ap (λ (y : List B). put l p (y ++ joined f (drop (i + 1) xs))) e
      ∙ ap (put l p) (sym (joined_split f xs i z h))) refl m room

  pub joined_put : (l own : List B) (p n : ℕ) → i < length xs → own ≡ f (get_or xs i z) → n ≡ length own → p
      ≤ length l
      → put (put_mid p (p + n - p) l own) (p + n) (joined f (drop (i + 1) xs)) ≡ put l p (joined f (drop i xs))
  joined_put l own p n h e m room = part_turn l own p n _ _ e m room ∙ ap (put l p) (sym (joined_split f xs i z h))

module _ {A B C : Type 0} (z : A) (f : A → List B) (g : ℕ → A → List C) (xs : List A) (i k : ℕ) where
  -- k' entries are before the next
  pub laid_put : (l own : List C) (p n k' : ℕ) → i < length xs → own ≡ g k (get_or xs i z) → n ≡ length own → k'
      ≡ k + length (f (get_or xs i z))
      → p ≤ length l → put (put_mid p (p + n - p) l own) (p + n) (laid f g k' (drop (i + 1) xs))
      ≡ put l p (laid f g k (drop i xs))
  unfolding laid
  laid_put l own p n k' h e m next room =
      rw next (part_turn l own p n _ _ e m room
      ∙ ap (λ (ys : List A). put l p (laid f g k ys)) (sym (split xs i z h)))

module _ {A B C : Type 0} (f : A → List B) (g : ℕ → A → List C) (xs : List A) (i k : ℕ) where
  pub laid_ended : (l₀ l whole : List C) (at p : ℕ) → length xs ≤ i → put l p (laid f g k (drop i xs))
      ≡ put l₀ at whole → l ≡ put l₀ at whole
  unfolding laid
  laid_ended l₀ l whole at p h before = ended l₀ l at p (laid f g k (drop i xs)) whole before
      (ap (laid f g k) (drop_of_length-le xs h))
