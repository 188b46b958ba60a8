-- Laws of `put`: what is put in parts is put whole.
use Prim.Native.Nat.{ℕ, ◌+◌, ◌-◌, ◌*◌, ◌≤◌, ◌<◌}
use native.Mathlib.Omega.{arith}
use native.Mathlib.Nat.{add-zero, mod-eq_of_lt, zero-add}
use native.Mathlib.Numerals.{add-one}
use mathlib.Core.Path.{◌≡◌, refl, ap, sym, ◌∙◌}
use mathlib.Core.List.{List, [], ◌∷◌, ◌++◌, append_assoc, append-nil}
use lib.ListN.{length-replicate, length, get_or, set, take, drop, length-append, length-drop, length-set}
use lib.ListN.{take-append-drop, drop_of_length-le}
use borrow.Author.Tests.{le-leb, lt-leb, leb-true, leb-false}
use borrow.Rule.Slice.PartMut.{put_mid}
use mathlib.Core.Bool.{Bool, true, false, cond}
use lib.Dec.{leb}
use Rattle.std.proofs.lemmas.List.{drop_more, set-append_left}
use lib.Seq.{length-take-le, take_at, drop-append-add, drop-drop, set_split, append_snoc}
use Rattle.records.proofs.LittleEndian.{bytes_length, le_bytes16, le_bytes32, le_bytes64}
use Rattle.records.proofs.Shape.{placed, placed_is}
use Rattle.records.specs.Put.{put, put_in, joined}
use Rattle.std.specs.List.{concat}
use Rattle.std.specs.Prelude.{Ok, Err}
use Rattle.numbers.specs.declared.refusal.Refusal.{Refusal}
use Rattle.numbers.specs.declared.refusal.Lent.TheVariants as lent
use Rattle.numbers.specs.declared.refusal.Refusal.TheVariants.{TooShort}

module _ {A : Type 0} where
  -- the front of what was put has the length that it should
  front : (l : List A) (at : ℕ) (x : List A) → at ≤ length l → length (take at l ++ x) ≡ at + length x
  front l at x h = length-append (take at l) x ∙ ap (λ (k : ℕ). k + length x) (length-take-le at l h)

  -- what ends inside is put, what doesn't is not
  pub put_fits : (l : List A) (at : ℕ) (x : List A) → at + length x ≤ length l → put_in l at x ≡ put l at x
  unfolding put_in
  put_fits l at x h = rw (le-leb (at + length x) (length l) h)

  pub put_out : (l : List A) (at : ℕ) (x : List A) → length l < at + length x → put_in l at x ≡ l
  unfolding put_in
  put_out l at x h = rw (lt-leb (at + length x) (length l) h)

  pub put_put : (l : List A) (at : ℕ) (x y : List A) → at ≤ length l → put (put l at x) (at + length x) y
      ≡ put l at (x ++ y)
  unfolding put
  put_put l at x y h =
      let p : List A = take at l ++ x in
      let r : List A = drop (at + length x) l in
      let e : length p ≡ at + length x = front l at x h in
      let total : at + length x + length y ≡ at + length (x ++ y) = omega (arith, length-append x y) in
      let back : drop (at + length x + length y) (p ++ r) ≡ drop (at + length (x ++ y)) l
      = ap (λ (k : ℕ). drop (k + length y) (p ++ r)) (sym e) ∙ drop-append-add p r (length y)
      ∙ drop-drop (length y) (at + length x) l
      ∙ ap (λ (k : ℕ). drop k l) total in
      (λ i. take_at p r (at + length x) e i ++ y ++ back i)
      ∙ ap (λ (z : List A). z ++ drop (at + length (x ++ y)) l) (append_assoc (take at l) x y)

  pub put_nil : (l : List A) (at : ℕ) → put l at [] ≡ l
  unfolding put
  put_nil l at = (λ i. append-nil (take at l) i ++ drop (add-zero at i) l) ∙ take-append-drop at l

  pub put_start : (l x : List A) → put l 0 x ≡ x ++ drop (length x) l
  unfolding put
  put_start l x = ap (λ (k : ℕ). x ++ drop k l) (zero-add (length x))

  -- as much as the whole list
  pub put_over : (l x : List A) → length l ≡ length x → put l 0 x ≡ x
  put_over l x e = put_start l x ∙ ap (λ (r : List A). x ++ r) (drop_of_length-le l {i = length x} (omega arith))
      ∙ append-nil x

  -- what stands in the part from `at` to `e`, once the part is back
  pub put_part : (l : List A) (at e : ℕ) (x y : List A) → y ≡ x → e ≡ at + length x → put_mid at (e - at) l y
      ≡ put l at x
  unfolding put
  put_part l at e x y same h =
      let long : e - at ≡ length x = omega arith in
      (λ i. take at l ++ (same i ++ drop (long i) (drop at l)))
      ∙ ap (λ (z : List A). take at l ++ (x ++ z)) (drop-drop (length x) at l)
      ∙ sym (append_assoc (take at l) x (drop (at + length x) l))

  pub length_put : (l : List A) (at : ℕ) (x : List A) → at + length x ≤ length l → length (put l at x) ≡ length l
  unfolding put
  length_put l at x h = length-append (take at l ++ x) (drop (at + length x) l)
      ∙ omega (arith, front l at x (omega arith), length-drop (at + length x) l)

  pub set_put : (l : List A) (i : ℕ) (a : A) → i < length l → set l i a ≡ put l i (a ∷ [])
  unfolding put
  set_put l i a h = set_split l i a h ∙ ap (λ (k : ℕ). take i l ++ a ∷ drop k l) (sym (add-one i))
      ∙ sym (append_snoc (take i l) a (drop (i + 1) l))

  -- one element of what was put
  pub set_inside : (l x : List A) (i : ℕ) (v : A) → i < length x → set (put l 0 x) i v ≡ put l 0 (set x i v)
  set_inside l x i v h =
      ap (λ (z : List A). set z i v) (put_start l x) ∙ set-append_left x (drop (length x) l) i v h
      ∙ (λ j. set x i v ++ drop (sym (length-set x i v) j) l) ∙ sym (put_start l (set x i v))

  -- a part that is inside has as many elements
  pub part_long : (l : List A) (at n : ℕ) → at + n ≤ length l → length (take n (drop at l)) ≡ n
  part_long l at n h = length-take-le n (drop at l) (omega (arith, length-drop at l))

  -- a turn of a loop that puts: x is put into the list as it stands, and what is left is put behind it
  pub turn : (l₀ l l' : List A) (at p q : ℕ) (x rest whole : List A) → put l p (x ++ rest) ≡ put l₀ at whole → l'
      ≡ put l p x → q ≡ p + length x → p ≤ length l
      → put l' q rest ≡ put l₀ at whole
  turn l₀ l l' at p q x rest whole before is-so next h = (λ i. put (is-so i) (next i) rest) ∙ put_put l p x rest h
      ∙ before

  -- the last turn is over
  pub ended : (l₀ l : List A) (at p : ℕ) (rest whole : List A) → put l p rest ≡ put l₀ at whole → rest ≡ [] → l
      ≡ put l₀ at whole
  ended l₀ l at p rest whole before none = sym (put_nil l p) ∙ ap (put l p) (sym none) ∙ before

-- one element and what is behind it
pub split : {A : Type 0} (l : List A) (i : ℕ) (z : A) → i < length l → drop i l ≡ get_or l i z ∷ drop (i + 1) l
split l i z h = drop_more l i z h

pub joined_length : {A B : Type 0} (f : A → List B) (w : ℕ) → ((x : A) → length (f x) ≡ w) → (l : List A)
    → length (joined f l) ≡ w * length l
unfolding joined
joined_length f w wide [] = omega arith
joined_length f w wide (x ∷ xs) = length-append (f x) (joined f xs) ∙ omega (arith, wide x, joined_length f w wide xs)

-- ---- turns of loops that put one thing for each entry

pub joined_split : {A B : Type 0} (f : A → List B) (xs : List A) (i : ℕ) (z : A) → i < length xs
    → joined f (drop i xs) ≡ f (get_or xs i z) ++ joined f (drop (i + 1) xs)
unfolding joined
joined_split f xs i z h = ap (joined f) (drop_more xs i z h)

pub joined_turn : {A B : Type 0} (f : A → List B) (l₀ l l' whole : List B) (at p q : ℕ) (xs : List A) (i : ℕ)
    (z : A) → i < length xs
    → put l p (joined f (drop i xs)) ≡ put l₀ at whole → l' ≡ put l p (f (get_or xs i z)) → q ≡ p
    + length (f (get_or xs i z)) → p ≤ length l
    → put l' q (joined f (drop (i + 1) xs)) ≡ put l₀ at whole
joined_turn f l₀ l l' whole at p q xs i z h before is-so next room =
    turn l₀ l l' at p q (f (get_or xs i z)) (joined f (drop (i + 1) xs)) whole
    (ap (put l p) (sym (joined_split f xs i z h)) ∙ before) is-so next room

pub joined_ended : {A B : Type 0} (f : A → List B) (l₀ l whole : List B) (at p : ℕ) (xs : List A) (i : ℕ)
    → length xs ≤ i → put l p (joined f (drop i xs)) ≡ put l₀ at whole → l ≡ put l₀ at whole
unfolding joined
joined_ended f l₀ l whole at p xs i h before = ended l₀ l at p (joined f (drop i xs)) whole before
    (ap (joined f) (drop_of_length-le xs h))

-- one thing is put, and another behind it
pub then : {A : Type 0} (l l' l'' : List A) (at p : ℕ) (x y : List A) → l' ≡ put l at x → l'' ≡ put l' p y → p ≡ at
    + length x → at ≤ length l → l'' ≡ put l at (x ++ y)
then l l' l'' at p x y e f g h = f ∙ (λ i. put (e i) (g i) y) ∙ put_put l at x y h

-- for a function that puts bytes where there is room
pub ruleset put_laws = (put_fits, put_out, put_part, part_long, length-replicate)

-- for a function that puts a number's bytes
pub ruleset number_laws = (bytes_length, le_bytes16, le_bytes32, le_bytes64, put_part)

pub ruleset byte_laws = (mod-eq_of_lt, set_put)

-- fields that are put one behind the other, the next one k bytes behind `at`
pub data Fields (at : ℕ) : ℕ → List ℕ → List (List ℕ) → List ℕ → Type 0 where
  done : {k : ℕ} {l : List ℕ} → Fields at k l [] l
  next : {k : ℕ} {l l' l'' x : List ℕ} {xs : List (List ℕ)}
      → l' ≡ put l (placed at k) x → Fields at (k + length x) l' xs l'' → Fields at k l (x ∷ xs) l''

behind : (at k : ℕ) (s l w : List ℕ) (xs : List (List ℕ)) (l'' : List ℕ)
    → length w ≡ k → at ≤ length s → l ≡ put s at w → Fields at k l xs l'' → l'' ≡ put s at (w ++ concat xs)
behind at k s l w xs l'' long room e done = e ∙ ap (put s at) (sym (append-nil w))
behind at k s l w xs l'' long room e (next {l'} {x} {xs = ys} f rest) =
    behind at (k + length x) s l' (w ++ x) ys l'' (omega (arith, length-append w x)) room
    (then s l l' at (placed at k) w x e f (omega (arith, placed_is at k)) room) rest
    ∙ ap (put s at) (append_assoc w x (concat ys))

pub fields_put : (at : ℕ) {s l : List ℕ} {xs : List (List ℕ)} → at ≤ length s → Fields at 0 s xs l → l
    ≡ put s at (concat xs)
fields_put at {s} {l} {xs} room f = behind at 0 s s [] xs l refl room (sym (put_nil s at)) f
