-- Parts of a list, one after the other, by the words of the members' entries.
use Rattle.std.proofs.lemmas.Iterator.Adapters.{fits_from_length, at_most_from_yields_List}
use Prim.Native.Nat.{ℕ, zero, suc, ◌+◌, ◌-◌, ◌≤◌, ◌<◌, min}
use native.Mathlib.Omega.{arith}
use native.Mathlib.Numerals.{add-one}
use mathlib.Core.Path.{◌≡◌, refl, ap, sym, ◌∙◌}
use mathlib.Core.List.{List, [], ◌∷◌, ◌++◌, append_assoc}
use lib.Dec.{leb}
use lib.ListN.{length, get_or, take, drop, length-map, length-drop, drop_of_length-le, get_or-map}
use lib.Seq.{length-take-le, take_all, drop-drop, take-add}
use Rattle.std.specs.List.{sum_by}
use Rattle.std.proofs.lemmas.List.{take-map}
use Rattle.std.proofs.lemmas.List.Sums.{sum_by-cons}
use borrow.Author.Tests.{leb-true, leb-false}
use Rattle.cells.proofs.Sequences.Tests.{by_test}
use Rattle.sets.specs.CellSet.{word, words_at, total, parts_of}
use Rattle.records.specs.Put.{put, put_in}
use Rattle.records.proofs.Puts.{put_fits}
use Rattle.sets.specs.Join.{stored}
use Rattle.sets.specs.Leave.{start_of}
use Rattle.sets.specs.SetParts.{count_of, Holding}

-- ---- sums of counts

pub total_take : (cs : List ℕ) (k : ℕ) → k < length cs → total (take (suc k) cs) ≡ total (take k cs) + get_or cs k 0
unfolding total
total_take [] k lt = absurd (omega arith)
total_take (c ∷ cs) zero lt = omega arith
total_take (c ∷ cs) (suc k) lt = omega (arith, total_take cs k (omega arith))

pub total_below : (cs : List ℕ) (k : ℕ) → total (take k cs) ≤ total cs
unfolding total
total_below [] zero = omega arith
total_below [] (suc k) = omega arith
total_below (c ∷ cs) zero = omega arith
total_below (c ∷ cs) (suc k) = omega (arith, total_below cs k)

-- ---- by the members' words

pub count_of_law : (k : ℕ) (ws : List (List ℕ)) (j : ℕ) → get_or (words_at k ws) j 0 ≡ count_of k ws j
unfolding words_at
count_of_law k ws j = get_or-map (word k) ws j []

pub words_many : (k : ℕ) (ws : List (List ℕ)) → length (words_at k ws) ≡ length ws
unfolding words_at
words_many k ws = length-map ws (word k)

pub start_more : (k : ℕ) (ws : List (List ℕ)) (j : ℕ) → j < length ws → start_of k ws (suc j) ≡ start_of k ws j
    + count_of k ws j
start_more k ws j lt = total_take (words_at k ws) j (rw words_many lt)
    ∙ ap (λ (c : ℕ). start_of k ws j + c) (count_of_law k ws j)

pub start_next : (k : ℕ) (ws : List (List ℕ)) (j : ℕ) → j < length ws → start_of k ws (j + 1) ≡ start_of k ws j
    + count_of k ws j
start_next k ws j lt = ap (λ (n : ℕ). start_of k ws n) (add-one j) ∙ start_more k ws j lt

pub start_all : (k : ℕ) (ws : List (List ℕ)) → start_of k ws (length ws) ≡ total (words_at k ws)
start_all k ws = ap total (take_all (length ws) (words_at k ws)
    (let z : length (words_at k ws) ≤ length ws = omega (arith, words_many k ws) in z))

-- the sum of one word of each entry
pub words_total : (k : ℕ) (ws : List (List ℕ)) → sum_by (word k) ws ≡ total (words_at k ws)
unfolding total words_at
words_total k [] = refl
words_total k (w ∷ ws) = sum_by-cons (word k) w ws ∙ ap (λ (n : ℕ). word k w + n) (words_total k ws)

pub words_before : (k : ℕ) (ws : List (List ℕ)) (i : ℕ) → sum_by (word k) (take i ws) ≡ start_of k ws i
unfolding words_at
words_before k ws i = words_total k (take i ws) ∙ ap total (sym (take-map (word k) i ws))

-- ---- parts

pub parts_many : {A : Type 0} (cs : List ℕ) (l : List A) → length (parts_of cs l) ≡ length cs
unfolding parts_of
parts_many [] l = refl
parts_many (c ∷ cs) l = ap suc (parts_many cs (drop c l))

part_at : {A : Type 0} (cs : List ℕ) (l : List A) (i : ℕ) → i < length cs → get_or (parts_of cs l) i []
    ≡ take (get_or cs i 0) (drop (total (take i cs)) l)
unfolding parts_of total
part_at [] l i lt = absurd (omega arith)
part_at (c ∷ cs) l zero lt = refl
part_at (c ∷ cs) l (suc i) lt = part_at cs (drop c l) i (omega arith)
    ∙ ap (take (get_or cs i 0)) (drop-drop (total (take i cs)) c l)

pub part_of : {A : Type 0} (k : ℕ) (ws : List (List ℕ)) (l : List A) (i : ℕ) → i < length ws
    → get_or (parts_of (words_at k ws) l) i [] ≡ take (count_of k ws i) (drop (start_of k ws i) l)
part_of k ws l i lt = part_at (words_at k ws) l i (rw words_many lt)
    ∙ ap (λ (c : ℕ). take c (drop (start_of k ws i) l)) (count_of_law k ws i)

-- two parts in front of a list
pub split : {A : Type 0} (c d : ℕ) (l r : List A) → take (c + d) l ++ r ≡ take c l ++ (take d (drop c l) ++ r)
split {A} c d l r = ap (λ (t : List A). t ++ r) (take-add c d l) ∙ append_assoc (take c l) (take d (drop c l)) r

-- what follows a part, wherever the list ends
pub behind_part : {A : Type 0} (l : List A) (start at room : ℕ) → start ≤ length l → drop start l ≡ drop at l
    → drop (start + min room (length l - start)) l ≡ drop (at + room) l
behind_part {A} l start at room h e =
    let far : drop room (drop start l) ≡ drop (at + room) l = ap (drop room) e ∙ drop-drop room at l in
    by_test (leb room (length l - start))
    (λ t. let k : min room (length l - start) ≡ room = omega (arith, leb-true room (length l - start) t) in
    ap (λ (n : ℕ). drop (start + n) l) k ∙ sym (drop-drop room start l) ∙ far)
    (λ f.
    let lt = leb-false room (length l - start) f in
    let none : drop room (drop start l) ≡ [] =
    drop_of_length-le (drop start l) {i = room}
    (let z : length (drop start l) ≤ room = omega (arith, length-drop start l, lt) in z) in
    drop_of_length-le l {i = start + min room (length l - start)} (omega (arith, lt)) ∙ sym none ∙ far)

-- nothing stands before the first part
pub start_none : (k : ℕ) (ws : List (List ℕ)) → start_of k ws 0 ≡ 0
unfolding total
start_none k ws = refl

-- a part to the end
pub rest : {A : Type 0} (l : List A) (a : ℕ) → take (length l - a) (drop a l) ≡ drop a l
rest l a = take_all (length l - a) (drop a l)
    (let z : length (drop a l) ≤ length l - a = omega (arith, length-drop a l) in z)

-- ---- where a part lies

pub part_below : (size : ℕ) (ws : List (List ℕ)) (i : ℕ) → i < length ws
    → start_of size ws i + count_of size ws i ≤ total (words_at size ws)
part_below size ws i lt = omega (arith, start_more size ws i lt, total_below (words_at size ws) (suc i))

module _ {k size len : ℕ} {ws : List (List ℕ)} (h : Holding k size ws len) (i : ℕ) (lt : i < length ws) where
  pub part_inside : start_of size ws i + count_of size ws i ≤ len
  part_inside = omega (arith, part_below size ws i lt, h.fit)

  pub start_inside : start_of size ws i ≤ len
  start_inside = omega (arith, part_inside)

-- ---- entries stored

-- the first entries of another list, if they end inside
pub stored_in : {A : Type 0} (n at : ℕ) (from l : List A) → n ≤ length from → at + n ≤ length l
    → put_in l at (take n from) ≡ stored at (take n from) l
unfolding put stored
stored_in n at from l h e =
    let x = take n from in
    put_fits l at x (omega (arith, length-take-le n from h, e)) ∙ append_assoc (take at l) x (drop (at + length x) l)

-- that a sum over the members fits, for the check
pub ruleset sum_laws = (fits_from_length, at_most_from_yields_List)
