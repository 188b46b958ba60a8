-- Blocks lie at multiples of 16, apart, inside the total; and each is found where its address says. Each law by one
-- induction over the blocks.
use Prim.Native.Nat.{ℕ, zero, suc, ◌+◌, ◌%◌, ◌≤◌, ◌<◌}
use native.Mathlib.Omega.{arith}
use native.Mathlib.Nat.{add-zero}
use mathlib.Core.Path.{◌≡◌, refl, sym, ap, ◌∙◌}
use mathlib.Core.List.{List, [], ◌∷◌, ◌++◌, map, append_assoc}
use lib.ListN.{length, get_or, take, drop, replicate, length-append, length-replicate}
use lib.Seq.{take-append_seam, drop_at}
use borrow.Author.Tests.{eq-eqb, ne_eqb}
use Rattle.std.proofs.lemmas.Bool.Decides.{nat_tests}
use Rattle.records.specs.Bytes.{number_bytes}
use Rattle.records.specs.Put.{put}
use Rattle.records.specs.Root.{root_bytes}
use Rattle.records.specs.Layout.{pages, header_size, header_bytes, gap_for, padded, start_of, end_of, lay, offset}
use Rattle.records.specs.Layout.{total, section_bytes}
use Rattle.records.specs.declared.root.Root.{Root}
use Rattle.records.proofs.LittleEndian.{bytes_length}
use Rattle.records.proofs.Puts.{put_put, put_nil, put_out, joined_turn}

-- ---- one block

none : (n : ℕ) → start_of n 0 ≡ 0
unfolding start_of
none n = refl

some : (n s : ℕ) → (s ≡ 0 → ⊥) → start_of n s ≡ n + gap_for n s
unfolding start_of
some n s h = rw (ne_eqb s 0 h)

pub gap_small : (n s : ℕ) → gap_for n s ≤ 15
unfolding gap_for
gap_small n s = grind (arith, nat_tests)

pub at_16 : (n s : ℕ) → start_of n s % 16 ≡ 0
unfolding start_of gap_for
at_16 n s = grind (arith, nat_tests)

ends : (n s : ℕ) → start_of n s + s ≤ end_of n s
unfolding start_of gap_for
ends n s = grind (arith, nat_tests)

pub padded_length : (n : ℕ) (b : List ℕ) → length (padded n b) ≡ gap_for n (length b) + length b
unfolding padded
padded_length n b = length-append (replicate (gap_for n (length b)) 0) b
    ∙ ap (λ (k : ℕ). k + length b) (length-replicate (gap_for n (length b)) 0)

-- zeros are put, then the block
pub padded_put : (l l₁ l₂ : List ℕ) (at g : ℕ) (b : List ℕ) → l₁ ≡ put l at (replicate g 0) → l₂ ≡ put l₁ (at + g) b
    → g ≡ gap_for at (length b) → at ≤ length l → l₂ ≡ put l at (padded at b)
unfolding padded
padded_put l l₁ l₂ at g b e f h room =
    f ∙ (λ i. put (e i) (at + sym (length-replicate {A = ℕ} g 0) i) b) ∙ put_put l at (replicate g 0) b room
    ∙ ap (λ (k : ℕ). put l at (replicate k 0 ++ b)) h

-- ---- the numbers

pub offset_16 : (n : ℕ) (ss : List ℕ) (i : ℕ) → offset n ss i % 16 ≡ 0
unfolding offset
offset_16 n [] i = refl
offset_16 n (s ∷ ss) zero = at_16 n s
offset_16 n (s ∷ ss) (suc i) = offset_16 (end_of n s) ss i

-- a block that isn't empty starts at n or later
pub past : (n : ℕ) (ss : List ℕ) (j : ℕ) → (get_or ss j 0 ≡ 0 → ⊥) → n ≤ offset n ss j
unfolding offset
past n [] j h = absurd (h refl)
past n (s ∷ ss) zero h = omega (arith, some n s h)
past n (s ∷ ss) (suc j) h = omega (arith, past (end_of n s) ss j h)

pub none_at : (n : ℕ) (ss : List ℕ) (i : ℕ) → get_or ss i 0 ≡ 0 → offset n ss i ≡ 0
unfolding offset start_of
none_at n [] i e = refl
none_at n (s ∷ ss) zero e = rw (eq-eqb s 0 e) refl
none_at n (s ∷ ss) (suc i) e = none_at (end_of n s) ss i e

grows : (n : ℕ) (ss : List ℕ) → n ≤ total n ss
unfolding total
grows n [] = omega arith
grows n (s ∷ ss) = omega (arith, grows (end_of n s) ss)

-- a block ends before any later one starts
pub apart : (n : ℕ) (ss : List ℕ) (i j : ℕ) → i < j → (get_or ss j 0 ≡ 0 → ⊥) → offset n ss i + get_or ss i 0
    ≤ offset n ss j
unfolding offset
apart n [] i j lt h = absurd (h refl)
apart n (s ∷ ss) zero zero lt h = absurd (omega arith)
apart n (s ∷ ss) (suc i) zero lt h = absurd (omega arith)
apart n (s ∷ ss) zero (suc j) lt h = omega (arith, ends n s, past (end_of n s) ss j h)
apart n (s ∷ ss) (suc i) (suc j) lt h = apart (end_of n s) ss i j (omega arith) h

-- and ends inside the total
pub within : (n : ℕ) (ss : List ℕ) (i : ℕ) → offset n ss i + get_or ss i 0 ≤ total n ss
unfolding offset total
within n [] i = omega arith
within n (s ∷ ss) zero = omega (arith, ends n s, grows (end_of n s) ss)
within n (s ∷ ss) (suc i) = within (end_of n s) ss i

-- ---- the bytes

found_here : (before b rest : List ℕ)
    → take (length b) (drop (start_of (length before) (length b)) (before ++ (padded (length before) b ++ rest))) ≡ b
unfolding padded
found_here before [] rest = refl
found_here before (x ∷ xs) rest =
    let g = gap_for (length before) (length (x ∷ xs)) in
    let pad : List ℕ = replicate g 0 in
    let e : start_of (length before) (length (x ∷ xs)) ≡ length before
    + g = some (length before) (length (x ∷ xs)) (λ e. omega arith) in
    rw (
      e,
      append_assoc pad (x ∷ xs) rest,
      ← append_assoc before pad ((x ∷ xs) ++ rest),
      drop_at (before ++ pad) ((x ∷ xs) ++ rest) (length before + g)
          (length-append before pad ∙ ap (λ (k : ℕ). length before + k) (length-replicate {A = ℕ} g 0)),
    )
    (take-append_seam (x ∷ xs) rest)

-- each block stands at its offset
pub found : (before : List ℕ) (bs : List (List ℕ)) (rest : List ℕ) (i : ℕ)
    → take (length (get_or bs i [])) (drop (offset (length before) (map length bs) i)
    (before ++ (lay (length before) bs ++ rest))) ≡ get_or bs i []
unfolding lay offset
found before [] rest i = refl
found before (b ∷ bs) rest zero =
    rw (append_assoc (padded (length before) b))
    (found_here before b (lay (end_of (length before) (length b)) bs ++ rest))
found before (b ∷ bs) rest (suc i) =
    let e : end_of (length before) (length b)
    ≡ length (before ++ padded (length before) b) = omega
    (arith, length-append before (padded (length before) b), padded_length (length before) b) in
    let p = padded (length before) b in
    let n = length (before ++ p) in
    let l = lay n bs in
    let regroup : before ++ ((p ++ l) ++ rest) ≡ (before ++ p)
    ++ (l ++ rest) = ap (λ (x : List ℕ). before ++ x) (append_assoc p l rest)
    ∙ sym (append_assoc before p (l ++ rest)) in
    (λ k. take (length (get_or bs i []))
    (drop (offset (e k) (map length bs) i) (before ++ ((p ++ lay (e k) bs) ++ rest))))
    ∙ ap (λ (x : List ℕ). take (length (get_or bs i [])) (drop (offset n (map length bs) i) x)) regroup
    ∙ found (before ++ p) bs rest i

-- the blocks end at the total
pub lay_total : (n : ℕ) (bs : List (List ℕ)) → n + length (lay n bs) ≡ total n (map length bs)
unfolding lay total
lay_total n [] = add-zero n
lay_total n (b ∷ bs) =
    omega (
      arith,
      length-append (padded n b) (lay (end_of n (length b)) bs),
      padded_length n b,
      lay_total
          (end_of n (length b)) bs,
    )

-- ---- blocks that are put one after the other

-- the first block and the others
lay_open : (n n' : ℕ) (b : List ℕ) (bs : List (List ℕ)) → n' ≡ n + length (padded n b) → lay n (b ∷ bs) ≡ padded n b
    ++ lay n' bs
unfolding lay
lay_open n n' b bs e = ap (λ (k : ℕ). padded n b ++ lay k bs)
    (let next : end_of n (length b) ≡ n + length (padded n b) = omega (arith, padded_length n b) in next ∙ sym e)

-- room for all is room for the first block, and for the others behind it
pub lay_next : (n n' len : ℕ) (b : List ℕ) (bs : List (List ℕ)) → n + length (lay n (b ∷ bs)) ≤ len → n' ≡ n
    + length (padded n b) → n' + length (lay n' bs) ≤ len
lay_next n n' len b bs h e = omega (arith, h, ap length (lay_open n n' b bs e), length-append (padded n b) (lay n' bs))

pub lay_first : (n len : ℕ) (b : List ℕ) (bs : List (List ℕ)) → n + length (lay n (b ∷ bs)) ≤ len → n
    + length (padded n b) ≤ len
lay_first n len b bs h = omega (
  arith,
  h,
  ap length (lay_open n (n + length (padded n b)) b bs refl),
  length-append
      (padded n b) (lay (n + length (padded n b)) bs),
)

-- one block is put, and the others are put behind it
pub lay_turn : (l l' : List ℕ) (n n' : ℕ) (b : List ℕ) (bs : List (List ℕ)) → l' ≡ put l n (padded n b) → n' ≡ n
    + length (padded n b) → n ≤ length l
    → put l' n' (lay n' bs) ≡ put l n (lay n (b ∷ bs))
lay_turn l l' n n' b bs e f h = (λ i. put (e i) (f i) (lay n' bs)) ∙ put_put l n (padded n b) (lay n' bs) h
    ∙ ap (put l n) (sym (lay_open n n' b bs f))

pub lay_done : (l : List ℕ) (n : ℕ) → put l n (lay n []) ≡ l
unfolding lay
lay_done l n = put_nil l n

-- ---- the whole section

pub root_length : (r : Root) → length (root_bytes r) ≡ 112
unfolding root_bytes number_bytes
root_length r = refl

pub header_length : (r : Root) → length (header_bytes r) ≡ header_size
unfolding header_bytes pages
header_length r = length-append (root_bytes r) pages ∙ ap (λ (k : ℕ). k + 1040) (root_length r)

pub section_length : (r : Root) (bs : List (List ℕ)) → length (section_bytes r bs) ≡ total header_size (map length bs)
unfolding section_bytes
section_length r bs = length-append (header_bytes r) (lay header_size bs)
    ∙ ap (λ (k : ℕ). k + length (lay header_size bs)) (header_length r) ∙ lay_total header_size bs

-- each array stands in the section where its address says, whatever bytes come later
pub found_in : (r : Root) (bs : List (List ℕ)) (rest : List ℕ) (i : ℕ)
    → take (length (get_or bs i [])) (drop (offset header_size (map length bs) i) (section_bytes r bs ++ rest))
    ≡ get_or bs i []
unfolding section_bytes
found_in r bs rest i = rw (append_assoc (header_bytes r) (lay header_size bs) rest)
    (rw (header_length r) at (found (header_bytes r) bs rest i))

-- for the function that puts the header
pub ruleset header_laws = (bytes_length, put_out, joined_turn, header_length)
