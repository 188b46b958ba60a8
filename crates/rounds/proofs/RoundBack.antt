-- Reading and writing undo each other. What follows the head goes by laws over any head.
-- Assumes nothing.
use Prim.Native.Nat.{ℕ, zero, suc, ◌+◌, ◌*◌, ◌/◌, ◌%◌, ◌≤◌, ◌<◌}
use native.Mathlib.Omega.{arith}
use native.Mathlib.Nat.{zero-add}
use mathlib.Core.Path.{◌≡◌, refl, sym, ap, ◌∙◌}
use mathlib.Core.Bool.{true, ◌&&◌}
use mathlib.Core.List.{List, ◌∷◌, ◌++◌, append_assoc}
use lib.Dec.{eqb, ltb}
use lib.ListN.{length, get_or, take, drop, length-append, length-drop, take-append-drop}
use lib.Seq.{take-add, take_at, drop_at}
use borrow.Author.Tests.{le-ltb, eqb-true, ltb-false}
use Rattle.records.specs.Bytes.{byte_at, le16, bytes16, number_at, number_bytes}
use Rattle.records.specs.Put.{put}
use Rattle.records.proofs.LittleEndian.{Stands, stands_start, stands_first, stands_next, number_back, bytes_length}
use Rattle.records.proofs.LittleEndian.{number_below}
use Rattle.std.proofs.lemmas.List.{drop_more}
use Rattle.records.proofs.Puts.{put_start}
use Rattle.cells.proofs.Sequences.Tests.{and_left, and_right, by_test, true_false}
use Rattle.rounds.specs.declared.file.Version.TheVariants.{One}
use Rattle.rounds.specs.Round.{head_bytes, rest_bytes, file_bytes, round_bytes, RoundLeft, round_left}
use Rattle.rounds.specs.Round.{has_version, rest_read, round_read, written, written_left}
use Rattle.rounds.proofs.Files.{rest_is, front_long, file_long, write_is, wrote_is}
use Rattle.std.specs.Prelude.{Result, Ok}
use Rattle.numbers.specs.declared.refusal.Refusal.{Refusal}
use Rattle.numbers.proofs.Refusing.{not_refused}
use Rattle.rounds.specs.declared.file.Round.{Round}

-- what was put first is taken back
put_taken : (l x : List ℕ) (n : ℕ) → length x ≡ n → take n (put l 0 x) ≡ x
put_taken l x n h = ap (take n) (put_start l x) ∙ take_at x (drop (length x) l) n h

-- ---- a written round is read

-- what follows a head
module _ (head : List ℕ) (start : ℕ) (choices room : List ℕ)
    (small : start < 65536) (few : length choices < 65536) (enough : length choices ≤ length room) where
  abbrev file : List ℕ
  file = file_bytes head start choices

  abbrev front : List ℕ
  front = head ++ rest_bytes start (length choices)

  at_head : Stands file (length head) (rest_bytes start (length choices))
  unfolding file_bytes
  at_head k h =
      ap (λ (j : ℕ). get_or file (j + k) 0) (sym (zero-add (length head)))
      ∙ stands_next file 0 head (rest_bytes start (length choices)) (stands_start front choices) k h

  rest_start : le16 file (length head) ≡ start
  unfolding rest_bytes
  rest_start =
      number_back 2 start file (length head) small
      (stands_first file (length head) (bytes16 start) (bytes16 (length choices)) at_head)

  rest_count : le16 file (length head + 2) ≡ length choices
  unfolding rest_bytes
  rest_count =
      number_back 2 (length choices) file (length head + 2) few
      (λ k h. ap (λ (n : ℕ). get_or file (length head + n + k) 0) (sym (bytes_length 2 start))
      ∙ stands_next file (length head) (bytes16 start) (bytes16 (length choices)) at_head k h)

  pub rest_back : rest_read (length head) file room
      ≡ round_left (Ok (record { start = start; count = length choices })) (put room 0 choices)
  unfolding file_bytes
  rest_back =
      rest_is (length head) file room (length choices) (sym rest_count) (omega (arith, file_long head start choices))
      (file_long head start choices) enough
      ∙ (λ i. round_left (Ok (record { start = rest_start i; count = length choices }))
      (put room 0 (drop_at front choices (length head + 4) (front_long head start choices) i)))

has_one : (start : ℕ) (choices : List ℕ) → has_version 1 (round_bytes start choices) ≡ true
unfolding file_bytes head_bytes has_version number_at number_bytes rest_bytes
has_one start choices = rw (le-ltb (length (round_bytes start choices)) 5 (omega arith))

-- T-03: "Reading a written round gives the same round"
pub read_written : (start : ℕ) (choices room : List ℕ) → start < 65536 → length choices < 65536
    → length choices ≤ length room
    → round_read (round_bytes start choices) room
    ≡ round_left (Ok (record { start = start; count = length choices })) (put room 0 choices)
unfolding round_read head_bytes
read_written start choices room small few enough =
    rw (has_one start choices) (rest_back (head_bytes One) start choices room small few enough)

-- the same at the calls: of whatever the writer accepts, the bytes that it answers for
pub written_back : (start : ℕ) (choices file room : List ℕ) (n : ℕ) → start < 65536 → length choices ≤ length room
    → (written (head_bytes One) start choices file).answer ≡ Ok n
    → round_read (take n (written (head_bytes One) start choices file).file) room
    ≡ round_left (Ok (record { start = start; count = length choices })) (put room 0 choices)
written_back start choices file room n small enough h =
    let w = wrote_is (head_bytes One) start choices file n h in
    let few : length choices < 65536 = omega (arith, w.few) in
    ap (λ (s : List ℕ). round_read s room)
    (ap (take n) w.stored ∙ put_taken file (round_bytes start choices) n (sym w.long))
    ∙ read_written start choices room small few enough

-- ---- an accepted file is what is written

abbrev pub Bytes : List ℕ → Type 0
Bytes s = (k : ℕ) → get_or s k 0 < 256

pub bytes_of : (w : ℕ) (s : List ℕ) (at : ℕ) → Bytes s → at + w ≤ length s
    → take w (drop at s) ≡ number_bytes w (number_at w s at)
unfolding number_at number_bytes
bytes_of zero s at b h = refl
bytes_of (suc w) s at b h =
    let n = number_at w s (at + 1) in
    let first : get_or s at 0 ≡ (byte_at s at + 256 * n) % 256 = omega (arith, b at) in
    let rest : (byte_at s at + 256 * n) / 256 ≡ n = omega (arith, b at) in
    ap (take (suc w)) (drop_more s at 0 (omega arith)) ∙ (λ i. first i ∷ bytes_of w s (at + 1) b (omega arith) i)
    ∙ ap (λ (m : ℕ). (byte_at s at + 256 * n) % 256 ∷ number_bytes w m) (sym rest)

-- the mark and the version, as one number of five bytes
pub has_number : (v : ℕ) (s : List ℕ) → has_version v s ≡ true
    → (5 ≤ length s) × (number_at 5 s 0 ≡ 4476498 + 16777216 * v)
unfolding has_version number_at
has_number v s h = by_test (ltb (length s) 5) (λ e. true_false (sym (rw e at h))) (λ e.
    let x = eqb (byte_at s 0) 82 in
    let y = eqb (byte_at s 1) 78 in
    let z = eqb (byte_at s 2) 68 in
    let w = eqb (le16 s 3) v in
    let t : x && y && z && w ≡ true = rw e at h in
    let e₀ : byte_at s 0 ≡ 82 = eqb-true _ _ (and_left x y (and_left (x && y) z (and_left (x && y && z) w t))) in
    let e₁ : byte_at s 1 ≡ 78 = eqb-true _ _ (and_right x y (and_left (x && y) z (and_left (x && y && z) w t))) in
    let e₂ : byte_at s 2 ≡ 68 = eqb-true _ _ (and_right (x && y) z (and_left (x && y && z) w t)) in
    let e₃ : le16 s 3 ≡ v = eqb-true _ _ (and_right (x && y && z) w t) in
    (ltb-false _ _ e, omega arith))

pub head_one : (s : List ℕ) → Bytes s → has_version 1 s ≡ true → take 5 s ≡ head_bytes One
unfolding head_bytes number_bytes
head_one s b h =
    bytes_of 5 s 0 b (omega (arith, has_number 1 s h)) ∙ ap (number_bytes 5) (has_number 1 s h).1

-- what is known of a file that is accepted behind its head
pub record Accepted (at : ℕ) (s room : List ℕ) (start count : ℕ) : Type 0 where
  pub started : start ≡ le16 s at
  pub counted : count ≡ le16 s (at + 2)
  pub long : length s ≡ at + 4 + le16 s (at + 2)
  pub stored : (rest_read at s room).choices ≡ put room 0 (drop (at + 4) s)
  pub enough : le16 s (at + 2) ≤ length room

-- one answer, one round
same_round : {r q : Round} → ◌≡◌ {A = Result Round Refusal} (Ok r) (Ok q) → r ≡ q
same_round e = cc

module _ (at : ℕ) (s room : List ℕ) (start count : ℕ)
    (held : (rest_read at s room).answer ≡ Ok (record { start = start; count = count })) where
  pub accepted : Accepted at s room start count
  unfolding rest_read
  accepted =
      by_test (ltb (length s) (at + 4)) (λ e. not_refused (rw e at held)) (λ e.
      by_test (eqb (length s) (at + 4 + le16 s (at + 2))) (λ f.
      by_test (ltb (length room) (le16 s (at + 2))) (λ g. not_refused (rw (e, f, g) at held)) (λ g.
      let same : ◌≡◌ {A = Round} (record { start = le16 s at; count = le16 s (at + 2) })
      (record { start = start; count = count })
      = same_round (rw (e, f, g) at held) in
      record {
        started = ap (λ (r : Round). r.start) (sym same);
        counted = ap (λ (r : Round). r.count) (sym same);
        long = eqb-true _ _ f;
        stored = rw (e, f, g);
        enough = ltb-false _ _ g;
      }))
      (λ f. not_refused (rw (e, f) at held)))

  -- the choices that were stored
  abbrev pub chosen : List ℕ
  chosen = take count (rest_read at s room).choices

  -- what is behind the head and the two numbers
  pub behind_long : length (drop (at + 4) s) ≡ count
  behind_long = length-drop (at + 4) s ∙ omega (arith, accepted.long, accepted.counted)

  pub chosen_is : chosen ≡ drop (at + 4) s
  chosen_is = ap (take count) accepted.stored ∙ put_taken room (drop (at + 4) s) count behind_long

  pub rest_file : Bytes s → s ≡ file_bytes (take at s) start chosen
  unfolding rest_bytes file_bytes
  rest_file b =
      let x = drop (at + 4) s in
      let two : at + 4 ≡ at + 2 + 2 = omega arith in
      let count-in : at + 2 + 2 ≤ length s = omega (arith, accepted.long) in
      let start-in : at + 2 ≤ length s = omega (arith, accepted.long) in
      let head : take (at + 4) s ≡ take at s ++ (bytes16 start ++ bytes16 count)
      = ap (λ (k : ℕ). take k s) two ∙ take-add (at + 2) 2 s
      ∙ (λ i. take-add at 2 s i ++ bytes_of 2 s (at + 2) b count-in i)
      ∙ (λ i. take at s ++ bytes_of 2 s at b start-in i ++ bytes16 (sym accepted.counted i))
      ∙ append_assoc (take at s) (bytes16 (le16 s at)) (bytes16 count)
      ∙ ap (λ (n : ℕ). take at s ++ (bytes16 n ++ bytes16 count)) (sym accepted.started) in
      sym (take-append-drop (at + 4) s) ∙ (λ i. head i ++ x)
      ∙ sym (λ i. take at s ++ (bytes16 start ++ bytes16 ((ap length chosen_is ∙ behind_long) i)) ++ chosen_is i)

-- ---- of the call: an accepted file s, read as this start and so many choices

module _ (s room : List ℕ) (start count : ℕ)
    (held : (round_read s room).answer ≡ Ok (record { start = start; count = count })) where
  has : has_version 1 s ≡ true
  unfolding round_read
  has = by_test (has_version 1 s) (λ e. e) (λ e. not_refused (rw e at held))

  is_rest : round_read s room ≡ rest_read 5 s room
  unfolding round_read
  is_rest = rw (has)

  rest_held : (rest_read 5 s room).answer ≡ Ok (record { start = start; count = count })
  rest_held = ap (λ (l : RoundLeft). l.answer) (sym is_rest) ∙ held

  -- the choices of the round
  abbrev pub choices_of : List ℕ
  choices_of = take count (round_read s room).choices

  choices_same : choices_of ≡ chosen 5 s room start count rest_held
  choices_same = ap (λ (l : RoundLeft). take count l.choices) is_rest

  pub choices_long : length choices_of ≡ count
  choices_long =
      ap length choices_same ∙ ap length (chosen_is 5 s room start count rest_held)
      ∙ behind_long 5 s room start count rest_held

  pub choices_few : length choices_of ≤ 65535
  choices_few =
      let below : le16 s 7 < 65536 = number_below 2 s 7 in
      omega (arith, choices_long, (accepted 5 s room start count rest_held).counted)

  -- T-03: "every accepted file is what the writer would write for it": byte for byte,
  pub file_bytes_law : Bytes s → s ≡ round_bytes start choices_of
  file_bytes_law b =
      rest_file 5 s room start count rest_held b
      ∙ (λ i. file_bytes (head_one s b has i) start (sym choices_same i))

  -- and at the writer's call, into any memory of that length or more
  pub file_written : Bytes s → (file : List ℕ) → length s ≤ length file
      → written (head_bytes One) start choices_of file ≡ written_left (Ok (length s)) (put file 0 s)
  file_written b file fits =
      let same : round_bytes start choices_of ≡ s = sym (file_bytes_law b) in
      let room : length (round_bytes start choices_of) ≤ length file = rw same fits in
      write_is (head_bytes One) start choices_of file choices_few room
      ∙ (λ i. written_left (Ok (length (same i))) (put file 0 (same i)))

-- no two rounds share a file
pub one_round : (p q : ℕ) (c d : List ℕ) → p < 65536 → q < 65536 → length c < 65536 → length d < 65536
    → round_bytes p c ≡ round_bytes q d → (p ≡ q) × (c ≡ d)
one_round p q c d fp fq fc fd e =
    let room = c ++ d in
    let long : length room ≡ length c + length d = length-append c d in
    let l : round_left (Ok (record { start = p; count = length c })) (put room 0 c)
    ≡ round_left (Ok (record { start = q; count = length d })) (put room 0 d)
    = sym (read_written p c room fp fc (omega arith)) ∙ ap (λ (s : List ℕ). round_read s room) e
    ∙ read_written q d room fq fd (omega arith) in
    let same : ◌≡◌ {A = Round} (record { start = p; count = length c }) (record { start = q; count = length d })
    = same_round (ap (λ (x : RoundLeft). x.answer) l) in
    let n : length c ≡ length d = ap (λ (r : Round). r.count) same in (
      ap (λ (r : Round). r.start) same,
      sym (put_taken room c (length c) refl) ∙ (λ i. take (n i) (l i).choices)
          ∙ put_taken room d (length d) refl,
    )

-- two files of one round are equal, whatever memory they were read into
pub one_file : (s t room other : List ℕ) (start count : ℕ) → Bytes s → Bytes t
    → (e : (round_read s room).answer ≡ Ok (record { start = start; count = count }))
    → (f : (round_read t other).answer ≡ Ok (record { start = start; count = count }))
    → take count (round_read s room).choices ≡ take count (round_read t other).choices → s ≡ t
one_file s t room other start count b d e f same =
    file_bytes_law s room start count e b ∙ ap (round_bytes start) same ∙ sym (file_bytes_law t other start count f d)
