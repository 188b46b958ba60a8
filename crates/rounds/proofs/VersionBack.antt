-- T-11: what the reader of both versions and the writer by version say of one another. Each law over the version
-- goes by
-- RoundBack's law over any head.
-- Assumes nothing.
use Prim.Native.Nat.{ℕ, ◌+◌, ◌≤◌, ◌<◌}
use native.Mathlib.Omega.{arith}
use mathlib.Core.Path.{◌≡◌, sym, ap, ◌∙◌}
use mathlib.Core.Bool.{true, false}
use mathlib.Core.List.{List, ◌++◌}
use lib.Dec.{eqb, ltb}
use lib.ListN.{length, take, length-take}
use lib.Seq.{take-add}
use borrow.Author.Tests.{le-ltb}
use Rattle.std.proofs.lemmas.Bool.{false_from_ne_true}
use Rattle.records.specs.Bytes.{le16, number_at, number_bytes}
use Rattle.records.specs.Put.{put}
use Rattle.records.proofs.LittleEndian.{number_below}
use Rattle.cells.proofs.Sequences.Tests.{by_test}
use Rattle.rounds.specs.declared.file.Version.{Version}
use Rattle.rounds.specs.declared.file.Version.TheVariants.{One, Two}
use Rattle.rounds.specs.Round.{head_bytes, rest_bytes, file_bytes, round_left, has_version, rest_read, round_read}
use Rattle.rounds.specs.Round.{VersionLeft, version_left, with_version, in_version, version_read, written}
use Rattle.rounds.specs.Round.{written_left}
use Rattle.rounds.proofs.Files.{write_is}
use Rattle.rounds.proofs.RoundBack.{Bytes, bytes_of, has_number, head_one, rest_back, read_written, accepted}
use Rattle.rounds.proofs.RoundBack.{chosen, rest_file}
use Rattle.std.specs.Prelude.{Result, Ok, Err}
use Rattle.numbers.specs.declared.refusal.Refusal.{Refusal}
use Rattle.numbers.specs.declared.refusal.Refusal.TheVariants.{NoRoundFile}
use Rattle.numbers.specs.Refusals.{number_of}
use Rattle.numbers.proofs.Refusing.{not_refused}
use Rattle.rounds.specs.declared.file.Round.{Round}
use Rattle.rounds.specs.declared.file.VersionRound.{VersionRound}

-- the area of a version fits its 16 bits
abbrev pub AreaFits : Version → Type 0
AreaFits One = 0 < 65536
AreaFits (Two area) = area < 65536

-- ---- which version a file has

-- one at most
pub one_version : (v w : ℕ) (s : List ℕ) → has_version v s ≡ true → has_version w s ≡ true → v ≡ w
one_version v w s h k = omega (arith, has_number v s h, has_number w s k)

pub no_other : (v w : ℕ) (s : List ℕ) → has_version v s ≡ true → (v ≡ w → ⊥) → has_version w s ≡ false
no_other v w s h apart = false_from_ne_true (has_version w s) (λ k. apart (one_version v w s h k))

-- T-11: "The T-03 reader answers every version 2 file with 15",
pub old_reader : (s room : List ℕ) → has_version 2 s ≡ true → round_read s room ≡ round_left (Err NoRoundFile) room
unfolding round_read
old_reader s room h = rw (no_other 2 1 s h (λ e. absurd (omega arith)))

-- and a file of version 1 is the same round by both readers
pub both_readers : (s room : List ℕ) → has_version 1 s ≡ true → version_read s room
    ≡ in_version One (round_read s room)
unfolding version_read round_read
both_readers s room h = rw (h)

first_read : (s room : List ℕ) → has_version 1 s ≡ true → round_read s room ≡ rest_read 5 s room
unfolding round_read
first_read s room h = rw (h)

two_read : (s room : List ℕ) → has_version 2 s ≡ true → version_read s room
    ≡ in_version (Two (le16 s 5)) (rest_read 7 s room)
unfolding version_read
two_read s room h = rw (no_other 2 1 s h (λ e. absurd (omega arith)), h)

-- ---- 15

pub neither : (s room : List ℕ) → has_version 1 s ≡ false → has_version 2 s ≡ false
    → version_read s room ≡ version_left (Err NoRoundFile) room
unfolding version_read
neither s room h k = rw (h, k)

-- "for every version but 1 and 2"
pub other_version : (v : ℕ) (s room : List ℕ) → has_version v s ≡ true → (v ≡ 1 → ⊥) → (v ≡ 2 → ⊥)
    → version_read s room ≡ version_left (Err NoRoundFile) room
other_version v s room h one two = neither s room (no_other v 1 s h one) (no_other v 2 s h two)

-- ---- a written round is read

one_has : (start : ℕ) (choices : List ℕ) → has_version 1 (file_bytes (head_bytes One) start choices) ≡ true
unfolding file_bytes head_bytes has_version number_at number_bytes rest_bytes
one_has start choices = rw (le-ltb (length (file_bytes (head_bytes One) start choices)) 5 (omega arith))

two_has : (area start : ℕ) (choices : List ℕ) → has_version 2 (file_bytes (head_bytes (Two area)) start choices) ≡ true
unfolding file_bytes head_bytes has_version number_at number_bytes rest_bytes
two_has area start choices = rw (le-ltb (length (file_bytes (head_bytes (Two area)) start choices)) 5 (omega arith))

area_back : (area start : ℕ) (choices : List ℕ) → area < 65536
    → le16 (file_bytes (head_bytes (Two area)) start choices) 5 ≡ area
unfolding file_bytes head_bytes number_at number_bytes rest_bytes
area_back area start choices h = omega arith

-- T-11: "each is written back in the version it was read in": reading a written round gives the round, version and
-- area
-- included
pub version_written : (v : Version) (start : ℕ) (choices room : List ℕ) → AreaFits v → start < 65536
    → length choices < 65536 → length choices ≤ length room
    → version_read (file_bytes (head_bytes v) start choices) room
    ≡ version_left (Ok (record { version = v; start = start; count = length choices })) (put room 0 choices)
unfolding head_bytes number_bytes
version_written One start choices room fits small few enough =
    both_readers _ room (one_has start choices)
    ∙ ap (in_version One) (read_written start choices room small few enough)
version_written (Two area) start choices room fits small few enough =
    two_read _ room (two_has area start choices)
    ∙ (λ i. in_version (Two (area_back area start choices fits i))
    (rest_back (head_bytes (Two area)) start choices room small few enough i))

-- ---- an accepted file is what is written

-- the head of version 2: the mark and the version, then the area
head_two : (s : List ℕ) → Bytes s → has_version 2 s ≡ true → 7 ≤ length s → take 7 s ≡ head_bytes (Two (le16 s 5))
unfolding head_bytes number_bytes
head_two s b h long =
    take-add 5 2 s
    ∙ (λ i. (bytes_of 5 s 0 b (omega arith) ∙ ap (number_bytes 5) (has_number 2 s h).1) i ++ bytes_of 2 s 5 b long i)

-- what a version's answer says of the answer behind the head
round_of_law : (w v : Version) (r : Result Round Refusal) (start count : ℕ) → with_version w r
    ≡ Ok (record { version = v; start = start; count = count })
    → (w ≡ v) × (r ≡ Ok (record { start = start; count = count }))
round_of_law w v (Ok r) start count e =
    let same : ◌≡◌ {A = VersionRound} (record { version = w; start = r.start; count = r.count })
    (record { version = v; start = start; count = count })
    = cc in
    (ap (λ (x : VersionRound). x.version) same, λ i. Ok (record { start = (same i).start; count = (same i).count }))
round_of_law w v (Err cause) start count e = not_refused e

-- of a file that is accepted behind its head
behind : (w : Version) (at : ℕ) (s room : List ℕ) (start count : ℕ) → Bytes s → take at s ≡ head_bytes w
    → (rest_read at s room).answer ≡ Ok (record { start = start; count = count })
    → s ≡ file_bytes (head_bytes w) start (take count (rest_read at s room).choices)
behind w at s room start count b head held =
    rest_file at s room start count held b ∙ (λ i. file_bytes (head i) start (chosen at s room start count held))

long_rest : (at : ℕ) (s room : List ℕ) (start count : ℕ) → (rest_read at s room).answer
    ≡ Ok (record { start = start; count = count })
    → at ≤ length s
long_rest at s room start count held = omega (arith, (accepted at s room start count held).long)

-- T-03, T-11: "every accepted file is what the writer would write for it", in the version it was read in
pub version_bytes : (s room : List ℕ) (v : Version) (start count : ℕ) → Bytes s
    → (version_read s room).answer ≡ Ok (record { version = v; start = start; count = count })
    → s ≡ file_bytes (head_bytes v) start (take count (version_read s room).choices)
version_bytes s room v start count b held = by_test (has_version 1 s)
    (λ h.
    let is : version_read s room ≡ in_version One (rest_read 5 s room) = one_read s room h in
    let r = round_of_law One v (rest_read 5 s room).answer start count
    (ap (λ (l : VersionLeft). l.answer) (sym is) ∙ held) in
    behind One 5 s room start count b (head_one s b h) r.1
    ∙ (λ i. file_bytes (head_bytes (r.0 i)) start (take count (sym is i).choices)))
    (λ h. by_test (has_version 2 s)
    (λ k.
    let is : version_read s room ≡ in_version (Two (le16 s 5)) (rest_read 7 s room) = two_read s room k in
    let r = round_of_law (Two (le16 s 5)) v (rest_read 7 s room).answer start count
    (ap (λ (l : VersionLeft). l.answer) (sym is) ∙ held) in
    behind (Two (le16 s 5)) 7 s room start count b (head_two s b k (long_rest 7 s room start count r.1)) r.1
    ∙ (λ i. file_bytes (head_bytes (r.0 i)) start (take count (sym is i).choices)))
    (λ k. not_refused (ap (λ (l : VersionLeft). l.answer) (sym (neither s room h k)) ∙ held)))
  where
    one_read : (s room : List ℕ) → has_version 1 s ≡ true → version_read s room ≡ in_version One (rest_read 5 s room)
    one_read s room h = both_readers s room h ∙ ap (in_version One) (first_read s room h)

-- ---- 15 only there

-- behind the head 16 and 7 are all that is refused
rest_causes_law : (at : ℕ) (s room : List ℕ) → (rest_read at s room).answer ≡ Err NoRoundFile → ⊥
unfolding rest_read
rest_causes_law at s room h =
    by_test (ltb (length s) (at + 4)) (λ e. not_fifteen (omega arith) (rw e at h)) (λ e.
    by_test (eqb (length s) (at + 4 + le16 s (at + 2))) (λ f.
    by_test (ltb (length room) (le16 s (at + 2))) (λ g. not_fifteen (omega arith) (rw (e, f, g) at h)) (λ g.
    not_refused (sym (rw (e, f, g) at h))))
    (λ f. not_fifteen (omega arith) (rw (e, f) at h)))
  where
    not_fifteen : {r : Refusal} → (number_of r ≡ 15 → ⊥) → ◌≡◌ {A = Result Round Refusal} (Err r) (Err NoRoundFile) → ⊥
    not_fifteen {r = r} apart e = let same : r ≡ NoRoundFile = cc in apart (ap number_of same)

-- T-11: 15 means that the file has neither version
pub fifteen_only : (s room : List ℕ) → (version_read s room).answer ≡ Err NoRoundFile
    → (has_version 1 s ≡ false) × (has_version 2 s ≡ false)
fifteen_only s room h = by_test (has_version 1 s)
    (λ e. absurd (rest_causes_law 5 s room (back One (rest_read 5 s room).answer
    (ap (λ (l : VersionLeft). l.answer) (sym (both_readers s room e ∙ ap (in_version One) (first_read s room e)))
    ∙ h))))
    (λ e. by_test (has_version 2 s)
    (λ f. absurd (rest_causes_law 7 s room (back (Two (le16 s 5)) (rest_read 7 s room).answer
    (ap (λ (l : VersionLeft). l.answer) (sym (two_read s room f)) ∙ h))))
    (λ f. (e, f)))
  where
    back : (w : Version) (r : Result Round Refusal) → with_version w r ≡ Err NoRoundFile → r ≡ Err NoRoundFile
    back w (Ok r) e = not_refused (sym e)
    back w (Err r) e = let same : r ≡ NoRoundFile = cc in λ i. Err (same i)

-- ---- at the writer's call

-- the count of an accepted file is one of 16 bits
count_few : (s room : List ℕ) (v : Version) (start count : ℕ) → (version_read s room).answer
    ≡ Ok (record { version = v; start = start; count = count })
    → count ≤ 65535
count_few s room v start count held = by_test (has_version 1 s)
    (λ h. few One 5 (ap (λ (l : VersionLeft). l.answer)
    (sym (both_readers s room h ∙ ap (in_version One) (first_read s room h))) ∙ held))
    (λ h. by_test (has_version 2 s)
    (λ k. few (Two (le16 s 5)) 7 (ap (λ (l : VersionLeft). l.answer) (sym (two_read s room k)) ∙ held))
    (λ k. not_refused (ap (λ (l : VersionLeft). l.answer) (sym (neither s room h k)) ∙ held)))
  where
    few : (w : Version) (at : ℕ) → with_version w (rest_read at s room).answer
        ≡ Ok (record { version = v; start = start; count = count }) → count ≤ 65535
    few w at e =
        let below : le16 s (at + 2) < 65536 = number_below 2 s (at + 2) in
        omega (
          arith,
          (accepted at s room start count
              (round_of_law w v (rest_read at s room).answer start count e).1).counted,
        )

-- into any memory of the file's length or more the writer writes the file, in the version it was read in
pub version_file : (s room : List ℕ) (v : Version) (start count : ℕ) → Bytes s
    → (version_read s room).answer ≡ Ok (record { version = v; start = start; count = count }) → (file : List ℕ)
    → length s ≤ length file
    → written (head_bytes v) start (take count (version_read s room).choices) file
    ≡ written_left (Ok (length s)) (put file 0 s)
version_file s room v start count b held file fits =
    let choices = take count (version_read s room).choices in
    let same : file_bytes (head_bytes v) start choices ≡ s = sym (version_bytes s room v start count b held) in
    let few : length choices ≤ 65535
    = omega (arith, count_few s room v start count held, length-take count (version_read s room).choices) in
    let long : length (file_bytes (head_bytes v) start choices) ≤ length file = rw same fits in
    write_is (head_bytes v) start choices file few long
    ∙ (λ i. written_left (Ok (length (same i))) (put file 0 (same i)))
