-- T-03, T-11: the round file. Numbers are little-endian.
use Rattle.std.specs.Prelude.{ℕ, ◌+◌, Bool, false, not, ◌&&◌, cond, List, [], ◌∷◌, ◌++◌, ltb, eqb, length, drop}
use Rattle.std.specs.Prelude.{Result, Ok, Err}
use Rattle.numbers.specs.Refusals.{Cause, when, Answer, decided}
use Rattle.numbers.specs.declared.refusal.Refusal.{Refusal}
use Rattle.numbers.specs.declared.refusal.Refusal.TheVariants.{TooShort, NoRoundFile, WrongLength}
use Rattle.numbers.specs.declared.refusal.Lent.TheVariants as lent
use Rattle.records.specs.Bytes.{byte_at, le16, bytes16}
use Rattle.records.specs.Put.{put}
use Rattle.rounds.specs.declared.file.Version.{Version}
use Rattle.rounds.specs.declared.file.Version.TheVariants.{One, Two}
use Rattle.rounds.specs.declared.file.Round.{Round}
use Rattle.rounds.specs.declared.file.VersionRound.{VersionRound}

-- ---- the bytes of a round

-- T-03: the mark RND (three bytes), version 1 (16 bits), T-11: "Version 2 writes the 16-bit area after the version",
unfoldable pub head_bytes : Version → List ℕ
head_bytes One = 82 ∷ 78 ∷ 68 ∷ 1 ∷ 0 ∷ []
head_bytes (Two area) = 82 ∷ 78 ∷ 68 ∷ 2 ∷ 0 ∷ bytes16 area

-- the number of the start node (16 bits), the count of choices (16 bits),
unfoldable pub rest_bytes : ℕ → ℕ → List ℕ
rest_bytes start count = bytes16 start ++ bytes16 count

-- then one byte a choice.
unfoldable pub file_bytes : List ℕ → ℕ → List ℕ → List ℕ
file_bytes head start choices = head ++ rest_bytes start (length choices) ++ choices

abbrev pub round_bytes : ℕ → List ℕ → List ℕ
round_bytes start choices = file_bytes (head_bytes One) start choices

-- ---- what a refusal leaves, or else what follows

abbrev pub unless : {A : Type 0} → Answer → (Refusal → A) → A → A
unless (Ok _) refused next = next
unless (Err cause) refused next = refused cause

-- ---- reading: what is answered, and the choices' memory after it

pub record RoundLeft : Type 0 where
  pub answer : Result Round Refusal
  pub choices : List ℕ

abbrev pub round_left : Result Round Refusal → List ℕ → RoundLeft
round_left a choices = record { answer = a; choices = choices }

-- T-03: the first five bytes are the mark and this version.
unfoldable pub has_version : ℕ → List ℕ → Bool
has_version v s =
    cond (ltb (length s) 5) false
    (eqb (byte_at s 0) 82 && eqb (byte_at s 1) 78 && eqb (byte_at s 2) 68 && eqb (le16 s 3) v)

-- T-03, of a file of `long` bytes whose head takes `at` of them, which is 5: 16 when the file is under 9 bytes or its
-- length isn't 9 plus the count; 7 at 8 when the choices' memory is too short. T-11: of version 2 the head takes 7,
-- "so the length is 11 plus the count": "Refusal 16 uses the length of the version found."
abbrev pub rest_causes : ℕ → ℕ → ℕ → ℕ → List Cause
rest_causes at long count room =
    when (ltb long (at + 4)) WrongLength ∷ when (not (eqb long (at + 4 + count))) WrongLength
    ∷ when (ltb room count) (TooShort lent.List) ∷ []

-- The start number and the count, and the choices in the first entries of their memory.
unfoldable pub rest_read : ℕ → List ℕ → List ℕ → RoundLeft
rest_read at s choices =
    unless (decided (rest_causes at (length s) (le16 s (at + 2)) (length choices)))
    (λ cause. round_left (Err cause) choices)
    (round_left (Ok (record { start = le16 s at; count = le16 s (at + 2) })) (put choices 0 (drop (at + 4) s)))

-- T-03: 15 when the first five bytes aren't the mark and version 1, and next 16.
unfoldable pub round_read : List ℕ → List ℕ → RoundLeft
round_read s choices =
    unless (decided (when (not (has_version 1 s)) NoRoundFile ∷ []))
    (λ cause. round_left (Err cause) choices)
    (rest_read 5 s choices)

-- T-11: what is answered, with the version that was found, and the choices' memory after it
pub record VersionLeft : Type 0 where
  pub answer : Result VersionRound Refusal
  pub choices : List ℕ

abbrev pub version_left : Result VersionRound Refusal → List ℕ → VersionLeft
version_left a choices = record { answer = a; choices = choices }

abbrev pub with_version : Version → Result Round Refusal → Result VersionRound Refusal
with_version v (Ok r) = Ok (record { version = v; start = r.start; count = r.count })
with_version v (Err cause) = Err cause

abbrev pub in_version : Version → RoundLeft → VersionLeft
in_version v l = version_left (with_version v l.answer) l.choices

-- T-11: "The new reader takes both versions"; 15 "for every version but 1 and 2".
unfoldable pub version_read : List ℕ → List ℕ → VersionLeft
version_read s choices =
    cond (has_version 1 s) (in_version One (rest_read 5 s choices))
    (cond (has_version 2 s) (in_version (Two (le16 s 5)) (rest_read 7 s choices))
    (version_left (Err NoRoundFile) choices))

-- ---- writing: what is answered, and the file's memory after it

pub record WrittenLeft : Type 0 where
  pub answer : Result ℕ Refusal
  pub file : List ℕ

abbrev pub written_left : Result ℕ Refusal → List ℕ → WrittenLeft
written_left a file = record { answer = a; file = file }

-- T-03: 16 when the writer gets over 65,535 choices; 7 at 8 when the file's memory is too short.
abbrev pub write_causes : ℕ → ℕ → ℕ → List Cause
write_causes count long room = when (ltb 65535 count) WrongLength ∷ when (ltb room long) (TooShort lent.List) ∷ []

-- The file's length; later bytes stay. The head says the version.
unfoldable pub written : List ℕ → ℕ → List ℕ → List ℕ → WrittenLeft
written head start choices file =
    let bytes = file_bytes head start choices in
    unless (decided (write_causes (length choices) (length bytes) (length file)))
    (λ cause. written_left (Err cause) file)
    (written_left (Ok (length bytes)) (put file 0 bytes))
