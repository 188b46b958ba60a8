-- What a caller in C gives and gets of a round's version (T-11): its number, and the area of a round of version 2.
use Rattle.std.specs.Prelude.{ℕ, List, cond, eqb, Result, Ok, Err}
use Rattle.numbers.specs.declared.refusal.Refusal.{Refusal}
use Rattle.numbers.specs.declared.refusal.Refusal.TheVariants.{NoRoundFile}
use Rattle.cells.specs.Memory.{Memory}
use Rattle.walks.specs.WalkCall.{WalkLeft, walk_left}
use Rattle.rounds.specs.Follow.{follow_version}
use Rattle.rounds.specs.Round.{head_bytes, WrittenLeft, written, written_left}
use Rattle.rounds.specs.declared.file.Version.{Version}
use Rattle.rounds.specs.declared.file.Version.TheVariants.{One, Two}
use Rattle.rounds.specs.declared.file.VersionRound.{VersionRound}
use Rattle.exports.specs.Found.{Told, told_of}

abbrev pub version_number : Version → ℕ
version_number One = 1
version_number (Two area) = 2

-- a version 1 file says no area, and 0 is told
abbrev pub version_area : Version → ℕ
version_area One = 0
version_area (Two area) = area

-- the version and the area, the start node's number, and how many choices there are
pub record VersionHead : Type 0 where
  pub version : ℕ
  pub area : ℕ
  pub start : ℕ
  pub count : ℕ

abbrev pub version_head : ℕ → ℕ → ℕ → ℕ → VersionHead
version_head v area start count = record { version = v; area = area; start = start; count = count }

abbrev pub head_told : VersionRound → VersionHead
head_told r = version_head (version_number r.version) (version_area r.version) r.start r.count

abbrev pub version_told : Result VersionRound Refusal → VersionHead → Told VersionHead
version_told r old = told_of r head_told old

-- T-11: 15 "for every version but 1 and 2"
abbrev pub version_of : ℕ → ℕ → Result Version Refusal
version_of v area = cond (eqb v 1) (Ok One) (cond (eqb v 2) (Ok (Two area)) (Err NoRoundFile))

-- what is done with the version, else what a refusal gets
abbrev pub of_version : {A : Type 0} → Result Version Refusal → (Version → A) → (Refusal → A) → A
of_version (Ok version) does refused = does version
of_version (Err cause) does refused = refused cause

abbrev pub written_as : ℕ → ℕ → ℕ → List ℕ → List ℕ → WrittenLeft
written_as v area start choices file =
    of_version (version_of v area) (λ k. written (head_bytes k) start choices file)
    (λ cause. written_left (Err cause) file)

abbrev pub followed_as : Memory → ℕ → ℕ → ℕ → List ℕ → List ℕ → WalkLeft
followed_as m v area start choices visited =
    of_version (version_of v area) (λ k. follow_version m k start choices visited)
    (λ cause. walk_left (Err cause) visited)
