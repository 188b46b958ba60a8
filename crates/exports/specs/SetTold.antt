-- What a caller in C gives and gets of a set of cells (T-09).
use Rattle.std.specs.Prelude.{ℕ, List, get_or, Err}
use Rattle.numbers.specs.Refusals.{Answer}
use Rattle.cells.specs.Memory.{per_list}
use Rattle.sets.specs.CellSet.{CellSet}
use Rattle.sets.specs.Leave.{SetLeft}
use Rattle.sets.specs.MemberEdit.{SetEdited}
use Rattle.sets.specs.WriteMember.{SetWritten}
use Rattle.cells.specs.declared.counts.Counts.{Counts}
use Rattle.exports.specs.Answers.{answer_number, answer_place, if_done}
use Rattle.sets.specs.CrossingCall.{CrossingLeft, crossing_left}
use Rattle.set_rounds.specs.FollowInSet.{follow_in_set}
use Rattle.exports.specs.Found.{Told, told}
use Rattle.exports.specs.Versions.{version_of, of_version}

-- five sizes: of the parts of nodes, links, junctions, heightmap values and refs
abbrev pub sizes_given : List ℕ → Counts
sizes_given s = per_list (get_or s 0 0) (get_or s 1 0) (get_or s 2 0) (get_or s 3 0) (get_or s 4 0)

-- how many members the set has
abbrev pub count_told : Answer → ℕ → ℕ → Told ℕ
count_told a count old = told (answer_number a) (answer_place a) (if_done a count old)

abbrev pub change_told : SetLeft → ℕ → Told ℕ
change_told l old = count_told l.answer l.count old

-- the six lists after an edit of a member
abbrev pub edit_told : SetEdited → Told CellSet
edit_told e = told (answer_number e.answer) (answer_place e.answer) e.lists

-- the same of write-then-read of a member, whose section and length stand beside it
abbrev pub rewritten_told : SetWritten → Told CellSet
rewritten_told w = told (answer_number w.answer) (answer_place w.answer) w.lists

-- a round followed in a set (T-11), whose version and area are said by number
abbrev pub set_followed_as : CellSet → ℕ → ℕ → ℕ → ℕ → List ℕ → List (List ℕ) → CrossingLeft
set_followed_as y v area member start choices visited =
    of_version (version_of v area) (λ k. follow_in_set y k member start choices visited)
    (λ cause. crossing_left (Err cause) visited)
