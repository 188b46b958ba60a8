-- T-09: the call `set_sound`, of a set in six lent lists. It says yes exactly where the set is sound. Of the six
-- lists it looks at entries, nodes, links and refs.
use Rattle.std.specs.Prelude.{ℕ, not, List, [], ◌∷◌, ltb, length}
use Rattle.numbers.specs.Refusals.{Cause, when, decided}
use Rattle.cells.specs.Cell.{Cell, numbers}
use Rattle.walks.specs.SoundCall.{verdict, indexed, SoundLeft, sound_left}
use Rattle.sets.specs.MemberList.{cells_of, over_set, unless}
use Rattle.sets.specs.SetSound.{set_sound}
use Rattle.sets.specs.CellSet.{CellSet, members_of, holds_list}
use Rattle.std.specs.Prelude.{Err}
use Rattle.numbers.specs.declared.refusal.Refusal.TheVariants.{TooShort, AtLimit}
use Rattle.numbers.specs.declared.refusal.Lent.TheVariants as lent

-- The scratch after each member's nodes were stored in it by their numbers, as a cell's soundness leaves it, one
-- member after the other in the order of joining. It is so whatever the answer.
unfoldable pub indexed_set : List Cell → List ℕ → List ℕ
indexed_set [] s = s
indexed_set (c ∷ cs) s = indexed_set cs (indexed (numbers c.nodes) 0 s)

-- In their order: 14 a set over a limit; 7 at 0, 1 and 4 a list of nodes, links or refs that doesn't hold the
-- members; 7 at 6 a scratch with fewer than 65,536 entries.
unfoldable pub sound_causes : CellSet → ℕ → List Cause
sound_causes y room =
    when (over_set (members_of y)) AtLimit
    ∷ when (not (holds_list 10 15 y.members (length y.nodes))) (TooShort lent.Nodes)
    ∷ when (not (holds_list 11 16 y.members (length y.links))) (TooShort lent.Links)
    ∷ when (not (holds_list 14 19 y.members (length y.refs))) (TooShort lent.Refs)
    ∷ when (ltb room 65536) (TooShort lent.Scratch)
    ∷ []

-- A refusal leaves the scratch as it was.
unfoldable pub set_sound_call : CellSet → List ℕ → SoundLeft
set_sound_call y scratch =
    unless (decided (sound_causes y (length scratch))) (λ cause. sound_left (Err cause) scratch)
    (sound_left (verdict (set_sound (cells_of (members_of y)))) (indexed_set (cells_of (members_of y)) scratch))
