-- Sets whose members are all made cells, and the arguments that a set's calls can have.
use Rattle.std.specs.Prelude.{ℕ, ◌<◌, ◌≡◌, List, [], ◌∷◌, length, get_or}
use Rattle.cells.specs.Memory.{Memory}
use Rattle.sets.specs.MemberList.{member_at}
use Rattle.sets.specs.CellSet.{CellSet, members_of}
use Rattle.drawn.specs.Fits.{EditFits}
use Rattle.drawn.specs.Made.{Made}
use Rattle.drawnsets.specs.SetChanges.{SetChange, joining, leaving, renumbering, write_read, edit, put_words}

abbrev pub MadeList : List Memory → Type 0
MadeList ms = (i : ℕ) → i < length ms → Made (member_at ms i)

-- each member, as a cell's memory of its own
abbrev pub AllMade : CellSet → Type 0
AllMade y = MadeList (members_of y)

abbrev pub WordsFit : List ℕ → Type 0
WordsFit words = (length words ≡ 7) × ((i : ℕ) → i < length words → get_or words i 0 < 4294967296)

-- what joins is a made cell; numbers fit the types of the functions' parameters
abbrev pub SetFits : SetChange → Type 0
SetFits (joining m sizes room) = Made m
SetFits (leaving area) = Unit {0}
SetFits (renumbering j scratch places) = Unit {0}
SetFits (write_read j section) = Unit {0}
SetFits (edit j e) = EditFits e
SetFits (put_words j vft vehicles peds words) =
    (vft < 4294967296) × (vehicles < 4294967296) × (peds < 4294967296) × WordsFit words

unfoldable pub AllFit : List SetChange → Type 0
AllFit [] = Unit {0}
AllFit (k ∷ ks) = SetFits k × AllFit ks
