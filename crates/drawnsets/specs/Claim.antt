-- Every cell of a set that calls can make: what is claimed. Laws: proofs/SetMade.
use Rattle.std.specs.Prelude.{ℕ, ◌<◌, ◌≡◌, true, List, [], length}
use Rattle.std.specs.Prelude.{Ok}
use Rattle.cells.specs.declared.node_entry.NodeEntry.{NodeEntry}
use Rattle.cells.specs.declared.link.PathLink.{PathLink}
use Rattle.cells.specs.declared.junction_entry.JunctionEntry.{JunctionEntry}
use Rattle.records.specs.declared.junction_ref.NodeJunctionRef.{NodeJunctionRef}
use Rattle.cells.specs.Memory.{Memory}
use Rattle.cells.specs.CellOf.{cell_of}
use Rattle.sets.specs.MemberList.{member_at, cells_of}
use Rattle.sets.specs.CellSet.{CellSet, cell_set}
use Rattle.sets.specs.HandBack.{hand_back}
use Rattle.sets.specs.SetSound.{set_sound}
use Rattle.sets.specs.SetCalls.{SetCall}
use Rattle.sets.specs.SetClaim.{SetUnnoticed}
use Rattle.sets.specs.SetCallsClaim.{CallsUnnoticed}
use Rattle.sets.specs.CellSet.{cells_in}
use Rattle.sets.specs.SetStored.{member_in}
use Rattle.drawn.specs.Made.{Made, Stored}
use Rattle.drawnsets.specs.SetChanges.{SetChange, run}
use Rattle.drawnsets.specs.AllMade.{MadeList, AllMade, AllFit}

-- Whatever calls a set went through, accepted or refused: if its members were made cells, they are. With the laws of
-- drawn, each member is walked, written and edited as such a cell.
abbrev pub MembersMade : Type 0
MembersMade = (y : CellSet) → AllMade y → (ks : List SetChange) → AllFit ks → AllMade (run y ks)

-- So from a set without members, in any five lists.
abbrev pub SetDrawn : Type 0
SetDrawn =
    (nodes : List NodeEntry) (links : List PathLink) (junctions : List JunctionEntry) (heights : List ℕ)
    (refs : List NodeJunctionRef) (ks : List SetChange) → AllFit ks
    → AllMade (run (cell_set [] nodes links junctions heights refs) ks)

-- T-09's sentence of drawn members: for a sound set whose members are made cells with stored coordinates and flags5,
-- every list of renumberings and write-then-read calls on any of them. `SetUnnoticedTheorem` of sets is this for
-- cells as read.
abbrev pub MadeSetUnnoticed : Type 0
MadeSetUnnoticed =
    (ms : List Memory) → MadeList ms → ((i : ℕ) → i < length ms → Stored (cell_of (member_at ms i)))
    → set_sound (cells_of ms) ≡ true → (calls : List SetCall) → SetUnnoticed ms calls

-- The same of the calls on the six lists that hold such a set: `CallsUnnoticedTheorem` of sets, for drawn members. Of
-- a set that its calls refuse it holds too: they change nothing.
abbrev pub MadeCallsUnnoticed : Type 0
MadeCallsUnnoticed =
    (y : CellSet) → AllMade y → ((i : ℕ) → i < length y.members → Stored (cell_of (member_in y i)))
    → set_sound (cells_in y) ≡ true → (calls : List SetCall) → CallsUnnoticed y calls

-- What is handed back before a member leaves is a made cell, in the lists lent for it.
abbrev pub HandedMade : Type 0
HandedMade =
    (y : CellSet) → AllMade y → (area : ℕ) (lent : Memory) → (hand_back y area lent).answer ≡ (Ok tt)
    → Made (hand_back y area lent).memory
