-- Demand 3 over the calls themselves: a cell is read and checked; a walk, a renumbering, a write-then-read; and the
-- walk again, from where its start then stands.
use Rattle.std.specs.Prelude.{ℕ, ◌≡◌, Bool, true, false, cond, List, [], ◌∷◌, map, leb, length, get_or, take}
use Rattle.std.specs.Prelude.{Result, Ok, Err}
use Rattle.numbers.specs.Refusals.{Answer}
use Rattle.numbers.specs.declared.refusal.Refusal.{Refusal}
use Rattle.cells.specs.Cell.{Cell}
use Rattle.cells.specs.Memory.{Memory, memory}
use Rattle.cells.specs.Read.{read_of}
use Rattle.cells.specs.Renumber.{renumber, scratch_left}
use Rattle.cells.specs.WriteRead.{write_read_of}
use Rattle.walks.specs.SoundCall.{sound_call}
use Rattle.walks.specs.WalkCall.{walk_call}
use Rattle.walks.specs.Calls.{Call, renumbering, write_read}
use Rattle.walks.specs.Claim.{SameWalk}
use Rattle.walks.specs.Walk.{walk}
use Rattle.walks.specs.declared.walk.Walked.{Walked}
use Rattle.demand3.specs.declared.again.Walks.{Walks}
use Rattle.demand3.specs.declared.again.Walks.TheVariants.{Both, NoStart, Unsound, NotChecked, Refused}
use Rattle.demand3.specs.declared.again.Again.{Again}
use Rattle.cells.specs.declared.node_entry.NodeEntry.{NodeEntry}
use Rattle.cells.specs.declared.link.PathLink.{PathLink}
use Rattle.cells.specs.declared.junction_entry.JunctionEntry.{JunctionEntry}
use Rattle.records.specs.declared.junction_ref.NodeJunctionRef.{NodeJunctionRef}

-- what the call answers, and what it leaves of the cell's memory and of the lists lent; for the scratch see
-- `scratch_after`
pub record AgainLeft : Type 0 where
  pub walks : Walks
  pub memory : Memory
  pub places : List ℕ
  pub section : List ℕ
  pub visited : List ℕ
  pub later : List ℕ

abbrev pub again_left : Again → List NodeEntry → List PathLink → List JunctionEntry → List ℕ
    → List NodeJunctionRef → List ℕ → List ℕ → List ℕ → List ℕ → AgainLeft
again_left r nodes links junctions heights refs places section visited later = record {
  walks = r.walks;
  memory = memory r.ynd nodes links junctions heights refs;
  places = places;
  section = section;
  visited = visited;
  later = later;
}

-- a renumbering and a write-then-read: what the first answers, and what both leave
pub record RenewLeft : Type 0 where
  pub answer : Answer
  pub memory : Memory
  pub places : List ℕ
  pub section : List ℕ

-- where the node at place p stands after a renumbering that gave this answer and left these new places
abbrev pub place_after : Answer → List ℕ → ℕ → ℕ
place_after (Ok tt) places p = get_or places p 0
place_after (Err cause) places p = p

-- with a scratch of so many entries
unfoldable pub renew : Memory → ℕ → List ℕ → List ℕ → RenewLeft
renew m scratch places section =
    let r = renumber m scratch places in
    let w = write_read_of r.memory section in
    record { answer = r.answer; memory = w.memory; places = r.places; section = w.section }

-- from the memory of a sound cell
unfoldable pub both_walks : Memory → ℕ → List ℕ → List ℕ → List ℕ → ℕ → List ℕ → List ℕ → AgainLeft
both_walks m scratch places section choices start visited later =
    let n = renew m scratch places section in
    let before = walk_call m choices start visited in
    let after = walk_call n.memory choices (place_after n.answer n.places start) later in
    record {
      walks = Both before.answer after.answer;
      memory = n.memory;
      places = n.places;
      section = n.section;
      visited = before.visited;
      later = after.visited;
    }

-- the walks are not made
abbrev pub stopped : Memory → List ℕ → List ℕ → List ℕ → List ℕ → Walks → AgainLeft
stopped m places section visited later w = record {
  walks = w;
  memory = m;
  places = places;
  section = section;
  visited = visited;
  later = later;
}

abbrev pub if_sound : Result Bool Refusal → (Walks → AgainLeft) → AgainLeft → AgainLeft
if_sound (Ok true) stop next = next
if_sound (Ok false) stop next = stop Unsound
if_sound (Err cause) stop next = stop (NotChecked cause)

-- from the memory that a reading left
unfoldable pub sound_walks : Memory → List ℕ → List ℕ → List ℕ → List ℕ → ℕ → List ℕ → List ℕ → AgainLeft
sound_walks m scratch places section choices start visited later =
    let stop = stopped m places section visited later in
    if_sound (sound_call m scratch).answer stop
    (cond (leb m.ynd.node_count start) (stop NoStart)
    (both_walks m (length scratch) places section choices start visited later))

abbrev pub if_read : Answer → (Walks → AgainLeft) → AgainLeft → AgainLeft
if_read (Ok tt) stop next = next
if_read (Err cause) stop next = stop (Refused cause)

unfoldable pub walk_again : List ℕ → List ℕ → Memory → List ℕ → List ℕ → List ℕ → List ℕ
    → ℕ → List ℕ → List ℕ → AgainLeft
walk_again system graphics lent scratch places section choices start visited later =
    let r = read_of system graphics lent in
    if_read r.answer (stopped r.memory places section visited later)
    (sound_walks r.memory scratch places section choices start visited later)

-- The scratch, of the memory m that a reading left: as it was where the reading was refused; after the check as the
-- check leaves it; after the calls as renumbering leaves it.
abbrev pub scratch_after : Walks → Memory → List ℕ → List ℕ → List ℕ → Type 0
scratch_after (Both before after) m places scratch left =
    scratch_left (renumber m (length scratch) places).answer (sound_call m scratch).scratch left
scratch_after NoStart m places scratch left = left ≡ (sound_call m scratch).scratch
scratch_after Unsound m places scratch left = left ≡ (sound_call m scratch).scratch
scratch_after (NotChecked cause) m places scratch left = left ≡ (sound_call m scratch).scratch
scratch_after (Refused cause) m places scratch left = left ≡ scratch

-- ---- what demand 3 says of it

-- the two calls between the walks
abbrev pub calls : List ℕ → List ℕ → List ℕ → List Call
calls scratch places section = renumbering scratch places ∷ write_read section ∷ []

abbrev pub SamePlaces : (ℕ → ℕ) → Result Walked Refusal → List ℕ → List ℕ → Type 0
SamePlaces f (Ok w) visited later = take w.count later ≡ map f (take w.count visited)
SamePlaces f (Err cause) visited later = Unit {0}

-- Both walks answer the same, and the places visited are those of the first, each moved on.
abbrev pub SameWalks : (ℕ → ℕ) → Walks → List ℕ → List ℕ → Type 0
SameWalks f (Both before after) visited later = (after ≡ before) × SamePlaces f after visited later
SameWalks f NoStart visited later = Unit {0}
SameWalks f Unsound visited later = Unit {0}
SameWalks f (NotChecked cause) visited later = Unit {0}
SameWalks f (Refused cause) visited later = Unit {0}

-- The second walk, in the cell that is there now, shows what the first showed in the cell as read: every part of
-- `SameWalk`.
abbrev pub SameShown : (ℕ → ℕ) → Cell → Cell → List ℕ → ℕ → Walks → Type 0
SameShown f first now choices start (Both before after) =
    SameWalk f (walk first choices start) (walk now choices (f start))
SameShown f first now choices start NoStart = Unit {0}
SameShown f first now choices start Unsound = Unit {0}
SameShown f first now choices start (NotChecked cause) = Unit {0}
SameShown f first now choices start (Refused cause) = Unit {0}
