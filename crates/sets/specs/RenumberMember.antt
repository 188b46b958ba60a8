-- T-09: renumbering one member of a set in six lent lists. "Renumbering one member also corrects the links in the
-- others that name its area and that their own cell's rule doesn't claim."
use Rattle.std.specs.Prelude.{ℕ, suc, cond, List, [], ◌∷◌, ◌++◌, map, eqb, take, drop}
use Rattle.numbers.specs.Refusals.{Answer, decided}
use Rattle.cells.specs.Memory.{Memory}
use Rattle.cells.specs.Renumber.{Renumbered, over, renumber}
use Rattle.sets.specs.MemberList.{cells_of, unless}
use Rattle.sets.specs.SetRenumber.{Change, change_of, correct_link}
use Rattle.sets.specs.CellSet.{CellSet, cell_set, word, members_of}
use Rattle.sets.specs.SetStored.{member_in, ask_causes, with_member}
use Rattle.std.specs.Prelude.{Ok, Err}
use Rattle.cells.specs.declared.link.PathLink.{PathLink}

-- what the call answers, and the six lists and the list of new places after it
pub record MemberRenumbered : Type 0 where
  pub answer : Answer
  pub lists : CellSet
  pub places : List ℕ

abbrev pub member_renumbered : Answer → CellSet → List ℕ → MemberRenumbered
member_renumbered a y places = record { answer = a; lists = y; places = places }

-- ---- the links of the others

-- The part of the member i: each of the links that its count says, once. Entries behind them stay, and so does the
-- part of the member that is renumbered.
abbrev pub correct_part : Change → ℕ → ℕ → List PathLink → List PathLink
correct_part x i count part = cond (eqb i x.member) part (over (map (correct_link x i)) count part)

-- the parts of the members with these entries, the first of which is the member i; what is behind all parts stays
unfoldable pub correct_parts : Change → ℕ → List (List ℕ) → List PathLink → List PathLink
correct_parts x i [] l = l
correct_parts x i (w ∷ ws) l =
    correct_part x i (word 11 w) (take (word 16 w) l) ++ correct_parts x (suc i) ws (drop (word 16 w) l)

-- the six lists with the links of all members but j corrected
unfoldable pub others_corrected : CellSet → ℕ → CellSet
others_corrected y j =
    let x = change_of (cells_of (members_of y)) j in
    cell_set y.members y.nodes (correct_parts x 0 y.members y.links) y.junctions y.heights y.refs

-- ---- the call

-- a refusal leaves all six lists as they were
abbrev pub lists_after : Answer → CellSet → ℕ → Memory → CellSet
lists_after (Ok _) y j m = with_member (others_corrected y j) j m
lists_after (Err cause) y j m = y

abbrev pub renumbered_at : CellSet → ℕ → Renumbered → MemberRenumbered
renumbered_at y j r = member_renumbered r.answer (lists_after r.answer y j r.memory) r.places

-- 13, 14 and 7 as every call on a member; else as the member's own renumbering answers
unfoldable pub renumber_member : CellSet → ℕ → ℕ → List ℕ → MemberRenumbered
renumber_member y j scratch places =
    unless (decided (ask_causes y j)) (λ cause. member_renumbered (Err cause) y places)
    (renumbered_at y j (renumber (member_in y j) scratch places))
