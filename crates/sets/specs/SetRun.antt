-- T-09: lists of renumberings and write-then-read calls on the members of a set in six lent lists, each by the
-- definition that the call's contract cites.
use Rattle.std.specs.Prelude.{ℕ, Bool, false, ◌&&◌, ◌||◌, cond, List, [], ◌∷◌, eqb, length}
use Rattle.walks.specs.Calls.{Call, renumbering, write_read, is_done}
use Rattle.sets.specs.Crossing.{Location}
use Rattle.sets.specs.MemberList.{cells_of}
use Rattle.sets.specs.SetCalls.{SetCall, moves_to}
use Rattle.sets.specs.CellSet.{CellSet, members_of}
use Rattle.sets.specs.RenumberMember.{renumber_member}
use Rattle.sets.specs.WriteMember.{write_read_member}

abbrev pub lists_after : CellSet → ℕ → Call → CellSet
lists_after y j (renumbering scratch places) = (renumber_member y j (length scratch) places).lists
lists_after y j (write_read section) = (write_read_member y j section).lists

-- the six lists as a call leaves them
unfoldable pub after_on : CellSet → SetCall → CellSet
after_on y k = lists_after y k.member k.call

-- after a list of calls, each of which gets what the one before it left
unfoldable pub run_set : CellSet → List SetCall → CellSet
run_set y [] = y
run_set y (k ∷ ks) = run_set (after_on y k) ks

abbrev pub call_renumbers_on : CellSet → ℕ → Call → Bool
call_renumbers_on y j (renumbering scratch places) = is_done (renumber_member y j (length scratch) places).answer
call_renumbers_on y j (write_read section) = false

-- this call is a renumbering, and it is accepted
unfoldable pub renumbers_on : CellSet → SetCall → Bool
renumbers_on y k = call_renumbers_on y k.member k.call

-- where the node that is at a location before the calls stands after them
unfoldable pub moved_on : CellSet → List SetCall → Location → Location
moved_on y [] s = s
moved_on y (k ∷ ks) s =
    moved_on (after_on y k) ks (cond (renumbers_on y k) (moves_to (cells_of (members_of y)) k.member s) s)

-- some renumbering of the member i in the list is accepted
unfoldable pub any_renumbers_on : CellSet → List SetCall → ℕ → Bool
any_renumbers_on y [] i = false
any_renumbers_on y (k ∷ ks) i = (eqb i k.member && renumbers_on y k) || any_renumbers_on (after_on y k) ks i
