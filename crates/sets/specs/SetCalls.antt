-- T-09: lists of renumberings and write-then-read calls on the members of a set.
use Rattle.std.specs.Prelude.{ℕ, Bool, false, ◌&&◌, ◌||◌, cond, List, [], ◌∷◌, eqb, length}
use Rattle.cells.specs.Order.{new_place}
use Rattle.cells.specs.Cell.{Cell, ped_flags}
use Rattle.cells.specs.Memory.{Memory}
use Rattle.walks.specs.Calls.{Call, renumbering, write_read, is_done}
use Rattle.sets.specs.Members.{cell_at}
use Rattle.sets.specs.Crossing.{Location, location}
use Rattle.sets.specs.MemberList.{cells_of}
use Rattle.sets.specs.SetRenumber.{renumber_in, write_read_in}

-- one call of demand 3, on a member
pub record SetCall : Type 0 where
  pub member : ℕ
  pub call : Call

abbrev pub after_call : List Memory → ℕ → Call → List Memory
after_call ms j (renumbering scratch places) = (renumber_in ms j (length scratch) places).members
after_call ms j (write_read section) = (write_read_in ms j section).members

-- the members as a call leaves them
unfoldable pub after_in : List Memory → SetCall → List Memory
after_in ms k = after_call ms k.member k.call

-- after a list of calls, each of which gets what the one before it left
unfoldable pub run_in : List Memory → List SetCall → List Memory
run_in ms [] = ms
run_in ms (k ∷ ks) = run_in (after_in ms k) ks

abbrev pub call_renumbers : List Memory → ℕ → Call → Bool
call_renumbers ms j (renumbering scratch places) = is_done (renumber_in ms j (length scratch) places).answer
call_renumbers ms j (write_read section) = false

-- this call is a renumbering, and it is accepted
unfoldable pub renumbers_in : List Memory → SetCall → Bool
renumbers_in ms k = call_renumbers ms k.member k.call

-- where a node stands after an accepted renumbering of the member j: moved as section 4's order says if it is the
-- member's, else where it stood
abbrev pub moves_to : List Cell → ℕ → Location → Location
moves_to cs j s =
    location s.member (cond (eqb s.member j) (new_place (ped_flags (cell_at cs j).nodes) s.place) s.place)

-- where the node that is at a location before the calls stands after them
unfoldable pub moved_in : List Memory → List SetCall → Location → Location
moved_in ms [] s = s
moved_in ms (k ∷ ks) s = moved_in (after_in ms k) ks (cond (renumbers_in ms k) (moves_to (cells_of ms) k.member s) s)

-- some renumbering of the member i in the list is accepted
unfoldable pub any_renumbers_in : List Memory → List SetCall → ℕ → Bool
any_renumbers_in ms [] i = false
any_renumbers_in ms (k ∷ ks) i = (eqb i k.member && renumbers_in ms k) || any_renumbers_in (after_in ms k) ks i
