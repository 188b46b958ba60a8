-- The law at the bytes of walks' Example: the nodes 7, 3 and 9 stand at the places 0, 2 and 1 after the calls, since 3
-- is a ped node; and these are their numbers.
-- Assumes nothing.
use Prim.Native.Nat.{ℕ}
use mathlib.Core.Path.{◌≡◌, refl, ap, ◌∙◌}
use mathlib.Core.Bool.{true}
use mathlib.Core.List.{List, [], ◌∷◌}
use lib.ListN.{get_or}
use Rattle.std.specs.Prelude.{codes}
use Rattle.cells.specs.CellOf.{nodes_of}
use Rattle.walks.specs.Calls.{Call, run, moved, any_renumbers}
use Rattle.walks.proofs.Example.{bytes, room, reads, is_sound, first, accepted, refused, stored_read, renumbered}
use Rattle.walks.proofs.Example.{moves}
use Rattle.printround.specs.SameRound.{walk_text, walk_text_with}
use Rattle.printround.proofs.OtherNumbers.{choices, nodes, with_others, three_numbers, is_inside}
use Rattle.printround.proofs.RoundsAlike.{printed_rounds_same}

-- an accepted renumbering, a refused one and a write-then-read
abbrev pub calls : List Call
calls = accepted ∷ refused ∷ stored_read ∷ []

once : any_renumbers first calls ≡ true
unfolding any_renumbers
once = rw renumbered refl

pub printed_after : walk_text (nodes_of (run first calls)) choices 2 (moved first calls 0)
    ≡ codes
    "round area 5 choices 2\n0 node 0 x 32 y 36 z 96\n1 node 2 x 0 y 4 z 64\n2 node 1 x 64 y 68 z 128\nend done\n"
printed_after =
    (printed_rounds_same bytes [] room reads is_sound calls 0 is_inside).then_places once choices 2
    ∙ three_numbers (moved first calls)
    ∙ ap (λ (l : List ℕ). walk_text_with (λ p. get_or l p 0) nodes choices 2 0) moves
    ∙ with_others
