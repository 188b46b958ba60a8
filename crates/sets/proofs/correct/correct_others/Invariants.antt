use Rattle.std.proofs.Common.{◌≡◌}
use Rattle.cells.specs.Order.{Old}
use Rattle.sets.specs.RenumberMember.{correct_parts}
use Rattle.sets.specs.CorrectParts.{Tells, change_in}
use Rattle.sets.proofs.CorrectLaws.{whole}
use Rattle.sets.proofs.correct.correct_others.Given as goal

abbrev pub invariant-loop-i : goal.invariant-loop-i
invariant-loop-i l =
    (o : Old) → Tells o l.table
    → correct_parts (change_in l.members l.nodes l.j o) 0 l.members l.initial.links
    ≡ whole (change_in l.members l.nodes l.j o) l.members l.i l.links
