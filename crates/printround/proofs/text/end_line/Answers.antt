-- The format's pieces, grouped as the definition has them.
use Rattle.std.proofs.Common.{rules, append_assoc}
use Rattle.printround.proofs.text.end_line.Goals as goal

pub returns-in-Left : goal.returns-in-Left
returns-in-Left c = rw c.in-Left.is (search (rules, append_assoc))
