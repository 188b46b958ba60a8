-- The format's pieces, grouped as the definition has them.
use Rattle.std.proofs.Common.{rules, append_assoc}
use Rattle.printround.proofs.text.line_with.Goals as goal

pub returns : goal.returns
returns c = search (rules, append_assoc)
