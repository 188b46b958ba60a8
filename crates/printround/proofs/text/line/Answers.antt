use Rattle.printround.specs.Text.{line_of}
use Rattle.printround.proofs.text.line.Goals as goal

pub returns : goal.returns
unfolding line_of
returns c = rw c.steps_of.ensures at c.line_with.ensures
