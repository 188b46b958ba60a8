-- The line of what was read is the line of the whole input.
use Rattle.std.proofs.Common.{ap, ◌∙◌}
use Rattle.cellsum.specs.Line.{line_of}
use Rattle.cellsum.proofs.Enough.{enough}
use Rattle.cellsum.proofs.answer.Goals as goal

pub returns : goal.returns
returns c = λ bytes e. c.line.ensures ∙ ap line_of e ∙ enough bytes
