-- The low half, then the high one.
use Rattle.std.proofs.Common.{arith}
use Rattle.records.proofs.LittleEndian.{number_split}
use Rattle.records.proofs.stored.U64Stored.read.Goals as goal

pub returns : goal.returns
returns c = omega (arith, number_split 4 4 c.args.s.now c.args.at)
