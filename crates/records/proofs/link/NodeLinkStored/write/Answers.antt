-- Field by field, one behind the other.
use Rattle.std.proofs.Common.{arith}
use Rattle.records.specs.Bytes.{number_bytes}
use Rattle.records.specs.Records.{link_bytes}
use Rattle.records.proofs.Puts.{fields_put, next, done}
use Rattle.records.proofs.link.NodeLinkStored.write.Goals as goal

pub returns : goal.returns
unfolding link_bytes number_bytes
returns c =
    fields_put c.args.at (omega arith)
    (next c.write.ensures (next c.write-2.ensures (next c.write-3.ensures (next c.write-4.ensures (
    next c.write-5.ensures (next c.write-6.ensures done))))))
