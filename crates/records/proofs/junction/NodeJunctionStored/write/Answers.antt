-- Field by field, one behind the other.
use Rattle.std.proofs.Common.{arith}
use Rattle.records.specs.Bytes.{number_bytes}
use Rattle.records.specs.Records.{junction_bytes}
use Rattle.records.proofs.LittleEndian.{signed_put}
use Rattle.records.proofs.Puts.{fields_put, next, done}
use Rattle.records.proofs.junction.NodeJunctionStored.write.Goals as goal

pub returns : goal.returns
unfolding junction_bytes number_bytes
returns c =
    let n = c.args.self in
    let max_z = signed_put n.max_z _ _ (omega arith) c.write.ensures in
    let x = signed_put n.position_x _ _ (omega arith) c.write-2.ensures in
    let y = signed_put n.position_y _ _ (omega arith) c.write-3.ensures in
    let min_z = signed_put n.min_z _ _ (omega arith) c.write-4.ensures in
    fields_put c.args.at (omega arith)
    (next max_z (next x (next y (next min_z (next c.write-5.ensures (next c.write-6.ensures (
    next c.write-7.ensures done)))))))
