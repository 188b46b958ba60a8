-- Field by field, one behind the other.
use Rattle.std.proofs.Common.{arith}
use Rattle.records.specs.Bytes.{number_bytes}
use Rattle.records.specs.Records.{node_bytes}
use Rattle.records.proofs.LittleEndian.{signed_put}
use Rattle.records.proofs.Puts.{fields_put, next, done}
use Rattle.records.proofs.node.NodeStored.write.Goals as goal

pub returns : goal.returns
unfolding node_bytes number_bytes
returns c =
    let n = c.args.self in
    let x = signed_put n.position_x _ _ (omega arith) c.write-10.ensures in
    let y = signed_put n.position_y _ _ (omega arith) c.write-11.ensures in
    let z = signed_put n.position_z _ _ (omega arith) c.write-14.ensures in
    fields_put c.args.at (omega arith)
    (next c.write.ensures (next c.write-2.ensures (next c.write-3.ensures (next c.write-4.ensures (
    next c.write-5.ensures (next c.write-6.ensures (next c.write-7.ensures (next c.write-8.ensures (
    next c.write-9.ensures (next x (next y (next c.write-12.ensures (next c.write-13.ensures (next z (
    next c.write-15.ensures (next c.write-16.ensures (next c.write-17.ensures
    (next c.write-18.ensures done))))))))))))))))))
