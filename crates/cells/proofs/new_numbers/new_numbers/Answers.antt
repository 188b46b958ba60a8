use Rattle.std.proofs.Common.{◌≡◌, length, take, arith, length-take-le}
use Rattle.cells.proofs.Renumbering.NumberTable.{call_done}
use Rattle.cells.proofs.new_numbers.new_numbers.Goals as goal

pub put_numbers-requires : goal.put_numbers-requires
put_numbers-requires c =
    let long : length (take 65536 c.args.table.now) ≡ 65536 = length-take-le 65536 c.args.table.now (omega arith) in
    (omega arith, c.fill_places.ensures, c.keep_numbers.ensures)

pub returns : goal.returns
returns c =
    let a = c.args in
    let long : length (take 65536 a.table.now) ≡ 65536 = length-take-le 65536 a.table.now (omega arith) in
    call_done a.n a.nodes.now a.table.now a.places.now c.put_numbers.new.table c.fill_places.new.places
    (omega arith) (omega arith) (omega arith) (omega arith)
    (omega arith) c.put_numbers.ensures c.fill_places.ensures
