use native.Mathlib.Omega.{arith}
use Rattle.cells.specs.Held.{memory_of}
use Rattle.cells.proofs.Writing.WriteSteps.{ending, arrays_room}
use Rattle.cells.proofs.write.store.Goals as goal

pub put_arrays-requires-clause-room : goal.put_arrays-requires-clause-room
put_arrays-requires-clause-room c =
    let e = ending (memory_of c.args.h) c.args.k c.requires c.places_for-places.result c.places_for-places.ensures in
    omega (arith, arrays_room (memory_of c.args.h), e)
