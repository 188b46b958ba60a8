use Rattle.std.proofs.Common.{◌+◌, ◌≤◌}
use Rattle.cells.proofs.Renumbering.Placed.{Placing}
use Rattle.cells.proofs.order.fill_places.Given as goal

abbrev pub invariant-loop-i : goal.invariant-loop-i
invariant-loop-i l = record {
  few_vehicles : l.v ≤ l.i;
  few_peds : l.p ≤ l.first + l.i;
  placing : Placing l.nodes l.initial.places l.places l.i l.v l.p;
}
