use Rattle.std.proofs.Common.{◌≡◌, length}
use Rattle.indexed.specs.FirstPlaces.{FirstPlaces}
use Rattle.indexed.proofs.IndexLaws.{from_place}
use Rattle.indexed.proofs.walk.index_numbers.Given as goal

abbrev pub invariant-loop-i : goal.invariant-loop-i
invariant-loop-i l = record {
  stored : l.scratch ≡ from_place l.nodes l.i l.initial.scratch;
  places : FirstPlaces l.nodes l.i (length l.nodes) l.scratch;
}
