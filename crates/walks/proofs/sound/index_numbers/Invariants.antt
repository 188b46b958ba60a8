use Rattle.std.proofs.Common.{◌≡◌}
use Rattle.cells.specs.LookupCall.{numbers_in}
use Rattle.cells.specs.RenumberParts.{Indexed}
use Rattle.walks.specs.SoundCall.{indexed}
use Rattle.walks.proofs.sound.index_numbers.Given as goal

abbrev pub invariant-loop-i : goal.invariant-loop-i
invariant-loop-i l = record {
  stored : l.scratch ≡ indexed (numbers_in l.i l.nodes) 0 l.initial.scratch;
  leads : Indexed (numbers_in l.i l.nodes) l.scratch;
}
