use mathlib.Core.Path.{subst}
use Rattle.sets.specs.SetSoundParts.{ShortNumbers}
use Rattle.sets.proofs.world.World.numbers_short.Goals as goal

pub returns : goal.returns
returns c = subst ShortNumbers c.own_entries.ensures.value c.short_numbers.ensures
