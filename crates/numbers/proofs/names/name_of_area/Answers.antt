use Rattle.std.proofs.Common.{lt-ltb, refl}
use Rattle.numbers.specs.Names.{named}
use Rattle.numbers.proofs.NameLaws.{area_name}
use Rattle.numbers.proofs.names.name_of_area.Goals as goal

pub returns-then-area-lt10 : goal.returns-then-area-lt10
unfolding named
returns-then-area-lt10 c =
    let n = c.args.area in
    rw (area_name n c.requires, lt-ltb n 10 c.if-area-lt10.true, c.digit_of.ensures) refl
