use Rattle.std.proofs.Common.{refl, arith}
use Rattle.sets.proofs.CrossCases.{starts, lent_by, start_small, walked}
use Rattle.sets.specs.CellSet.{cell_set}
use Rattle.sets.specs.Crossing.{location}
use Rattle.sets.proofs.crossing.walk_started.Goals as goal

pub new-set-requires : goal.new-set-requires
new-set-requires c =
    let a = c.args in
    let s = starts a.members.now a.nodes.now a.links.now _ c.requires in
    (lent_by _ _ _ _ _ s refl, s.links_hold)

pub overflow_cast-start-2 : goal.overflow_cast-start-2
overflow_cast-start-2 c =
    let a = c.args in
    let small = start_small (starts a.members.now a.nodes.now a.links.now (location a.member a.place) c.requires) in
    omega (arith, small)

pub returns : goal.returns
returns c = λ js hs rs.
    let a = c.args in
    let s = c.new-set.ensures in
    walked (cell_set a.members.now a.nodes.now a.links.now js hs rs) a.choices.now (location a.member a.place)
    a.visited.now
    c.requires _ _ (rw (s.0, s.1, s.2) at c.walk_from.ensures)
