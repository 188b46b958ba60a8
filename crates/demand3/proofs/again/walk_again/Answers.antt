use Rattle.std.proofs.Common.{rules}
use Rattle.numbers.proofs.Refusing.{tested}
use Rattle.demand3.specs.Again.{renew, both_walks, sound_walks, walk_again}
use Rattle.demand3.proofs.AgainLaws.{told, told_shown}
use Rattle.demand3.proofs.again.walk_again.Goals as goal

pub returns-clause-later_after : goal.returns-clause-later_after
unfolding walk_again sound_walks both_walks renew
returns-clause-later_after c = search (rules, tested)

pub returns-clause-same_walks : goal.returns-clause-same_walks
returns-clause-same_walks c = told _ _ _ _ _ _ _ _ _ _ _ (returns-clause-later_after c)

pub returns-clause-same_shown : goal.returns-clause-same_shown
returns-clause-same_shown c = told_shown _ _ _ _ _ _ _ _ _ _ _ (returns-clause-later_after c)
