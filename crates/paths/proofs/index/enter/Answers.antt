use Rattle.std.proofs.Common.{refl}
use Rattle.paths.proofs.IndexLaws.{entered_new, entered_known}
use Rattle.paths.proofs.index.enter.Goals as goal

pub returns-then-is_none : goal.returns-then-is_none
returns-then-is_none c =
    let p = c.requires in
    entered_new _ _ _ _ _ p.1 p.2 refl c.entry_of.ensures c.if-is_none.ensures
    _ _ p.0.few p.0.room refl c.link.ensures

pub returns-else-is_none : goal.returns-else-is_none
returns-else-is_none c =
    entered_known _ _ _ _ _ c.requires.1 c.requires.2 refl c.entry_of.ensures c.if-is_none.ensures
