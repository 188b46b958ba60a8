use mathlib.Core.Path.{sym, ◌∙◌}
use Rattle.sets.proofs.MemberPartLaws.{open_done}
use Rattle.sets.proofs.MemberEditLaws.{lens_lie}
use Rattle.sets.proofs.member.open_member.Goals as goal

pub returns-clause-inside : goal.returns-clause-inside
returns-clause-inside c =
    lens_lie _ _ _ _ (open_done _ _ _ _ _ _ (sym c.in_ok-check_member.was ∙ c.check_member.ensures)
    c.ynd_of-ynd.ensures c.starts_of-a.ensures c.starts_of-e.ensures)
