use mathlib.Core.Path.{ap, sym}
use Rattle.exports.specs.SetTold.{edit_told}
use Rattle.exports.proofs.member_junctions.ynd_member_put_junction.Goals as goal

-- the entry stands under a λ, where `search` does not rewrite
pub returns : goal.returns
returns c u =
    rw (sym c.from.ensures, c.answer.ensures.number, c.answer.ensures.place)
    (ap edit_told (c.put_junction_member-r.ensures u))
