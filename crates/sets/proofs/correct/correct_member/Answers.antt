use Rattle.std.proofs.Common.{◌≡◌, ℕ, true, false, get_or, sym, ap, ◌∙◌, ne_eqb}
use Rattle.cells.specs.Area.{belongs}
use Rattle.sets.specs.SetParts.{areas_of}
use Rattle.sets.proofs.CorrectLaws.{part_claimed, part_stays, member_corrected}
use Rattle.sets.proofs.correct.correct_member.Goals as goal

pub returns-then-belongs_to : goal.returns-then-belongs_to
returns-then-belongs_to c o t =
    let a = c.args in
    let claims : belongs (get_or (areas_of a.members.now a.nodes.now) a.i 0) a.renamed.area ≡ true =
    ap (λ (k : ℕ). belongs k a.renamed.area) (sym c.area_of_member.ensures) ∙ sym c.belongs_to.ensures
    ∙ c.if-belongs_to.true in
    part_stays _ _ _ _ (part_claimed _ _ _ _ a.renamed.area c.requires.4 c.requires.5
    (ne_eqb a.i a.j c.if-i-j.false) claims)

pub returns : goal.returns
returns c o t =
    let a = c.args in
    let s = c.count_before-start in
    let n = c.count_in-count in
    let free : belongs (get_or (areas_of a.members.now a.nodes.now) a.i 0) a.renamed.area ≡ false =
    ap (λ (k : ℕ). belongs k a.renamed.area) (sym c.area_of_member.ensures) ∙ sym c.belongs_to.ensures
    ∙ c.if-belongs_to.false in
    member_corrected _ _ _ c.requires.3 c.requires.0 _ _ s.ensures n.ensures.0 _ a.renamed.area c.requires.4
    c.requires.5 (ne_eqb a.i a.j c.if-i-j.false) free _ (c.relabel_all.ensures o t)
