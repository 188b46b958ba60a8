use Rattle.std.proofs.Common.{rules, ◌≡◌, ap}
use mathlib.Core.Path.{◌∙◌, sym}
use Rattle.std.specs.Prelude.{All, [], take}
use Rattle.cells.specs.Memory.{memory}
use Rattle.cells.specs.Write.{WriteLeft, held, left, write_call}
use Rattle.cells.specs.WriteCounts.{Sized}
use Rattle.cells.specs.Read.{read_of}
use Rattle.cells.proofs.Rules.{write_laws}
use Rattle.cells.proofs.WritingBack.BackCheck.{read_after_write}
use Rattle.cells.proofs.write.write.Goals as goal

pub returns-clause-reads_back : goal.returns-clause-reads_back
unfolding write_call
returns-clause-reads_back c n lent e =
    let a = c.args in
    let m = memory a.ynd a.nodes.now a.links.now a.junctions.now a.heights.now a.refs.now in
    let s = a.section.now in
    let w : left c.store.result c.store.new.section ≡ write_call m s = search (rules, write_laws) in
    let sized : All Sized (held m).junctions = search rules in
    ap (λ (x : WriteLeft). (read_of (take n x.section) [] lent).answer) w
    ∙ read_after_write m lent sized s n (ap (λ (x : WriteLeft). x.answer) (sym w) ∙ e)
