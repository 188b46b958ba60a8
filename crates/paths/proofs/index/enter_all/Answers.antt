use Rattle.cells.specs.Nodes.{number_at}
use Rattle.paths.proofs.IndexLaws.{no_heads}
use Rattle.paths.proofs.index.enter_all.Goals as goal

pub loop-i-init : goal.loop-i-init
loop-i-init c =
    no_heads _ (number_at c.args.nodes.now) _ c.requires.1 c.clear_heads.ensures
