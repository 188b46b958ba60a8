use native.Mathlib.Omega.{arith}
use Rattle.cells.specs.Entries.{links_in}
use Rattle.cells.specs.Blocks.{link_record}
use Rattle.cells.proofs.Rules.{links_laws}
use Rattle.cells.proofs.blocks.put_links.Goals as goal

pub loop-n-preserved : goal.loop-n-preserved
unfolding links_in
loop-n-preserved c =
    let bytes = c.put_records-p.ensures.bytes link_record (λ x r h. h) in
    grind (arith, links_laws, bytes)
