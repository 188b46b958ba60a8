use Rattle.std.proofs.Common.{◌∙◌, arith, rules}
use borrow.Author.Tests.{tests}
use Rattle.std.proofs.lemmas.Iterator.{YieldsList-from_slice}
use Rattle.std.proofs.lemmas.Iterator.Search.{position_from_yields_List}
use Rattle.std.specs.Prelude.{◌==◌}
use Rattle.cells.specs.Nodes.{no_entry, number_of}
use Rattle.cells.proofs.Lookups.LookupLaws.{find_past, find_other, first_is}
use Rattle.cells.proofs.lookup.find_in.Goals as goal
use Rattle.cells.proofs.lookup.find_in.Goals.{else-k-nodes-via-then-k-nodes+else-nodes-k}
use Rattle.cells.proofs.lookup.find_in.Goals.{else-k-nodes-via-else-k-nodes}

pub returns : goal.returns
returns c =
    let ns = c.args.nodes.now in
    let k = c.args.node_id in
    position_from_yields_List (λ n. number_of n == k) _ _ c.position.result c.position.ensures.ran
    (YieldsList-from_slice ns cc) (λ x b q k. search (rules, tests))
    ∙ first_is ns k ∙ elim c.else-k-nodes.branch [
      | else-k-nodes-via-then-k-nodes+else-nodes-k w ↦ find_other ns _ k _ (omega arith) (omega arith)
          w.if-nodes-k.false
      | else-k-nodes-via-else-k-nodes w ↦ find_past ns _ k no_entry (omega arith) (omega arith)
    ]
