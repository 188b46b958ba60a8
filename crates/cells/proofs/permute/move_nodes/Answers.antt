use Rattle.std.proofs.Common.{ap, ◌∙◌}
use Rattle.cells.specs.Nodes.{is_ped, number_from, reordered}
use Rattle.cells.specs.Order.{parted}
use Rattle.cells.proofs.Renumbering.Reordered.{they_lead}
use Rattle.cells.proofs.Renumbering.CellRenumbered.{parted_length}
use Rattle.cells.proofs.permute.move_nodes.Goals as goal

pub returns : goal.returns
unfolding reordered
returns c =
    let ws = c.args.nodes.now in
    let moved = c.permute.ensures (parted is_ped ws) (parted_length ws)
    (rw (c.copy_over.ensures, c.requires.2) (they_lead ws)) in
    c.number_all.ensures ∙ ap (number_from 0) moved
