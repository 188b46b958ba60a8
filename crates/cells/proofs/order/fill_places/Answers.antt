use Rattle.std.proofs.Common.{arith}
use Rattle.std.proofs.lemmas.Grind.{common_steps}
use Rattle.cells.proofs.Renumbering.Placed.{placing_starts, turn_ped, turn_vehicle, placed, all_placed}
use Rattle.cells.specs.Nodes.{no_entry}
use Rattle.cells.proofs.order.fill_places.Goals as goal
use Rattle.cells.specs.Nodes.{no_entry}
use Rattle.cells.proofs.order.fill_places.Goals.{then-is_ped, else-is_ped}

pub loop-i-init : goal.loop-i-init
loop-i-init c =
    record {
      few_vehicles = omega arith;
      few_peds = omega arith;
      placing = placing_starts c.args.nodes.now
          c.args.places.now c.args.first c.requires.2;
    }

pub loop-i-preserved : goal.loop-i-preserved
loop-i-preserved c =
    let l = c.loop-i in
    let a = c.args in
    elim c.if-is_ped.branch [
      | then-is_ped w ↦ record {
        few_vehicles = omega arith;
        few_peds = omega arith;
        placing = placed w.places-is w.v-is w.p-is
            (turn_ped a.nodes.now a.places.now l.places l.i l.v l.p no_entry (omega arith)
            (omega arith) l.invariant.placing
            (grind (arith, common_steps)));
      }
      | else-is_ped w ↦ record {
        few_vehicles = omega arith;
        few_peds = omega arith;
        placing = placed w.places-is w.v-is w.p-is
            (turn_vehicle a.nodes.now a.places.now l.places l.i l.v l.p no_entry (omega arith) (omega arith)
            l.invariant.placing (grind (arith, common_steps)));
      }
    ]

pub returns : goal.returns
returns c = all_placed c.args.nodes.now c.args.places.now c.loop-i.places c.loop-i.i _ _ (omega arith) (omega arith)
    c.loop-i.invariant.placing
