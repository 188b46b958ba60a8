-- Section 4, accessors: the kinds of node that the top five bits of flags1 name, and the speeds of flags5.
use Rattle.std.specs.Prelude.{ℕ, Bool, true, false, cond, eqb}
use Rattle.cells.specs.declared.special.NodeSpecial.{NodeSpecial}
use Rattle.cells.specs.declared.special.NodeSpecial.TheVariants.{None, ParkingSpace, PedNodeRoadCrossing}
use Rattle.cells.specs.declared.special.NodeSpecial.TheVariants.{PedNodeAssistedMovement, TrafficLightJunctionStop}
use Rattle.cells.specs.declared.special.NodeSpecial.TheVariants.{StopSign, Caution, PedRoadCrossingNoWait}
use Rattle.cells.specs.declared.special.NodeSpecial.TheVariants.{EmergencyVehiclesOnly, OffRoadJunction, Other}
use Rattle.cells.specs.declared.special.NodeSpeed.{NodeSpeed}
use Rattle.cells.specs.declared.special.NodeSpeed.TheVariants.{Slow, Normal, Fast, Faster}

unfoldable pub special_of : ℕ → NodeSpecial
special_of v =
    cond (eqb v 0) None
    (cond (eqb v 2) ParkingSpace
    (cond (eqb v 10) PedNodeRoadCrossing
    (cond (eqb v 14) PedNodeAssistedMovement
    (cond (eqb v 15) TrafficLightJunctionStop
    (cond (eqb v 16) StopSign
    (cond (eqb v 17) Caution
    (cond (eqb v 18) PedRoadCrossingNoWait
    (cond (eqb v 19) EmergencyVehiclesOnly
    (cond (eqb v 20) OffRoadJunction
    (Other v))))))))))

abbrev pub special_value : NodeSpecial → ℕ
special_value None = 0
special_value ParkingSpace = 2
special_value PedNodeRoadCrossing = 10
special_value PedNodeAssistedMovement = 14
special_value TrafficLightJunctionStop = 15
special_value StopSign = 16
special_value Caution = 17
special_value PedRoadCrossingNoWait = 18
special_value EmergencyVehiclesOnly = 19
special_value OffRoadJunction = 20
special_value (Other n) = n

abbrev pub is_ped_special : NodeSpecial → Bool
is_ped_special None = false
is_ped_special ParkingSpace = false
is_ped_special PedNodeRoadCrossing = true
is_ped_special PedNodeAssistedMovement = true
is_ped_special TrafficLightJunctionStop = false
is_ped_special StopSign = false
is_ped_special Caution = false
is_ped_special PedRoadCrossingNoWait = true
is_ped_special EmergencyVehiclesOnly = false
is_ped_special OffRoadJunction = false
is_ped_special (Other n) = false

unfoldable pub speed_of : ℕ → NodeSpeed
speed_of v = cond (eqb v 0) Slow (cond (eqb v 1) Normal (cond (eqb v 2) Fast Faster))

abbrev pub speed_value : NodeSpeed → ℕ
speed_value Slow = 0
speed_value Normal = 1
speed_value Fast = 2
speed_value Faster = 3
