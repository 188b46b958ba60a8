-- Section 4, each public field's store: the root's own words, which are fields of the struct.
use Rattle.std.specs.Prelude.{ℕ, List}
use Rattle.cells.specs.declared.ynd.Ynd.{Ynd}

-- the struct with other words of its own, and the same counts of entries
unfoldable pub with_own : Ynd → ℕ → ℕ → ℕ → List ℕ → Ynd
with_own y vft vehicles peds unknowns =
    record y { vft = vft; vehicle_node_count = vehicles; ped_node_count = peds; unknowns = unknowns }

abbrev pub with_vft : Ynd → ℕ → Ynd
with_vft y vft = with_own y vft y.vehicle_node_count y.ped_node_count y.unknowns

abbrev pub with_vehicles : Ynd → ℕ → Ynd
with_vehicles y count = with_own y y.vft count y.ped_node_count y.unknowns

abbrev pub with_peds : Ynd → ℕ → Ynd
with_peds y count = with_own y y.vft y.vehicle_node_count count y.unknowns

abbrev pub with_unknowns : Ynd → List ℕ → Ynd
with_unknowns y words = with_own y y.vft y.vehicle_node_count y.ped_node_count words
