-- Lookups in lent lists are lookups in the cell.
pub mod LookupLaws
pub mod AreaLaws
