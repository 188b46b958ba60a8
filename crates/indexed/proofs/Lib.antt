pub mod IndexLaws
pub mod PlaceLaws
pub mod WalkLaws
pub mod Worked
