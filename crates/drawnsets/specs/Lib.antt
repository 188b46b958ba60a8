pub mod SetChanges
pub mod AllMade
pub mod Claim
