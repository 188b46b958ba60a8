pub mod WalkIndexed
pub mod FirstPlaces
pub mod FollowIndexed
