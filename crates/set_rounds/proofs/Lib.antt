pub mod FollowLaws
pub mod RoundsUnnoticed
pub mod Example
