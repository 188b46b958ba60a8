pub mod FollowInSet
