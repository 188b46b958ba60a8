pub mod Answers
pub mod Files
pub mod FollowLaws
pub mod RoundBack
pub mod RoundsUnnoticed
pub mod VersionBack
pub mod VersionAnswers
pub mod VersionsUnnoticed
