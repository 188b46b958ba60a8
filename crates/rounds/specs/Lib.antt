pub mod Round
pub mod Follow
pub mod Numbers
