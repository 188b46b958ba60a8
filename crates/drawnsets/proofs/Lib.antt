pub mod MadeLists
pub mod MemberMade
pub mod SetMade
pub mod SetDemand
pub mod SetExample
