pub mod Parts
pub mod WordLists
pub mod Gaps
pub mod Sayings
pub mod OneSaying
pub mod AfterIf
pub mod TypedLines
pub mod Listed
