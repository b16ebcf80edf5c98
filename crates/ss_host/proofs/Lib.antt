pub mod EmptyAppends
pub mod Limits
