-- The definitions of this crate that other crates may use come from these modules.
pub mod Faults
pub mod Values
pub mod Conditions
pub mod Seen
pub mod Running
