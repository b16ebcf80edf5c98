pub mod Searching
pub mod Arriving
pub mod Asking
pub mod CauseLaws
