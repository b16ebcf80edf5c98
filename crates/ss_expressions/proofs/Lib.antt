pub mod AfterIf
pub mod Lists
pub mod LocalNames
pub mod Scopes
pub mod Frames
pub mod References
pub mod BreakAims
