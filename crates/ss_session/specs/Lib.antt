-- The modules of a session: a model's outcome, the transcript, the end, and the laws on them.
pub mod Outlet
pub mod Exit
pub mod Refused
pub mod Model
pub mod Load
pub mod Texts
pub mod Written
pub mod Transcript
pub mod Session
pub mod Laws
pub mod Examples
pub mod Private
