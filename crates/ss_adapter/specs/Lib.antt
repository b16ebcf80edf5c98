-- The definitions of the adapter: the answers to an editor's requests, and the states after them.
pub mod Desk
pub mod Words
pub mod Completions
pub mod Places
pub mod Looking
pub mod Reach
pub mod Going
pub mod Targets
pub mod Watch
pub mod Console
pub mod Turn
pub mod Refused
pub mod Before
pub mod Laws
