-- The definitions of the variables that an editor shows: references, pages, frames, scopes, and
-- laws.
pub mod References
pub mod Pages
pub mod Frames
pub mod Kept
pub mod Entities
pub mod Sets
pub mod Events
pub mod Variables
pub mod Laws
