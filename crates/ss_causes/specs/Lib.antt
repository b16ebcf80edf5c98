-- The definitions of what brought the last frame of a state about, and of WHY CAUSE and BACK CAUSE.
pub mod Causes
pub mod Turn
pub mod View
pub mod Laws
