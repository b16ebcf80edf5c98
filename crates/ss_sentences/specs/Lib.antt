-- The definitions of this crate: sentences of codes, words that could be at a place, hints, and the
-- explanation of a refused model.
pub mod Wording
pub mod Grammar
pub mod Candidates
pub mod Expected
pub mod Pieces
pub mod Hints
pub mod Near
pub mod Meant
pub mod Breach
pub mod Unread
pub mod Refusals
pub mod Laws
pub mod Fitting
pub mod Misread
pub mod Typed
