-- The definitions of a step's changes: parts of a state, their values, texts, laws and examples.
pub mod Values
pub mod Parts
pub mod Changes
pub mod Texts
pub mod View
pub mod Snapshots
pub mod Laws
pub mod Examples
