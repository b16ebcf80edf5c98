-- The definition of a run comes from these modules: its state, its step, and the notes for undoing.
pub mod State
pub mod Frames
pub mod Loops
pub mod Readings
pub mod Statements
pub mod Step
pub mod Run
pub mod Held
pub mod Change
pub mod ChangeCounts
pub mod Well
pub mod Laws
pub mod Examples
