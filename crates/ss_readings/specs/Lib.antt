-- The definitions of what a question reads in the states of a run: its value, the steps at which it
-- changes, the movements there, and its history.
pub mod Value
pub mod ValueView
pub mod Subject
pub mod Seen
pub mod Changes
pub mod History
pub mod Followed
