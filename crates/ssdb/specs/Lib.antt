-- The definitions of a dialogue about a model: how it begins and ends, and the words for
-- completion.
pub mod Seen
pub mod Refused
pub mod Completion
pub mod Opening
pub mod Stops
pub mod Failures
