-- The definitions for the tests: the meanings of their answerers.
pub mod Counting
pub mod Echoing
