-- The definitions of a program call: the questions and measures that its words name, and its exit
-- status.
pub mod Questions
pub mod Measures
pub mod MeasuresView
pub mod Causes
