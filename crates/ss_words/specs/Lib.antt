-- The definitions of this crate: refusals and faults, readings, plain words, and the words of a
-- text.
pub mod Faults
pub mod Outcomes
pub mod Ranges
pub mod Words
pub mod Plain
pub mod Reading
pub mod Marks
pub mod Lists
pub mod Farthest
pub mod Noting
pub mod Spellings
pub mod PlainRules
pub mod PlainRulesView
pub mod PlainLaws
pub mod TextBytes
pub mod TextLines
pub mod TextRuns
pub mod TextWords
pub mod TextScan
pub mod TextSpelling
pub mod TextOrder
pub mod TextRefusal
pub mod TextLimits
