-- The definitions of expressions, conditions, lists and classes that are asked at the prompt: how
-- they are read, how they are answered, their values, and in which states a condition holds.
pub mod Asked
pub mod AskedView
pub mod Wanted
pub mod WantedView
pub mod LocalNames
pub mod Senses
pub mod SensesView
pub mod Answers
pub mod Meanings
pub mod MeaningsView
pub mod Displayed
pub mod Aims
pub mod AimsView
pub mod Valued
pub mod ValuedView
pub mod BreakAims
