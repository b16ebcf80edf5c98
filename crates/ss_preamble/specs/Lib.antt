-- The modules that specify preambles: items, their spelling and reading, limits, and laws.
pub mod Tree
pub mod Spelling
pub mod Roles
pub mod Limits
pub mod WordLimits
pub mod Tally
pub mod Written
pub mod Refused
pub mod View
pub mod ItemReading
pub mod ItemsAtLines
pub mod Laws
pub mod Examples
