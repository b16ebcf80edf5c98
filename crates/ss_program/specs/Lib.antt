-- The definitions of this crate that other crates may use come from these modules.
pub mod ProgramExpr
pub mod ProgramExprCode
pub mod Program
pub mod ProgramSound
pub mod Names
pub mod NameMeaning
pub mod Examples
pub mod Keys
pub mod EventTable
pub mod NameIndex
pub mod ProgramCondition
pub mod ProgramConditionCode
pub mod Match
pub mod Nesting
pub mod Pairings
pub mod CountMap
pub mod Lowering
