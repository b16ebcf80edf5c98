-- The definitions that the contracts of the sparse journal use come from this module.
pub mod Numbered
