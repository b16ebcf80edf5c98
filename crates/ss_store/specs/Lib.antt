-- The files of this crate's definitions: the store, its value, its private parts and its laws.
pub mod Tables
pub mod Lists
pub mod Store
pub mod Filing
pub mod Rows
pub mod Value
pub mod Parts
pub mod Invariant
pub mod Finding
pub mod Order
pub mod Making
pub mod Writing
pub mod Change
pub mod WellStore
pub mod Places
pub mod Examples
