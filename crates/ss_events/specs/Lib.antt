-- The definitions of this crate that other crates may use come from these modules.
pub mod Rules
pub mod Agenda
pub mod State
pub mod Places
pub mod Listings
pub mod Views
pub mod Rows
pub mod Indexes
pub mod Slots
pub mod Changes
pub mod WellAgenda
pub mod Laws
