pub mod Joined
pub mod RowPlaces
