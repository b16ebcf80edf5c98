pub mod Nearest
pub mod Least
pub mod Returns
pub mod Consoles
pub mod OneAnswer
pub mod Launches
pub mod LineStops
