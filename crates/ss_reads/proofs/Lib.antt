pub mod Scenes
pub mod Lists
pub mod Notices
pub mod Statements
pub mod Firsts
