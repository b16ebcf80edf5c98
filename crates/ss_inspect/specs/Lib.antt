-- The definitions of the answers that show a state: shared texts, the answers, laws and examples.
pub mod Texts
pub mod Frames
pub mod Living
pub mod Attribute
pub mod Lists
pub mod Tables
pub mod Overviews
pub mod Laws
pub mod Examples
