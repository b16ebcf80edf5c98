-- The definitions of a journal: its contents, how its stores hold them, and undoing.
pub mod Log
pub mod Pieces
pub mod Undoing
