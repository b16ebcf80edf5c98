-- The definitions of an editor's session: the files that launch reads, its answers, its exit
-- status.
pub mod Shelves
pub mod Editing
pub mod Stops
