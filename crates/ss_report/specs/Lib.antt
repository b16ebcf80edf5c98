-- The definitions of a report: the text of pictures, and the pieces in which the code keeps them.
pub mod Pictures
pub mod Pieces
