pub mod Streams
pub mod Pieces
pub mod Heads
pub mod Points
pub mod Posts
pub mod FrameLaws
