pub mod Lines
pub mod PieceSteps
pub mod Texts
