-- The definitions of what a statement looks at: the parts of a state, their values and names, and which of them the
-- statements of a program name.
pub mod Values
pub mod Same
pub mod Scenes
pub mod SceneView
pub mod Written
pub mod Expressions
pub mod Places
pub mod Reads
pub mod Answers
