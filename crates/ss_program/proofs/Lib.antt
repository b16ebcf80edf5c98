pub mod Mains
pub mod WaysLength
pub mod Backward
pub mod NameIndex
pub mod CountMaps
