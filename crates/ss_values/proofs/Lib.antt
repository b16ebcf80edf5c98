pub mod Factors
pub mod Options
pub mod LoweredValue
pub mod LoweredSound
