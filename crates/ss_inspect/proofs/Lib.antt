pub mod Unfoldings
pub mod TextSequences
pub mod Numbers
pub mod Members
pub mod LivingNumbers
pub mod Shapes
