pub mod Seeing
pub mod Tables
