pub mod Lines
pub mod Turns
pub mod Endings
