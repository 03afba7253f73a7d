pub mod Stretch
pub mod Steps
