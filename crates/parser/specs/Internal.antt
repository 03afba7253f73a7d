pub mod Steps
pub mod Computed
