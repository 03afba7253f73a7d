pub mod Computed
pub mod Steps
