pub mod Status
pub mod Step
